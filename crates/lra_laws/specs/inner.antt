-- The words that private functions and proofs alone use, here and in the crates above: no public contract cites
-- them.
pub mod Concerned
pub mod RowFacts
