-- The words that private functions and proofs alone use: no public contract stands on them.
pub mod Plain
