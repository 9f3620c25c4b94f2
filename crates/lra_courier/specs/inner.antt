-- Definitions that only private functions and proofs use.
pub mod Fields
pub mod Holding
pub mod Told
