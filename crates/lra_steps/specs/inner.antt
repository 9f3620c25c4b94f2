-- Definitions that only private functions and proofs use.
pub mod Ends
pub mod Fields
pub mod Feeding
pub mod Alone
