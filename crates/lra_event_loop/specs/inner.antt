-- Definitions that only private functions and proofs use.
pub mod Dues
pub mod Stretches
pub mod Noting
