-- Definitions that only private functions and proofs use. No public contract depends on them.
pub mod Causes
pub mod Details
pub mod Players
pub mod RequestReading
