-- Definitions that only private functions and proofs use. No public contract depends on them.
pub mod Hears
pub mod Ids
pub mod Draws
pub mod Registered
pub mod Tallied
pub mod Called
