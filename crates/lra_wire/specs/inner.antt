-- Definitions that only private functions and proofs use.
pub mod Growth
pub mod Fields
pub mod Heads
pub mod RequestParse
pub mod Wanted
pub mod Chunked
pub mod Parts
pub mod Reading
pub mod CodedParts
