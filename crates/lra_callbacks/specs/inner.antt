-- Definitions that only private functions and proofs use.
pub mod Attempts
pub mod Ends
pub mod Quota
pub mod Replies
pub mod Resting
pub mod SilentMembers
pub mod Targets
