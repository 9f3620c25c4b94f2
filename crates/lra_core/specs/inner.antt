-- Words that private functions and proofs alone use.
pub mod Committing
pub mod Decided
pub mod Kept
pub mod Made
pub mod Opened
pub mod Replied
pub mod Spelled
pub mod Hears
