-- Words that private functions and proofs alone use.
pub mod Blocker
pub mod Judged
pub mod Listed
pub mod Stored
pub mod Telling
pub mod Told
pub mod Walks
