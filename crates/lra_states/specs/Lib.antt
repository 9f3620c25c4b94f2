pub mod Counts
pub mod inner
