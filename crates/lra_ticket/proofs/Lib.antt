mod Counts
pub mod Histories
pub mod Keeps
