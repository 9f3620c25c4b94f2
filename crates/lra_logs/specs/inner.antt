pub mod Matters
pub mod Passing
pub mod Sayings
pub mod Urgent
pub mod Outcomes
