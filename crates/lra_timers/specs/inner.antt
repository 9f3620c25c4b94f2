pub mod Schedule
pub mod Tree
