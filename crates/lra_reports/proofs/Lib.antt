pub mod Lines
pub mod Versions
pub mod Sourced
pub mod Fronts
pub mod Worded
pub mod Kept
