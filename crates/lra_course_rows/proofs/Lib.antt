pub mod Index
pub mod Counting
