pub mod Counting
pub mod Replacing
