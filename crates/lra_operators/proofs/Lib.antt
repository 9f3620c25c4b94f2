pub mod Comparing
pub mod Giving
pub mod Texts
pub mod Replying
