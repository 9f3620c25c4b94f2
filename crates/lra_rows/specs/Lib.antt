pub mod Rowed
pub mod Steps
pub mod Found
pub mod inner
