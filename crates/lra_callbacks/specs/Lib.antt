pub mod Held
pub mod Outcomes
pub mod inner
