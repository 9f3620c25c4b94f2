pub mod Decisions
pub mod CommandValues
pub mod inner
