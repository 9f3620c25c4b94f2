pub mod Schedules
pub mod inner
