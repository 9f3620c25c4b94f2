pub mod Visits
pub mod Targets
