pub mod GivenUp
pub mod Faults
pub mod Refusals
pub mod inner
