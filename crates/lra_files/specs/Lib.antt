pub mod Small
pub mod Faults
