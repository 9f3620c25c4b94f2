pub mod Report
pub mod Faults
pub mod Taking
pub mod inner
