pub mod Faults
pub mod Places
pub mod Opened
pub mod Ends
