pub mod Faults
pub mod Keys
pub mod Stops
pub mod Syncs
pub mod inner
