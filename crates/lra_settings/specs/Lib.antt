pub mod Parameters
pub mod Settings
pub mod Given
pub mod Descriptors
