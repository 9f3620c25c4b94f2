pub mod inner
pub mod Admitting
