pub mod inner
pub mod Ruling
pub mod Serving
