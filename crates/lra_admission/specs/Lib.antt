pub mod inner
pub mod Lines
pub mod Keys
pub mod Names
pub mod Admitting
pub mod Serving
