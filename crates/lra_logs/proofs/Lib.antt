pub mod Digits
pub mod Escaped
pub mod Spelled
pub mod Plain
pub mod Flat
pub mod Made
pub mod Paces
pub mod Chronicled
