pub mod ResponseParse
pub mod Slots
