pub mod System
pub mod Fences
