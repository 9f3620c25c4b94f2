pub mod IdentifierFacts
pub mod Bearings
pub mod Beginnings
mod Worked
