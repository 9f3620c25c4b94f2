pub mod Nested
pub mod Asks
pub mod Reached
pub mod Room
pub mod Changes
pub mod Counts
pub mod Held
pub mod Pieces
