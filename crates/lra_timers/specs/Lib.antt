pub mod Moments
pub mod Order
pub mod Pauses
pub mod Planned
pub mod inner
