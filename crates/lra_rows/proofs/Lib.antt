pub mod Finding
mod AskNumbers
pub mod Numbered
pub mod Reaching
pub mod Rooms
pub mod Settling
pub mod SnapshotCounts
pub mod Steps
mod Texts
