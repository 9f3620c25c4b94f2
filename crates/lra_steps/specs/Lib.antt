pub mod History
pub mod Steps
pub mod Positions
pub mod Retries
pub mod Pieces
pub mod inner
