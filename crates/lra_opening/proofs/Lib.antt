pub mod Pieces
pub mod Refused
pub mod Mending
pub mod Going
