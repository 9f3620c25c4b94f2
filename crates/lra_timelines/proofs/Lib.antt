pub mod Hearing
pub mod Pieces
pub mod Rows
pub mod Writing
pub mod Naming
pub mod Calling
pub mod Noting
pub mod Listed
