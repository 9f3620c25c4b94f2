-- The words that private functions and proofs alone use: no public contract stands on them.
pub mod Given
pub mod Placed
pub mod TakenUp
pub mod Standing
