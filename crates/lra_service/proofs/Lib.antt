pub mod Pushed
pub mod Going
pub mod Own
