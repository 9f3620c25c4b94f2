pub mod Left
pub mod Stays
pub mod Files
