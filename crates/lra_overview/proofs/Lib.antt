pub mod Chains
pub mod Marks
pub mod Refers
pub mod Referring
pub mod Stems
