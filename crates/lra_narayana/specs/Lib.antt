pub mod Operations
pub mod Texts
pub mod Routes
pub mod Queries
pub mod Links
pub mod Meant
pub mod Spelled
