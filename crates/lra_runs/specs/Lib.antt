pub mod Script
pub mod Requests
pub mod Play
pub mod Tasks
pub mod inner
