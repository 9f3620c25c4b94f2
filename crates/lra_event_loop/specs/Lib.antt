pub mod Answered
pub mod Clients
pub mod Waiting
pub mod inner
