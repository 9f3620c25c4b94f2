pub mod Operations
pub mod Routes
pub mod Forms
pub mod Access
pub mod Denials
pub mod Orders
pub mod Replies
pub mod inner
