pub mod Replies
pub mod Telling
pub mod inner
