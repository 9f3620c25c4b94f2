pub mod Folders
pub mod inner
