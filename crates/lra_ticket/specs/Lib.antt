pub mod History
pub mod Views
pub mod Rule
pub mod Locks
pub mod Example
pub mod inner
