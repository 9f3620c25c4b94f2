pub mod Steps
pub mod Queue
