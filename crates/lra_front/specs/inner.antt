pub mod Seen
pub mod Reads
pub mod Holds
pub mod Finds
pub mod Tellable
pub mod Sending
