mod Routing
mod Replying
pub mod Bodies
mod Requesting
mod TimedRequest
mod Streaming
pub mod Transcribed
mod InTurn
mod Listing
mod Worked
