pub mod Connections
pub mod Work
pub mod CallbackExchange
pub mod Handed
