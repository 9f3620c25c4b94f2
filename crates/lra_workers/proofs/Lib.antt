pub mod Answering
pub mod Working
pub mod Refusing
pub mod Holding
pub mod CallbackExchangeOn
