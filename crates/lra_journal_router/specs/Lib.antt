pub mod inner
pub mod Naming
pub mod Serving
pub mod Laws
pub mod Waiting
pub mod JournalRouters
