pub mod Limited
pub mod Sited
pub mod inner
