pub mod Verdicts
pub mod OneVerdict
pub mod Accounts
pub mod Heard
pub mod Feeding
pub mod inner
