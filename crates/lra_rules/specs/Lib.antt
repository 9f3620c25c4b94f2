pub mod inner
pub mod Texts
pub mod Networks
pub mod Rules
