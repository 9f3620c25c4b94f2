pub mod Start
pub mod inner
