pub mod Feeds
pub mod LegalTexts
pub mod OneVerdict
pub mod OneVerdictWorked
