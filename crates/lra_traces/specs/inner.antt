-- Definitions that only private functions use.
pub mod Actions
pub mod Generations
