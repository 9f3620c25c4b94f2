pub mod Summaries
pub mod Totals
