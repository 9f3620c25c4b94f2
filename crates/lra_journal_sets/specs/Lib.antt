pub mod inner
pub mod JournalSets
pub mod Runs
pub mod Laws
pub mod Serving
pub mod Counted
pub mod Known
