pub mod Verdicts
pub mod Listed
pub mod Listings
pub mod Course
pub mod ListedRows
