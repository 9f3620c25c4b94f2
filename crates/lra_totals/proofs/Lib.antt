pub mod TotalsLaw
pub mod Marks
