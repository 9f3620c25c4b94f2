pub mod RowsLaw
pub mod RowsWorked
pub mod ListingLaw
pub mod Faults
pub mod Courses
