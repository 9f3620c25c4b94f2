pub mod Found
pub mod Firsts
pub mod FirstMoment
pub mod Renewed
