pub mod Firsts
pub mod Index
pub mod Lookups
pub mod Matches
pub mod Orders
pub mod Root
pub mod Widened
