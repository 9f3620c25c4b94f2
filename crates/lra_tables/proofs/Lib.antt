mod Covered
mod Keeping
mod Listed
mod SameMembers
mod Staying
pub mod Adopting
pub mod Firsts
pub mod Read
mod Ranking
pub mod Boards
pub mod Grown
pub mod Marked
pub mod Settles
pub mod Trails
