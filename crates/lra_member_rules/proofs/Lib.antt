mod Hosts
mod Joins
