pub mod Remainders
pub mod AddressFacts
pub mod ParsedValid
