pub mod Asks
pub mod Limited
pub mod Made
pub mod Stays
pub mod Translated
