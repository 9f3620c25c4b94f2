pub mod Routing
pub mod Utf8
pub mod Prefixes
pub mod Objects
