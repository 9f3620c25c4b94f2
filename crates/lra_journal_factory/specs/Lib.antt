pub mod FirstOpen
