pub use Rattle.lra_addresses.specs.Addresses
pub mod Identifiers
pub mod Bases
pub mod Bearing
pub mod InstanceLaws
pub mod Sites
pub mod SiteLaws
