pub mod PlainAddresses
