-- What an address keeps of the URL that it is.
use Rattle.std.specs.Prelude.{◌≡◌, true, codes}
use Rattle.url.specs.Parts.{Parts, serialize}
use Rattle.lra_addresses.specs.Addresses.{is_address}

-- the URL is an address, and its text the address that it is
pub record IsAddressUrl (url : Parts) : Type 0 where
  pub scheme : url.scheme ≡ codes "http"
  pub own : is_address (serialize url) ≡ true
