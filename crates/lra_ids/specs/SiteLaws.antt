-- Identifiers begin with their site, so that those of two sites never meet.
use Rattle.std.specs.Prelude.{◌≡◌, ◌<◌, ◌≤◌, ◌↔◌, ℕ, ◌+◌, ◌*◌, ◌^◌, List, ◌++◌, take, codes}
use mathlib.Core.List.{IsPrefix}
use Rattle.lra_ids.specs.Identifiers.{id_text, action_uri, recovery_uri}
use Rattle.lra_ids.specs.InstanceLaws.{IsBorne}
use Rattle.lra_ids.specs.Sites.{site_of, site_text, IsUriOf}

-- the first four characters of an identifier are the digits of its site
abbrev pub BeginWithTheirSite : Type 0
BeginWithTheirSite = (i n : ℕ) → IsBorne i n → take 4 (id_text i n) ≡ site_text (site_of i)

-- the URI of an action begins with its base, its path and the digits of its site
abbrev pub ActionsBeginWithTheirSite : Type 0
ActionsBeginWithTheirSite = (i n : ℕ) (base : List ℕ) → IsBorne i n
    → IsPrefix (base ++ codes "lra-coordinator/" ++ site_text (site_of i)) (action_uri i base n)

-- so does the recovery URI of a member
abbrev pub RecoveriesBeginWithTheirSite : Type 0
RecoveriesBeginWithTheirSite = (i n : ℕ) (base : List ℕ) → IsBorne i n
    → IsPrefix (base ++ codes "lra-recovery/" ++ site_text (site_of i)) (recovery_uri i base n)

-- identifiers whose first four characters are the same are of one site
abbrev pub TellSitesApart : Type 0
TellSitesApart = (i j n m : ℕ) → IsBorne i n → IsBorne j m → take 4 (id_text i n) ≡ take 4 (id_text j m) → site_of i
    ≡ site_of j

-- a URI is of one site alone
abbrev pub NeverMeet : Type 0
NeverMeet = (i j : ℕ) (uri : List ℕ) → IsUriOf i uri → IsUriOf j uri → site_of i ≡ site_of j

-- the instances of a site are the 2^44 from its first on
abbrev pub AreRanges : Type 0
AreRanges = (site i : ℕ) → (site_of i ≡ site) ↔ ((site * 2 ^ 44 ≤ i) × (i < site * 2 ^ 44 + 2 ^ 44))

-- a site has 16 bits
abbrev pub FitSixteenBits : Type 0
FitSixteenBits = (i : ℕ) → i < 2 ^ 60 → site_of i < 2 ^ 16
