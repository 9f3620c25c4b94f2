-- Numbers of callbacks that go out at once, in all and to each host and port.
use Rattle.std.specs.Prelude.{◌≡◌, ◌<◌, ◌≤◌, ◌≢◌, ℕ, List, String, unwrap_or}
use Rattle.std.specs.BTreeMap.{BTreeMap, get_by_text}
use Rattle.std.specs.Global.{Global}

-- the number of callbacks to a host and port
abbrev pub at : BTreeMap (String Global) ℕ → List ℕ → ℕ
at by_host socket = unwrap_or (get_by_text by_host socket) 0

-- one more callback may go to a host and port: fewer go in all, and to it, than may
abbrev pub HasRoom : ℕ → ℕ → BTreeMap (String Global) ℕ → ℕ → List ℕ → Type 0
HasRoom taken most by_host each socket = (taken < most) × (at by_host socket < each)

-- no more callbacks go to any host and port than may
abbrev pub IsWithin : BTreeMap (String Global) ℕ → ℕ → Type 0
IsWithin by_host each = (socket : List ℕ) → at by_host socket ≤ each

-- as many callbacks go to each host and port as before
abbrev pub AllStay : BTreeMap (String Global) ℕ → BTreeMap (String Global) ℕ → Type 0
AllStay old new = (socket : List ℕ) → at new socket ≡ at old socket

-- as many callbacks go to each other host and port as before
abbrev pub OthersStay : BTreeMap (String Global) ℕ → BTreeMap (String Global) ℕ → List ℕ → Type 0
OthersStay old new socket = (other : List ℕ) → other ≢ socket → at new other ≡ at old other
