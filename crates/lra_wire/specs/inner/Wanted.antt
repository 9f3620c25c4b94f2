-- Bytes that have to come before more can be read, and what holds until they do.
use Rattle.std.specs.Prelude.{◌≡◌, ℕ, ◌+◌, ◌<◌, ◌≤◌, ◌==◌, List, ◌++◌, length, drop, ⊤, false}
use Rattle.lra_wire.specs.declared.fault.WireFault.{WireFault}
use Rattle.lra_wire.specs.Response.{AwaitsResponse}
use Rattle.std.specs.List.{list_any}
use Rattle.lra_wire.specs.declared.wanted.Wanted.{Wanted}
use Rattle.lra_wire.specs.declared.wanted.Wanted.TheVariants.{Feed, Bytes}
use Rattle.lra_wire.specs.ResponseParse.{Lasts}

-- what is wanted hasn't come: a line feed after so many bytes, or so many bytes in all
abbrev pub IsMissing : Wanted → List ℕ → Type 0
IsMissing (Feed looked) bytes = list_any (λ b. b == 10) (drop looked bytes) ≡ false
IsMissing (Bytes count) bytes = length bytes < count

-- the least number of bytes that there are once it came
abbrev pub count_wanted : Wanted → ℕ
count_wanted (Feed looked) = looked + 1
count_wanted (Bytes count) = count

-- there are as many bytes as were searched for a line feed
abbrev pub HasLooked : Wanted → List ℕ → Type 0
HasLooked (Feed looked) bytes = looked ≤ length bytes
HasLooked (Bytes count) bytes = ⊤

-- the bytes don't have what is wanted: all of them were searched, or there are fewer than that
abbrev pub IsNext : Wanted → List ℕ → Type 0
IsNext (Feed looked) bytes = looked ≡ length bytes
IsNext (Bytes count) bytes = length bytes < count

-- from an offset on, the text isn't whole until what is wanted comes
pub record IsOpenAt (Awaits : List ℕ → Type 0) (start : ℕ) (bytes : List ℕ) (wanted : Wanted) : Type 0 where
  pub next : IsNext wanted bytes
  pub bound : count_wanted wanted ≤ 1048576
  pub awaits : (more : List ℕ) → IsMissing wanted (bytes ++ more) → Awaits (drop start (bytes ++ more))

-- no response is whole before what is wanted comes
pub record Seeks (wanted : Wanted) (bytes : List ℕ) : Type 0 where
  pub looked : HasLooked wanted bytes
  pub bound : count_wanted wanted ≤ 1048576
  pub awaits : (more : List ℕ) → IsMissing wanted (bytes ++ more) → AwaitsResponse (bytes ++ more)

-- the bytes from an offset on are refused with that fault, whatever follows them
abbrev pub LastsAt : (List ℕ → WireFault → Type 0) → ℕ → List ℕ → WireFault → Type 0
LastsAt Refuses start bytes fault = Lasts (λ text f. Refuses (drop start text) f) bytes fault
