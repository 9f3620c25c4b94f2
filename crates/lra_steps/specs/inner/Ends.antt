-- What is found in the bytes that a connection keeps, and how it ends where they are no whole request.
use Rattle.std.specs.Prelude.{◌≡◌, ℕ, ◌<◌, Bool, List, [], length, Option, Some, None, Result, Ok, Err, IsTrue, IsFalse}
use Rattle.lra_wire.specs.declared.fault.WireFault.{WireFault}
use Rattle.lra_wire.specs.declared.fault.WireFault.TheVariants.{Cut}
use Rattle.lra_wire.specs.declared.front.Front.{Front}
use Rattle.lra_wire.specs.Coded.{RefusesFrontBy, RefusesRequestBy, IsUnfinishedBy, AwaitsRequestBy, IsFrontBy, most_of}
use Rattle.lra_front.specs.declared.stream.StreamEnd.{StreamEnd}
use Rattle.lra_front.specs.declared.stream.StreamEnd.TheVariants.{Done, Refused, WriteFault}

-- a whole request, or that more bytes are wanted, or a fault
abbrev pub Finds : Bool → Bool → List ℕ → Result (Option Front) WireFault → Type 0
Finds chunked closed kept (Ok (Some front)) = IsFrontBy chunked kept (Ok (Some front))
Finds chunked closed kept (Ok None) = (IsTrue closed → IsUnfinishedBy chunked kept)
    × (IsFalse closed → AwaitsRequestBy chunked kept) × (length kept < most_of chunked)
Finds chunked closed kept (Err fault) = RefusesFrontBy chunked kept fault

-- how a connection ends: not while bytes may come, and after that by the bytes that are kept
abbrev pub EndsWithout : Bool → Bool → List ℕ → Option StreamEnd → Type 0
EndsWithout chunked closed kept None = IsFalse closed
EndsWithout chunked closed kept (Some Done) = IsTrue closed × (kept ≡ [])
EndsWithout chunked closed kept (Some (Refused fault)) = IsTrue closed × (fault ≡ Cut)
    × RefusesRequestBy chunked kept Cut
EndsWithout chunked closed kept (Some WriteFault) = ⊥
