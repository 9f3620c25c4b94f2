-- What the threads that go through journals return of them.
use Rattle.std.specs.Prelude.{◌≡◌, ℕ, ◌<◌, List, ◌++◌, get_or, slice_index_or, String, string_bytes, Option, Some}
use Rattle.std.specs.Prelude.{Result, IfOk, IfSome}
use Rattle.std.specs.Global.{Global}
use Rattle.lra_audits.specs.declared.fault.RunFault.{RunFault}
use Rattle.lra_folders.specs.declared.deed.Deed.{Deed}
use Rattle.lra_folders.specs.declared.deed.Line.{Line}
use Rattle.lra_folders.specs.Folders.{path_of, behind, Tells}

-- what is returned for a journal of these bytes behind a text, if anything is
abbrev pub IsTold : Deed → List ℕ → List ℕ → Result (Option Line) RunFault → Type 0
IsTold deed bytes front told =
    IfOk told (λ found. IfSome found (λ line. Tells deed bytes line.status (Some front) (Some line.text.items)))

-- what is returned for a journal of this name, whose file has these bytes, if there is one
abbrev pub IsToldOf : {F : Type 0} → Deed → (F → Option (List ℕ)) → String Global × Option F
    → Result (Option Line) RunFault → Type 0
IsToldOf deed remaining job told = (bytes : List ℕ) → IfSome job.1 (λ file. remaining file ≡ Some bytes)
    → IsTold deed bytes (string_bytes job.0 ++ behind deed) told

-- what is returned for the journals of the first n of these names, whose bytes are those
abbrev pub AllTold : Deed → (List ℕ → List ℕ) → List ℕ → List (String Global) → ℕ → List (Result (Option Line) RunFault)
    → Type 0
AllTold deed bytes folder names n all = (i : ℕ) (w : String Global) (d : Result (Option Line) RunFault) → i < n
    → IsTold deed (bytes (path_of folder (string_bytes (get_or names i w))))
    (string_bytes (get_or names i w) ++ behind deed) (slice_index_or all i d)
