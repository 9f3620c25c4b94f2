-- Keys that requests have to give.
use Rattle.std.specs.Prelude.{◌≡◌, ⊤, ℕ, ◌<◌, ◌≤◌, Bool, if◌then◌else◌, List, length, take, drop, codes, bytes_eq}
use Rattle.std.specs.Prelude.{Option, Some, None, Ok, Err}
use Rattle.std.specs.List.{list_any}
use Rattle.std.specs.Str.{str_eq_ignore_ascii_case}
use Rattle.sha2.specs.Sha256.{sha256}
use Rattle.lra_admission.specs.declared.keys.Keys.{Keys}
use Rattle.lra_admission.specs.declared.fault.KeysFault.{KeysFault}
use Rattle.lra_admission.specs.declared.fault.KeysFault.TheVariants as fault
use Rattle.lra_admission.specs.Lines.{digests_in}

-- the digests of keys
abbrev pub digests_of : Keys → List (List ℕ)
digests_of keys = keys.digests.items

-- this secret is known: its SHA-256 (FIPS 180-4) is one of the digests
abbrev pub is_known : List (List ℕ) → List ℕ → Bool
is_known digests secret = list_any (λ digest. bytes_eq digest (sha256 secret)) digests

-- the secret that a value of Authorization gives: what follows `Bearer` and a space (RFC 6750, section 2.1)
abbrev pub secret_in : List ℕ → Option (List ℕ)
secret_in value = if str_eq_ignore_ascii_case (take 7 value) (codes "bearer ") then Some (drop 7 value) else None

-- why no keys are read of a text: this line is wrong, the first such line, or memory is refused
abbrev pub IsWrong : List ℕ → KeysFault → Type 0
IsWrong text (fault.Line number) = digests_in text ≡ Err number
IsWrong text fault.Memory = ⊤
IsWrong text _ = ⊥
