-- Digests of an action and addresses.
use Rattle.std.specs.Prelude.{ℕ, List, [], ◌∷◌, Option, Some, None}
use Rattle.std.specs.Hash.{le_bytes}
use Rattle.std.specs.Hash.DefaultHasher.{initial, write, finish}
use Rattle.std.specs.declared.hash.DefaultHasher.{DefaultHasher}
use Rattle.lra_model.specs.Addresses.{Addresses}

-- a hasher that is fed an address, or that there is none (this project's choice)
abbrev pub fed : Option (List ℕ) → DefaultHasher → DefaultHasher
fed None s = write s (0 ∷ [])
fed (Some text) s = write (write (write s (1 ∷ [])) text) (255 ∷ [])

-- the digest of an action and five addresses under a key: SipHash-1-3 of them all, the key first (this project's
-- choice)
unfoldable pub digest_of : ℕ → ℕ → Addresses → ℕ
digest_of key action u =
    finish (fed u.after (fed u.forget
    (fed u.status (fed u.complete
    (fed u.compensate (write (write initial (le_bytes 16 key)) (le_bytes 8 action)))))))
