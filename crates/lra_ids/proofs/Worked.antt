-- Worked examples: what identifiers of sites begin with.
use Rattle.std.proofs.Common.{◌≡◌, ℕ, ◌+◌, ◌-◌, ◌*◌, ◌^◌, take, refl}
use Rattle.std.specs.Prelude.{⊤, codes}
use Rattle.uuid.specs.Text.{by_index}
use Rattle.lra_ids.specs.Identifiers.{id_number, id_bytes, id_text, action_uri, recovery_uri}
use Rattle.lra_ids.specs.Sites.{site_of, site_text}

-- what unfolds to compute these definitions
unfoldable pub sites_on_literals : ⊤
unfolding by_index id_number id_bytes id_text site_text
sites_on_literals = tt

-- an instance of site 258, five milliseconds after its first
early : ℕ
early = 258 * 2 ^ 44 + 5

early_site : site_of early ≡ 258
unfolding early
early_site = refl

early_digits : site_text 258 ≡ codes "0102"
unfolding sites_on_literals
early_digits = refl

early_action : action_uri early (codes "http://a.example/") 7
    ≡ codes "http://a.example/lra-coordinator/01020000-0000-8005-8000-000000000007"
unfolding early sites_on_literals
early_action = refl

-- the last instance and the last number of the last site
last_recovery : recovery_uri (2 ^ 60 - 1) (codes "http://a.example/") (2 ^ 62 - 1)
    ≡ codes "http://a.example/lra-recovery/ffffffff-ffff-8fff-bfff-ffffffffffff"
unfolding sites_on_literals
last_recovery = refl

-- a journal without a site, as a file has one
none : take 4 (id_text 0 1) ≡ codes "0000"
unfolding sites_on_literals
none = refl
