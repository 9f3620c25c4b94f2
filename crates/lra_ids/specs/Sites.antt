-- The site of an instance, and how an identifier shows it.
use Rattle.std.specs.Prelude.{◌≡◌, ◌⊎◌, ℕ, ◌/◌, ◌%◌, ◌^◌, List, [], ◌∷◌, map}
use Rattle.uuid.specs.Text.{hex_digit, lower}
use Rattle.lra_ids.specs.Identifiers.{action_uri, recovery_uri}
use Rattle.lra_ids.specs.InstanceLaws.{IsBorne}

-- the site of an instance of 60 bits: the 16 that stand before the 44 of a moment in milliseconds (this project's
-- choice)
abbrev pub site_of : ℕ → ℕ
site_of i = i / 2 ^ 44

-- a number below 2^16 as four hexadecimal digits, in lower case
unfoldable pub site_text : ℕ → List ℕ
site_text site = map (λ place. hex_digit lower (site / place % 16)) (16 ^ 3 ∷ 16 ^ 2 ∷ 16 ∷ 1 ∷ [])

-- a text is the URI of an action or the recovery URI of a member of that instance, below some base
abbrev pub IsUriOf : ℕ → List ℕ → Type 0
IsUriOf i uri = (base : List ℕ) × (n : ℕ) × IsBorne i n × ((uri ≡ action_uri i base n) ⊎ (uri ≡ recovery_uri i base n))
