-- Texts that are UUIDs, and others.
use Rattle.std.proofs.Common.{◌≡◌, ℕ, List, Option, Some, None, refl, ap, ◌∙◌}
use Rattle.std.specs.Prelude.{option_map}
use Rattle.std.specs.Int.{w128, from_be_bytes}
use Rattle.uuid.specs.Text.{parsed}
use Rattle.lra_traces.specs.inner.Actions.{number_in}

-- the number of a UUID that was read
pub is_number : (n : ℕ) (id text : List ℕ) → Some id ≡ parsed text → n ≡ from_be_bytes w128 id
    → Some n ≡ number_in text
unfolding number_in
is_number n id text read is = ap Some is ∙ ap (option_map (λ bytes. from_be_bytes w128 bytes)) read

none : (o : Option (List ℕ)) → ((u : List ℕ) → o ≡ Some u → ⊥) → None ≡ o
none None h = refl
none (Some u) h = absurd (h u refl)

-- a text of which none was read has none
pub is_no_number : (text : List ℕ) → ((u : List ℕ) → parsed text ≡ Some u → ⊥) → None ≡ number_in text
unfolding number_in
is_no_number text h = ap (option_map (λ bytes. from_be_bytes w128 bytes)) (none (parsed text) h)
