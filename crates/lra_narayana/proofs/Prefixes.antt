-- What follows a prefix in a text.
use Rattle.std.proofs.Common.{◌≡◌, ◌++◌, ℕ, true, false, nat_eq, List, length, drop, Option, Some, None, option_map}
use Rattle.std.proofs.Common.{MatchOption, Bor, refl, ap, ◌∙◌}
use Rattle.std.specs.List.{starts_with}
use Rattle.std.specs.Str.Pattern.{FindsTextPrefix, StripsPrefix}
use Rattle.std.proofs.lemmas.Bool.Decides.{Decides-eqb}
use Rattle.std.proofs.lemmas.Slice.Eq.{starts_is}
use Rattle.std.proofs.lemmas.Str.Pattern.{starts_text}
use Rattle.lra_narayana.specs.Texts.{stripped}

begun : (front text : List ℕ) (n : ℕ) → n ≡ length front → text ≡ front ++ drop n text → starts_with nat_eq text front
    ≡ true
begun front text n len is = (starts_is Decides-eqb text front _ refl).1 _ is

-- stripping a prefix leaves what follows it
pub stripped_is : (front text : List ℕ) (r : Option (Bor (List ℕ))) → MatchOption r (FindsTextPrefix front text None)
    (λ x. StripsPrefix (FindsTextPrefix front) text x.now)
    → option_map (λ x. x.now) r ≡ stripped front text
stripped_is front text None h = rw (← starts_text false front text h) refl
stripped_is front text (Some x) h = rw (begun front text h.0 h.1.0 h.1.1) (ap Some (h.2 ∙ ap (λ n. drop n text) h.1.0))
