use Rattle.std.proofs.Common.{◌≡◌, ◌≢◌, ◌++◌, List, ℕ, subst}
use Rattle.std.specs.Prelude.{MatchOption}
use Rattle.std.proofs.lemmas.Bool.Decides.{Decides-eqb}
use Rattle.std.proofs.lemmas.Slice.Eq.{strip_suffix_is}
use Rattle.lra_timelines.proofs.wanted.base_in.Goals as goal

pub returns : goal.returns
returns c =
    subst (λ (p : List ℕ). MatchOption c.strip_suffix.result ((base : List ℕ) → c.args.front.now ≢ base ++ p)
    (λ base. c.args.front.now ≡ base.now ++ p)) c.as_bytes.ensures.value
    (strip_suffix_is Decides-eqb c.args.front.now c.as_bytes.result.now c.strip_suffix.result
    c.strip_suffix.ensures.cases)
