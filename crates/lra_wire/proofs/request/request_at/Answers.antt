use Rattle.std.proofs.Common.{ℕ, List, sym, ◌∙◌}
use Rattle.std.proofs.Common.{subst}
use Rattle.std.specs.Prelude.{IsUtf8}
use Rattle.lra_wire.proofs.RequestLemmas.{token_text}
use Rattle.lra_wire.proofs.request.request_at.Goals as goal

pub text-requires : goal.text-requires
text-requires c = let P : List ℕ → Type 0 = λ bs. IsUtf8 bs in
    subst P (sym (c.of.ensures ∙ c.requires.places.method))
    (token_text c.requires.head.method c.requires.places.reads.0.method.1)
