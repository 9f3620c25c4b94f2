use Rattle.std.proofs.Common.{◌≡◌, Bool, true, false, refl, sym, ◌∙◌, arith}
use Rattle.std.specs.Prelude.{not}
use Rattle.std.proofs.lemmas.Bool.{ltb-true}
use Rattle.lra_wire.proofs.FrontLemmas.{seen_body, seen_head}
use Rattle.lra_wire.proofs.front.RequestCursor.stays_open.Goals as goal

not_there : (b : Bool) → not b ≡ true → b ≡ false
not_there true e = cc
not_there false e = refl

pub returns-then-self-gt0 : goal.returns-then-self-gt0
returns-then-self-gt0 c = λ few. seen_body c.args.self.now c.args.bytes.now c.requires (omega arith) (ltb-true _ _ few)

pub returns : goal.returns
returns c = λ none.
    seen_head c.args.self.now c.args.bytes.now c.requires (omega arith) (omega arith)
    (sym c.contains.ensures.value ∙ not_there c.contains.result none)
