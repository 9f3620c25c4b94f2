use Rattle.std.proofs.Common.{◌≡◌, Bool, true, false, refl, sym, ◌∙◌, subst, arith}
use Rattle.std.specs.Prelude.{not}
use Rattle.std.proofs.lemmas.Bool.{ltb-true}
use Rattle.lra_wire.specs.declared.wanted.Wanted.{Wanted}
use Rattle.lra_wire.specs.inner.CodedParts.{SeeksCoded}
use Rattle.lra_wire.proofs.CodedLemmas.{feed_awaits, bytes_await}
use Rattle.lra_wire.proofs.coded.CodedCursor.stays_open.Goals as goal

not_there : (b : Bool) → not b ≡ true → b ≡ false
not_there true e = cc
not_there false e = refl

pub returns-in-Feed : goal.returns-in-Feed
returns-in-Feed c = λ none. (
  feed_awaits c.args.bytes.now c.in-Feed.looked
      (subst (λ (w : Wanted). SeeksCoded w c.args.bytes.now) c.in-Feed.is c.requires.wanted)
      (sym c.contains.ensures.value ∙ not_there c.contains.result none),
  omega arith,
)

pub returns-in-Bytes : goal.returns-in-Bytes
returns-in-Bytes c = λ few. (
  bytes_await c.args.bytes.now c.in-Bytes.count
      (subst (λ (w : Wanted). SeeksCoded w c.args.bytes.now) c.in-Bytes.is c.requires.wanted) (ltb-true _ _ few),
  omega arith,
)
