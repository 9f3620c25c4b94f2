use Rattle.std.proofs.Common.{rules, nat_eq}
use Rattle.httparse.specs.Grammar.{trim_ows}
use Rattle.lra_wire.specs.Fields.{is_alike}
use Rattle.std.proofs.lemmas.Iterator.Search.{any_from_yields_List}
use Rattle.std.proofs.lemmas.Iterator.Splits.{YieldsList-from_slice_split}
use Rattle.std.proofs.Common.{tests}
use Rattle.lra_wire.proofs.fields.has_element.Goals as goal

pub returns : goal.returns
returns c =
    any_from_yields_List (λ part. is_alike (trim_ows part) c.args.element.now) _ _ c.any.result c.any.ensures.ran
    (YieldsList-from_slice_split _ (λ b. nat_eq b 44) c.args.list.now c.split.ensures.rest c.split.ensures.done
    c.split.ensures.closure (λ x r q k. search (rules, tests)))
    (λ x b q k. search (rules, tests))
