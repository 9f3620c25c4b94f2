use Rattle.std.proofs.Common.{◌∙◌, ap, map, List, ℕ, Global, string_bytes}
use Rattle.std.specs.Prelude.{String}
use Rattle.std.specs.List.{flat_map}
use Rattle.std.proofs.lemmas.Result.{IfOk-weaker}
use Rattle.lra_timelines.specs.Lines.{indented}
use Rattle.lra_timelines.proofs.Noting.{waits_known, waits_unknown}
use Rattle.lra_timelines.proofs.waiting.waits_text.Goals as goal

pub returns-in_default : goal.returns-in_default
returns-in_default c = λ J called.
    c.new.ensures.bytes
    ∙ waits_unknown c.args.prefix.now J c.args.action c.action.result (c.action.ensures J called.stands) c.in_default.is

pub returns : goal.returns
returns c = λ J called.
    IfOk-weaker c.indented_all.result _ _ (λ text lines.
    waits_known c.args.prefix.now J c.args.action c.action.result c.in-Some.row c.told_of.result.now _ _
    (c.action.ensures J called.stands) c.in-Some.is (c.told_of.ensures ∙ called.told c.args.action)
    (c.in_ok-notes.ensures J called.stands)
    (lines ∙ ap (λ (ns : List (String Global)). flat_map (indented c.args.prefix.now) (map string_bytes ns))
    c.deref.ensures.value))
    c.indented_all.ensures
