use Rattle.std.proofs.Common.{[], Option, sym, ap, ◌∙◌}
use Rattle.std.specs.Option.{option_map_or}
use Rattle.std.proofs.lemmas.Result.{IfOk-weaker}
use Rattle.lra_model.specs.declared.asks.AskKind.{AskKind}
use Rattle.lra_timelines.specs.Waits.{wanted_note}
use Rattle.lra_timelines.proofs.waits.want_note.Goals as goal

pub returns-in-Some : goal.returns-in-Some
returns-in-Some c = λ J h.
    IfOk-weaker c.wanted_note.result _ _ (λ text is.
    is ∙ sym (ap (λ (o : Option AskKind). option_map_or (wanted_note J c.args.member c.args.row.now) o [])
    c.in-Some.is))
    (c.wanted_note.ensures J h)
