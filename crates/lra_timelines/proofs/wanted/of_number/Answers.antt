use Rattle.std.proofs.Common.{◌^◌, sym, ap, ◌∙◌}
use Rattle.lra_entries.specs.Numbers.{number_of}
use Rattle.lra_timelines.proofs.Naming.{number_named, where_none, number_unnamed}
use Rattle.lra_timelines.proofs.wanted.of_number.Goals as goal

pub returns-in_err-action-clause-none : goal.returns-in_err-action-clause-none
returns-in_err-action-clause-none c = where_none _ (number_unnamed c.args.text.now c.read_number.result
    c.in_err-action.was (c.read_number.ensures ∙ ap (number_of (2 ^ 64)) c.as_bytes.ensures.value))

pub returns-clause-found : goal.returns-clause-found
returns-clause-found c = number_named c.args.text.now c.in_ok-action.action
    (sym c.in_ok-action.was ∙ c.read_number.ensures ∙ ap (number_of (2 ^ 64)) c.as_bytes.ensures.value)
