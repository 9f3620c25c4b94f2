use Rattle.std.proofs.Common.{sym, ◌∙◌, append_assoc, append-nil}
use Rattle.std.proofs.lemmas.Str.{IsUtf8-past_char}
use Rattle.lra_logs.proofs.Escaped.{escaped_empty, escaped_step}
use Rattle.lra_logs.proofs.escaping.push_escaped.Goals as goal

pub loop-sign-preserved : goal.loop-sign-preserved
loop-sign-preserved c =
    let held = c.loop-sign.invariant in
    let parts = c.in-Some.ensures.steps.0 in
    let step = escaped_step _ _ c.in-Some.sign held.0 parts in
    (IsUtf8-past_char _ _ c.in-Some.sign held.0 parts, rw (c.in_ok-push_char.ensures, append_assoc) (rw step at held.1))

pub returns : goal.returns
returns c = sym (append-nil _) ∙ rw (escaped_empty _ c.in-None.ensures.steps.0.0) at c.loop-sign.invariant.1
