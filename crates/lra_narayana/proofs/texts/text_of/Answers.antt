use Rattle.std.proofs.Common.{◌∙◌}
use Rattle.lra_narayana.proofs.Utf8.{is_text, is_no_text}
use Rattle.lra_narayana.proofs.texts.text_of.Goals as goal

pub returns-in-Ok : goal.returns-in-Ok
returns-in-Ok c = c.in-Ok.ensures.cases.0 ∙ is_text _ c.in-Ok.ensures.cases.1

pub returns-in-Err : goal.returns-in-Err
returns-in-Err c = is_no_text _ c.in-Err.ensures.cases.0
