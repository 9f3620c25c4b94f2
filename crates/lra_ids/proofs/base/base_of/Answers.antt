use Rattle.std.proofs.Common.{◌≡◌, ◌∙◌, None, IfOk, false, subst}
use Rattle.lra_ids.specs.Bases.{base_text, is_own_base}
use Rattle.lra_ids.proofs.base.base_of.Goals as goal

pub returns-clause-none : goal.returns-clause-none
returns-clause-none c =
    let spelled : c.deref.result.now ≡ base_text c.args.to.now = c.deref.ensures ∙ c.in_ok-text.ensures.ok in
    subst (λ text. IfOk c.base_in.result (λ found. found ≡ None → is_own_base text ≡ false)) spelled
    c.base_in.ensures.none
