use Rattle.std.proofs.Common.{◌∙◌, sym}
use Rattle.std.proofs.lemmas.Bool.{not-false}
use Rattle.std.proofs.lemmas.Slice.Eq.{bytes_eq-Decides}
use Rattle.lra_model.specs.declared.version.Version.TheVariants.{Two}
use Rattle.lra_runs.specs.Script.{player}
use Rattle.lra_runs.proofs.play.coordinator.Goals as goal

pub returns-clause-made : goal.returns-clause-made
returns-clause-made c =
    let same = (bytes_eq-Decides c.as_str.result.now player.base).0 (not-false _ (sym c.ne.ensures ∙ c.if-ne.false)) in
    let base = sym c.as_str.ensures.value ∙ same in (
      c.new.ensures.setting
          ∙ (λ i. record { version = Two; instance = c.instance.ensures i; base = base i; limits = c.usual.ensures i }),
      c.new.ensures.history,
    )
