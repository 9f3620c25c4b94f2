use Rattle.std.proofs.Common.{sym, ◌∙◌}
use Rattle.std.proofs.lemmas.Bool.Decides.{Decides-eqb}
use Rattle.std.proofs.lemmas.Slice.Eq.{slice_eq-Decides}
use Rattle.lra_journal_router.proofs.journal_router.is_in_set.Goals as goal

pub returns : goal.returns
returns g c = λ same base h.
    let texts = (slice_eq-Decides Decides-eqb c.as_str.result.now c.as_str-2.result.now c.eq.result c.eq.ensures).0
    same in
    sym c.base-2.ensures ∙ sym c.as_str-2.ensures ∙ sym texts ∙ c.as_str.ensures ∙ c.base.ensures
    ∙ c.newest.ensures base h
