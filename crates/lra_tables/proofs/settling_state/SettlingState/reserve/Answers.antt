use Rattle.lra_tables.proofs.Boards.{still_has_room}
use Rattle.lra_tables.proofs.settling_state.SettlingState.reserve.Goals as goal

pub returns-clause-kept : goal.returns-clause-kept
returns-clause-kept c = λ e h. let k = (rw (← c.self.view_is) at h) in
    still_has_room e _ _ (c.in_ok-reserve.ensures.kept e) c.reserve-2.ensures.same.skips_more
    c.reserve-2.ensures.same.turns_more c.reserve-2.ensures.same.ends_more k
