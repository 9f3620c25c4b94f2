use Rattle.std.proofs.Common.{sym, ap, ◌∙◌}
use Rattle.lra_model.specs.declared.entry.Deed.{Deed}
use Rattle.lra_rows.specs.Rowed.{deed_has_room}
use Rattle.lra_rows.proofs.rows.Rows.deed_has_room.Goals as goal

pub returns-in-Start : goal.returns-in-Start
returns-in-Start c = c.start_has_room.ensures c.in-Start.action c.in-Start.limit
    ∙ ap (λ (d : Deed). deed_has_room d c.args.self.now) (sym c.in-Start.is)

pub returns-in-Join : goal.returns-in-Join
returns-in-Join c = c.join_has_room.ensures c.in-Join.member c.in-Join.uris
    ∙ ap (λ (d : Deed). deed_has_room d c.args.self.now) (sym c.in-Join.is)
