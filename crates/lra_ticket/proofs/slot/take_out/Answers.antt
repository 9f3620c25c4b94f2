use Rattle.std.proofs.Common.{◌∷◌, Some, sym, ap, ◌∙◌}
use Rattle.atomic_table.specs.Table.{rest}
use Rattle.lra_ticket.proofs.slot.take_out.Goals as goal

pub exchange-requires : goal.exchange-requires
exchange-requires g c = let full = c.requires.full in
    (c.requires.lock, (Some full.0, full.1 ∙ ap (λ l. (0, Some full.0) ∷ rest l) (sym full.1)))
