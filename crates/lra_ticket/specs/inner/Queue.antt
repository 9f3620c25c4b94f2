-- What clauses read of a drawn ticket.
use Rattle.atomic_table.specs.Seated.{TableId}
use Rattle.lra_ticket.specs.declared.kept.Kept.{Ghosts}
use Rattle.lra_ticket.specs.declared.lock.Queued.{Queued}
use Rattle.lra_ticket.specs.declared.view.View.{View}

-- which lock it waits for
abbrev pub queued_id : {X O : Type 0} {g : Ghosts X O} → Queued X O g → TableId
queued_id queued = queued.seat.table_id

-- what the waiting caller knows
abbrev pub queued_view : {X O : Type 0} {g : Ghosts X O} → Queued X O g → View O
queued_view queued = queued.seat.me.0
