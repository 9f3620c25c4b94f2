use Rattle.std.proofs.Common.{◌-◌, List}
use Rattle.lra_model.specs.declared.entry.Entry.{Entry}
use Rattle.lra_model.specs.History.{History}
use Rattle.lra_tables.specs.inner.Boarded.{Boarded}
use Rattle.lra_tables.specs.inner.UndoLog.{IsUndoLog, Going, SettlesTo}
use Rattle.lra_tables.proofs.settling_state.SettlingState.settle_all.Given as goal

-- what is left to settle here gives what was to be settled
abbrev pub invariant-loop-done : goal.invariant-loop-done
invariant-loop-done l =
    Going l.self l.by l.moment
    × ((J : History) (whole : List Entry) → SettlesTo J l.by l.moment l.most l.fn.self l.fn.undo_log.entries.items whole
    → SettlesTo J l.by l.moment (l.most - l.done) l.self l.undo_log.entries.items whole)
    × ((b : Boarded) → IsUndoLog b l.fn.undo_log.entries.items l.fn.undo_log.steps.items l.fn.self
    → IsUndoLog b l.undo_log.entries.items l.undo_log.steps.items l.self)
