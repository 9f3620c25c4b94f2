use Rattle.std.proofs.Common.{◌≡◌, ◌++◌, map, take, string_bytes}
use Rattle.std.specs.List.{flat_map}
use Rattle.lra_model.specs.History.{History}
use Rattle.lra_laws.specs.Snapshots.{StandsFor}
use Rattle.lra_timelines.specs.Waits.{member_notes}
use Rattle.lra_timelines.proofs.waits.push_members.Given as goal

abbrev pub invariant-loop-member : goal.invariant-loop-member
invariant-loop-member l = (J : History) → StandsFor l.known.rows.now.snapshot J
    → map string_bytes l.notes.items
    ≡ map string_bytes l.fn.notes.items
    ++ flat_map (member_notes J l.known.told.now l.status) (take l.member-index l.members)
