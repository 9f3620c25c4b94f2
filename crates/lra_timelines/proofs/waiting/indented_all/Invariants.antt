use Rattle.std.proofs.Common.{◌≡◌, map, take, string_bytes}
use Rattle.std.specs.List.{flat_map}
use Rattle.lra_timelines.specs.Lines.{indented}
use Rattle.lra_timelines.proofs.waiting.indented_all.Given as goal

abbrev pub invariant-loop-place : goal.invariant-loop-place
invariant-loop-place l =
    string_bytes l.text ≡ flat_map (indented l.prefix) (map string_bytes (take l.place l.notes))
