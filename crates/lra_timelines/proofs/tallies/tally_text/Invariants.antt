use Rattle.std.proofs.Common.{◌≡◌, List, map, take}
use Rattle.std.specs.Prelude.{string_bytes}
use Rattle.std.specs.List.{filter_map}
use Rattle.lra_course.specs.declared.listing.ListedMember.{ListedMember}
use Rattle.lra_timelines.specs.Lines.{statuses, counted, count_of, place_of}
use Rattle.lra_timelines.specs.inner.Tallied.{Tallied}
use Rattle.lra_timelines.proofs.tallies.tally_text.Given as goal

abbrev pub invariant-loop-place : goal.invariant-loop-place
invariant-loop-place l = (ms : List ListedMember) → Tallied ms l.counts
    → map string_bytes l.words.items ≡ filter_map (λ s. counted s (count_of ms l.action (place_of s)))
    (take l.place statuses)
