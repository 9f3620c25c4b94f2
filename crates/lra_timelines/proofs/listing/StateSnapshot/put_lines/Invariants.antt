use Rattle.std.proofs.Common.{◌≡◌, take}
use Rattle.std.specs.Prelude.{unwrap_or, IfSome}
use Rattle.std.specs.List.{flat_map}
use Rattle.lra_model.specs.History.{History, last_moment}
use Rattle.lra_course.specs.Listings.{listing}
use Rattle.lra_reports.specs.Paging.{IsPaged}
use Rattle.lra_timelines.specs.Lines.{starts, start_lines}
use Rattle.lra_timelines.specs.inner.Registered.{start_moments}
use Rattle.lra_timelines.specs.inner.Called.{Called}
use Rattle.lra_timelines.specs.inner.Tallied.{Tallied}
use Rattle.lra_timelines.proofs.listing.StateSnapshot.put_lines.Given as goal

abbrev pub invariant-loop-place : goal.invariant-loop-place
invariant-loop-place g l =
    (J : History) → l.listing ≡ listing J → l.starts ≡ start_moments J → Tallied l.listing.members l.counts
    → IfSome l.self.start_times.now.calls (λ c. Called c J)
    → l.self.end ≡ unwrap_or l.self.choice.now.now (last_moment J)
    → IsPaged (g.W.Write.contents l.fn.writer) (g.W.Write.contents l.writer) l.fn.page.items l.page.items
    (flat_map (start_lines l.self.choice.now l.self.prefix.now l.self.instance J) (take l.place (starts J)))
