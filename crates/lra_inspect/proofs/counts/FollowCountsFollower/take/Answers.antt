use Rattle.std.proofs.Common.{[], ◌∷◌, ap, sym, ◌∙◌, arith, length-append}
use Rattle.lra_entries.specs.Borrowed.{entry_seen}
use Rattle.lra_addresses.specs.Addresses.{is_address}
use Rattle.lra_inspect.specs.inner.Statuses.{statuses_after}
use Rattle.lra_inspect.proofs.Counting.{statuses_push}
use Rattle.lra_inspect.proofs.counts.FollowCountsFollower.take.Goals as goal

pub returns : goal.returns
returns c = λ h counts legal.
    let e = entry_seen c.args.entry.now in
    record {
      entries = omega (arith, counts.entries, length-append h.entries (e ∷ []), c.in-Some.ensures);
      statuses = c.in_ok-turn.ensures ∙ ap (statuses_after e.deed) counts.statuses
          ∙ sym (statuses_push h.version is_address h.entries e legal);
    }
