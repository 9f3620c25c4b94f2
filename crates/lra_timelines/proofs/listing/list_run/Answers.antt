use Rattle.lra_timelines.proofs.Listed.{ok_for_some, followed_anyway}
use Rattle.lra_timelines.specs.inner.Registered.{Hears}
use Rattle.lra_timelines.proofs.listing.list_run.Goals as goal

pub returns-clause-ok : goal.returns-clause-ok
returns-clause-ok g c =
    ok_for_some (g.R.Read.remaining c.args.reader) c.put_account.result _ (λ b known.
    let followed = rw known at c.in_ok-feed_all.ensures.followed in
    c.put_account.ensures.ok b (record {
      some = c.fault-fault.ensures.some b followed;
      none = c.fault-fault.ensures.none b followed;
      listed = c.in_ok-account.ensures.account b (followed_anyway (Hears c.feed_all.new.follower) c.feed_all.new.auditor
          b followed);
    }))
