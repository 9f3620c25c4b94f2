use Rattle.std.proofs.Common.{◌≡◌, ◌⊎◌, inl, inr, ◌<◌, ◌≤◌, length, true, false, refl, sym, subst}
use Rattle.std.proofs.lemmas.Option.{slice_get_read, slice_get_past}
use Rattle.std.proofs.lemmas.Result.{on_ok_weaker}
use Rattle.std.proofs.lemmas.Bool.{cases_lt}
use Rattle.lra_rows.specs.inner.Reached.{Reached}
use Rattle.lra_rows.proofs.Rooms.{map-same}
use Rattle.lra_rows.proofs.Reaching.{ready_there, ready_kept, ready_past}
use Rattle.lra_rows.proofs.endpoints.make_ready.Goals as goal

pub returns-in-Some-get_mut-clause-same : goal.returns-in-Some-get_mut-clause-same
returns-in-Some-get_mut-clause-same c =
    map-same (λ (r : Reached). r.endpoint) c.args.rows.now.items c.in-Some.place c.in-Some-get_mut.endpoint.now
    c.reserve.new.self
    (slice_get_read c.args.rows.now.items _ c.in-Some.place c.in-Some-get_mut.endpoint.now c.args.rows.now.ok.0
    (c.in-Some-get_mut.ensures.variant.0 refl) c.in-Some-get_mut.ensures.value) c.reserve.ensures.same

pub returns-in-Some-get_mut-clause-ok : goal.returns-in-Some-get_mut-clause-ok
returns-in-Some-get_mut-clause-ok c =
    on_ok_weaker c.reserve.result
    (λ h. rw c.in-Some.ensures (ready_there c.args.rows.now.items c.in-Some.place c.in-Some-get_mut.endpoint.now
    c.reserve.new.self
    (slice_get_read c.args.rows.now.items _ c.in-Some.place c.in-Some-get_mut.endpoint.now c.args.rows.now.ok.0
    (c.in-Some-get_mut.ensures.variant.0 refl) c.in-Some-get_mut.ensures.value) h)) c.reserve.ensures.ok

pub returns-in-Some-get_mut-clause-kept : goal.returns-in-Some-get_mut-clause-kept
returns-in-Some-get_mut-clause-kept c =
    ready_kept c.args.rows.now.items c.in-Some.place c.in-Some-get_mut.endpoint.now c.reserve.new.self
    (slice_get_read c.args.rows.now.items _ c.in-Some.place c.in-Some-get_mut.endpoint.now c.args.rows.now.ok.0
    (c.in-Some-get_mut.ensures.variant.0 refl) c.in-Some-get_mut.ensures.value) c.reserve.ensures.kept

pub returns-in-None-clause-ok : goal.returns-in-None-clause-ok
returns-in-None-clause-ok c = rw c.in-Some.ensures (ready_past c.args.rows.now.items c.in-Some.place
    (slice_get_past c.args.rows.now.items c.in-Some.place
    (past (cases_lt c.in-Some.place (length c.args.rows.now.items)))))
  where
    past : (c.in-Some.place < length c.args.rows.now.items) ⊎ (length c.args.rows.now.items ≤ c.in-Some.place)
        → length c.args.rows.now.items ≤ c.in-Some.place
    past (inr x) = x
    past (inl x) = let h : false ≡ true = c.in-None.ensures.variant.1
        (subst (λ n. c.in-Some.place < n) (sym c.args.rows.now.ok.0) x) in absurd cc
