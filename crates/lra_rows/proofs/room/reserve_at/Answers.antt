use Rattle.std.proofs.Common.{◌≡◌, ◌⊎◌, inl, inr, ◌<◌, ◌≤◌, length, true, false, refl, sym, subst}
use Rattle.std.proofs.lemmas.Option.{slice_get_read, slice_get_past}
use Rattle.std.proofs.lemmas.Result.{on_ok_weaker}
use Rattle.std.proofs.lemmas.Bool.{cases_lt}
use Rattle.lra_rows.specs.inner.Nested.{Nested}
use Rattle.lra_rows.proofs.Rooms.{map-same, place_kept, place_there, place_past}
use Rattle.lra_rows.proofs.room.reserve_at.Goals as goal

pub returns-in-Some-get_mut-clause-same : goal.returns-in-Some-get_mut-clause-same
returns-in-Some-get_mut-clause-same c =
    map-same (λ (n : Nested). n.nesting) c.args.nestings.now.items c.in-Some.place c.in-Some-get_mut.nesting.now
    c.reserve.new.self
    (slice_get_read c.args.nestings.now.items _ c.in-Some.place c.in-Some-get_mut.nesting.now c.args.nestings.now.ok.0
    (c.in-Some-get_mut.ensures.variant.0 refl) c.in-Some-get_mut.ensures.value) c.reserve.ensures.same

pub returns-in-Some-get_mut-clause-ok : goal.returns-in-Some-get_mut-clause-ok
returns-in-Some-get_mut-clause-ok c =
    on_ok_weaker c.reserve.result
    (λ h. rw c.in-Some.ensures (place_there c.args.nestings.now.items c.in-Some.place c.in-Some-get_mut.nesting.now
    c.reserve.new.self c.args.list
    (slice_get_read c.args.nestings.now.items _ c.in-Some.place c.in-Some-get_mut.nesting.now c.args.nestings.now.ok.0
    (c.in-Some-get_mut.ensures.variant.0 refl) c.in-Some-get_mut.ensures.value) h)) c.reserve.ensures.ok

pub returns-in-Some-get_mut-clause-kept : goal.returns-in-Some-get_mut-clause-kept
returns-in-Some-get_mut-clause-kept c =
    place_kept c.args.nestings.now.items c.in-Some.place c.in-Some-get_mut.nesting.now c.reserve.new.self
    (slice_get_read c.args.nestings.now.items _ c.in-Some.place c.in-Some-get_mut.nesting.now c.args.nestings.now.ok.0
    (c.in-Some-get_mut.ensures.variant.0 refl) c.in-Some-get_mut.ensures.value) c.reserve.ensures.kept

pub returns-in-None-clause-ok : goal.returns-in-None-clause-ok
returns-in-None-clause-ok c = rw c.in-Some.ensures (place_past c.args.nestings.now.items c.in-Some.place c.args.list
    (slice_get_past c.args.nestings.now.items c.in-Some.place
    (past (cases_lt c.in-Some.place (length c.args.nestings.now.items)))))
  where
    past : (c.in-Some.place < length c.args.nestings.now.items) ⊎ (length c.args.nestings.now.items ≤ c.in-Some.place)
        → length c.args.nestings.now.items ≤ c.in-Some.place
    past (inr x) = x
    past (inl x) = let h : false ≡ true = c.in-None.ensures.variant.1
        (subst (λ n. c.in-Some.place < n) (sym c.args.nestings.now.ok.0) x) in absurd cc
