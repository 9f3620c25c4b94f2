-- The moments of a history are what its rows say.
use Rattle.std.proofs.Common.{◌≡◌, ℕ, ◌+◌, ◌-◌, ◌≤◌, ◌<◌, ◌^◌, Bool, true, false, List, [], Option, Some, None, refl}
use Rattle.std.proofs.Common.{sym, ap, ◌∙◌, cond, arith}
use Rattle.std.proofs.lemmas.Bool.{leb-true}
use Rattle.std.specs.Prelude.{◌==◌, ◌&&◌, not, is_some, option_map, unwrap_or}
use Rattle.std.specs.Option.{option_map_or, option_and_then}
use Rattle.lra_model.specs.declared.status.ActionStatus.{ActionStatus}
use Rattle.lra_model.specs.declared.asks.AskKind.{AskKind}
use Rattle.lra_model.specs.declared.version.Version.{Version}
use Rattle.lra_model.specs.declared.entry.Deed.{Deed}
use Rattle.lra_model.specs.declared.entry.Deed.TheVariants.{Start, Renew}
use Rattle.lra_model.specs.declared.entry.Entry.{Entry}
use Rattle.lra_model.specs.Words.{when, is_active}
use Rattle.lra_model.specs.History.{History, actions, members, is_among}
use Rattle.lra_model.specs.Actions.{Limit, action_status, limit_given, limit_in_force}
use Rattle.lra_model.specs.Facts.{facts_of, member_facts}
use Rattle.lra_model.specs.Tests.{is_moment}
use Rattle.lra_model.specs.Wants.{wants, wanted, repeat_count, last_repeat}
use Rattle.lra_model.specs.Rules.{is_legal}
use Rattle.lra_laws.proofs.Push.{limit_push}
use Rattle.lra_laws.proofs.Legal.{Allowed, entry_kept, start_kept, renew_kept, legal_induction}
use Rattle.lra_laws.proofs.Named.{status_is_there}
use Rattle.lra_rows.specs.declared.found.ActionRow.{ActionRow}
use Rattle.lra_rows.specs.Found.{found_action, found_member}
use Rattle.lra_commands.specs.declared.limits.Limits.{Limits}
use Rattle.lra_commands.specs.Due.{Timed, due_after, stage_wanted}
use Rattle.lra_schedule.specs.Schedules.{moment_of}
use Rattle.lra_schedule.specs.inner.Renewals.{retry_by, limit_by, retry_in, limit_in}

-- ---- members

-- a member that isn't there wants nothing
pub no_want : (J : History) (p : ℕ) → is_among (members J) p ≡ false → wants J p ≡ None
unfolding wants facts_of
no_want J p h = ap (λ (b : Bool). option_map_or (wanted (facts_of J)) (cond b (Some (member_facts J p)) None) None) h

pub no_retry : (l : Limits) (J : History) (p : ℕ) → is_among (members J) p ≡ false → retry_in l J p ≡ None
no_retry l J p h = rw (no_want J p h) refl

-- a member that wants something is there
pub wants_there : (l : Limits) (J : History) (p moment : ℕ) → retry_in l J p ≡ Some moment → is_among (members J) p
    ≡ true
wants_there l J p moment h = decide (is_among (members J) p) refl
  where
    decide : (b : Bool) → is_among (members J) p ≡ b → b ≡ true
    decide true e = refl
    decide false e = let none = no_retry l J p e in absurd cc

pub retry_found : (l : Limits) (J : History) (p : ℕ) → retry_in l J p ≡ option_and_then (retry_by l) (found_member J p)
retry_found l J p = decide (is_among (members J) p) refl
  where
    count : AskKind → ℕ
    count kind = repeat_count J p (stage_wanted J p kind)

    last : AskKind → Option ℕ
    last kind = last_repeat J p (stage_wanted J p kind)

    timed : AskKind → Timed
    timed kind = record { number = p; moment = due_after l (count kind) (last kind) }

    by_want : (o : Option AskKind) → moment_of (option_map timed o) ≡ option_map
        (λ (kind : AskKind). due_after l (option_map_or count o 0) (option_and_then last o)) o
    by_want None = refl
    by_want (Some kind) = refl

    decide : (b : Bool) → is_among (members J) p ≡ b → retry_in l J p ≡ option_and_then (retry_by l) (found_member J p)
    decide false e = no_retry l J p e ∙ sym (rw e refl)
    decide true e = rw e (by_want (wants J p))

-- ---- actions

-- whether a limit passes at a moment that the journal can have
abbrev fits : Limit → Bool
fits x = is_moment (x.since + x.length_of)

no_limit : (a : ℕ) → fits (limit_in_force [] a) ≡ true
unfolding limit_in_force
no_limit a = refl

-- the limit of an action passes at a moment that the journal can have
pub limit_fits : (v : Version) (t : List ℕ → Bool) (J : History) → is_legal v t J ≡ true → (a : ℕ)
    → is_moment ((limit_in_force J a).since + (limit_in_force J a).length_of) ≡ true
limit_fits v t = legal_induction v t (λ J. (a : ℕ) → fits (limit_in_force J a) ≡ true) no_limit
    (λ J e l k ih a. ap fits (limit_push J e a) ∙ by_deed J e.by e.moment e.deed k a (ih a))
  where
    chosen : (b : Bool) (x y : Limit) → fits x ≡ true → fits y ≡ true → fits (unwrap_or (when b x) y) ≡ true
    chosen true x y h k = h
    chosen false x y h k = k

    by_deed : (J : History) (by m : ℕ) (d : Deed) → Allowed v t J (record { by = by; moment = m; deed = d }) → (a : ℕ)
        → fits (limit_in_force J a) ≡ true
        → fits (unwrap_or (limit_given a (record { by = by; moment = m; deed = d })) (limit_in_force J a)) ≡ true
    by_deed J by m (Start b parent limit) k a h =
        let e : Entry = record { by = by; moment = m; deed = Start b parent limit } in
        chosen (b == a) (record { length_of = limit; since = m }) (limit_in_force J a)
        (start_kept v t (facts_of J) m b parent limit (entry_kept v t (facts_of J) e k.unbroken).deed).limit_fits h
    by_deed J by m (Renew b limit) k a h =
        let e : Entry = record { by = by; moment = m; deed = Renew b limit } in
        chosen (b == a) (record { length_of = limit; since = m }) (limit_in_force J a)
        (renew_kept v t (facts_of J) m b limit (entry_kept v t (facts_of J) e k.unbroken).deed).limit_fits h
    by_deed J by m _ k a h = h

-- an action whose status is there is there itself
status_found : (v : Version) (t : List ℕ → Bool) (J : History) → is_legal v t J ≡ true
    → (a : ℕ) (s : Option ActionStatus) → action_status J a ≡ s → is_among (actions J) a ≡ is_some s
status_found v t J l a s e = sym (status_is_there v t J l a) ∙ ap (λ (o : Option ActionStatus). is_some o) e

-- an action whose limit passes is there
pub limit_there : (v : Version) (t : List ℕ → Bool) (J : History) → is_legal v t J ≡ true → (a moment : ℕ)
    → limit_in J a ≡ Some moment → is_among (actions J) a ≡ true
limit_there v t J l a moment h = decide (action_status J a) refl
  where
    decide : (s : Option ActionStatus) → action_status J a ≡ s → is_among (actions J) a ≡ true
    decide (Some s) e = status_found v t J l a (Some s) e
    decide None e = let none : limit_in J a ≡ None = rw e refl in absurd cc

pub limit_found : (v : Version) (t : List ℕ → Bool) (J : History) → is_legal v t J ≡ true → (a : ℕ) → limit_in J a
    ≡ option_and_then limit_by (found_action J a)
limit_found v t J l a = decide (action_status J a) refl
  where
    whens : (b : Bool) (m : ℕ) → moment_of (when b (record { number = a; moment = m })) ≡ when b m
    whens true m = refl
    whens false m = refl

    decide : (s : Option ActionStatus) → action_status J a ≡ s → limit_in J a
        ≡ option_and_then limit_by (found_action J a)
    decide (Some s) e = rw (status_found v t J l a (Some s) e, e) (whens
        (is_active s && not ((limit_in_force J a).length_of == 0)) ((limit_in_force J a).since
        + (limit_in_force J a).length_of))
    decide None e = rw (status_found v t J l a None e, e) refl

-- the row of an action has a limit that passes at a moment that the journal can have
pub row_fits : (v : Version) (t : List ℕ → Bool) (J : History) → is_legal v t J ≡ true → (a : ℕ) (r : ActionRow)
    → found_action J a ≡ Some r → r.since + r.limit < 2 ^ 64
row_fits v t J l a r e = decide (is_among (actions J) a) refl
  where
    decide : (b : Bool) → is_among (actions J) a ≡ b → r.since + r.limit < 2 ^ 64
    decide true h =
        let k : (limit_in_force J a).since + (limit_in_force J a).length_of
        ≤ 2 ^ 64 - 1 = leb-true _ _ (limit_fits v t J l a) in
        let there = rw h at e in
        let since : (limit_in_force J a).since ≡ r.since = cc in
        let limit : (limit_in_force J a).length_of ≡ r.limit = cc in
        omega arith
    decide false h = let there = rw h at e in absurd cc
