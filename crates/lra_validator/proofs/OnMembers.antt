-- What is decided on commands on members.
use Rattle.std.proofs.Common.{◌≡◌, ℕ, ◌+◌, ◌<◌, ◌^◌, Bool, true, false, List, [], ◌∷◌, ◌++◌, length, Option, Some, None}
use Rattle.std.proofs.Common.{Ok, Err, Bor, Result, refl, sym, ap, ◌∙◌, subst, append-nil, arith, max, cond, inr}
use Rattle.std.proofs.Common.{length-append}
use Rattle.std.proofs.Math.Bool.{and-false}
use Rattle.std.proofs.lemmas.Bool.{leb-true, leb-false, not-false, not-true}
use Rattle.std.specs.Prelude.{◌&&◌, ◌==◌, not, is_some, nat_le}
use Rattle.std.specs.Option.{option_map_or}
use Rattle.lra_model.specs.declared.status.Ending.{Ending}
use Rattle.lra_model.specs.declared.status.Ending.TheVariants as ending
use Rattle.lra_model.specs.declared.asks.AskKind.TheVariants as ask
use Rattle.lra_model.specs.declared.asks.Direction.TheVariants as direction
use Rattle.lra_model.specs.declared.asks.Outcome.{Outcome}
use Rattle.lra_model.specs.declared.asks.Outcome.TheVariants as outcome
use Rattle.lra_model.specs.declared.entry.Deed.{Deed}
use Rattle.lra_model.specs.declared.entry.Deed.TheVariants as deed
use Rattle.lra_model.specs.declared.entry.Entry.{Entry}
use Rattle.lra_model.specs.Addresses.{Addresses}
use Rattle.lra_model.specs.Words.{when, is_active, has_gone, is_decisive}
use Rattle.lra_model.specs.History.{History, clerks, actions, members, is_among, last_moment}
use Rattle.lra_model.specs.Members.{action_of, has_left, was_asked, decided, member_status}
use Rattle.lra_model.specs.Joins.{already_member}
use Rattle.lra_laws.proofs.GoodStatus.{status_by}
use Rattle.lra_laws.proofs.Push.{clerks_push, actions_push, members_push}
use Rattle.lra_laws.proofs.Rests.{decided_is_decisive}
use Rattle.lra_laws.proofs.Tested.{and_intro}
use Rattle.lra_rows.specs.declared.found.ActionRow.{ActionRow}
use Rattle.lra_rows.specs.declared.found.MemberRow.{MemberRow}
use Rattle.lra_commands.specs.declared.command.Command.TheVariants as command
use Rattle.lra_commands.specs.declared.command.Told.TheVariants as told
use Rattle.lra_commands.specs.declared.limits.Terms.{Terms}
use Rattle.lra_commands.specs.declared.refusal.Refusal.{Refusal}
use Rattle.lra_commands.specs.declared.refusal.Refusal.TheVariants as refusal
use Rattle.lra_commands.specs.declared.refusal.Resource.TheVariants as resource
use Rattle.lra_commands.specs.Terms.{AreKeepable}
use Rattle.lra_commands.specs.Calls.{Call, are_texts}
use Rattle.lra_commands.specs.Deeds.{stored_addresses, outcome_told, is_decided, is_open, entry_of}
use Rattle.lra_commands.specs.Blocks.{block}
use Rattle.lra_commands.specs.Refusals.{status_at, is_asked_for, is_stranger}
use Rattle.lra_commands.specs.Runs.{IsLawful}
use Rattle.lra_commands.proofs.KeepsOwn.{Unheld, join_allowed, leave_allowed, report_allowed}
use Rattle.lra_validator.specs.Decisions.{IsDecided}
use Rattle.lra_validator.specs.inner.Judged as judged
use Rattle.lra_validator.specs.inner.Judged.{Judged, ◌>>=◌}
use Rattle.lra_validator.specs.inner.Stored.{IsReading}
use Rattle.lra_validator.proofs.Counts.{adds_none}
use Rattle.lra_validator.proofs.Grounds.{first_decides, only_told, written_own, few_of_same, full_members, stranger}
use Rattle.lra_validator.proofs.Passing.{call, row_of, member_of, past_clerk, past_action, past_member, past_required}
use Rattle.lra_validator.proofs.Passing.{free_from, may, opened}

-- ---- the status of a member, by what bears on it

-- what decides a direction, where it is decisive
abbrev IsDecisive : Option Outcome → Type 0
IsDecisive o = option_map_or is_decisive o true ≡ true

undecided_gone : (wc : Bool) (dp : Option Outcome) (wp : Bool) → IsDecisive dp
    → has_gone (status_by false None wc dp wp) ≡ false
undecided_gone true dp wp h = refl
undecided_gone false None true h = refl
undecided_gone false None false h = refl
undecided_gone false (Some outcome.Done) wp h = refl
undecided_gone false (Some outcome.Failed) wp h = refl
undecided_gone false (Some outcome.Accepted) wp h = absurd cc
undecided_gone false (Some outcome.Silent) wp h = absurd cc

gone_by : (l : Bool) (dc : Option Outcome) (wc : Bool) (dp : Option Outcome) (wp : Bool) → IsDecisive dc → IsDecisive dp
    → has_gone (status_by l dc wc dp wp) ≡ l
gone_by true dc wc dp wp h k = refl
gone_by false None wc dp wp h k = undecided_gone wc dp wp k
gone_by false (Some outcome.Done) wc dp wp h k = refl
gone_by false (Some outcome.Failed) wc dp wp h k = refl
gone_by false (Some outcome.Accepted) wc dp wp h k = absurd cc
gone_by false (Some outcome.Silent) wc dp wp h k = absurd cc

pub gone_is : (J : History) (p : ℕ) → has_gone (member_status J p) ≡ has_left J p
unfolding member_status
gone_is J p =
    gone_by (has_left J p) (decided J p direction.Compensation) (was_asked J p ask.Compensate)
    (decided J p direction.Completion) (was_asked J p ask.Complete) (decided_is_decisive J p direction.Compensation)
    (decided_is_decisive J p direction.Completion)

told_is : (J : History) (p : ℕ) (e : Ending) → judged.has_told (member_of J p) e ≡ is_decided J p e
told_is J p ending.Completed = refl
told_is J p ending.FailedToComplete = refl
told_is J p ending.Compensated = refl
told_is J p ending.FailedToCompensate = refl

pub awaited_is : (J : History) (p : ℕ) (e : Ending) → judged.is_awaited (member_status J p) e ≡ is_asked_for J p e
awaited_is J p ending.Completed = refl
awaited_is J p ending.FailedToComplete = refl
awaited_is J p ending.Compensated = refl
awaited_is J p ending.FailedToCompensate = refl

-- ---- Report

pub report_decides : (s : Terms) (J : History) (by h p : ℕ) (e : Ending) → IsLawful s J → h < 2 ^ 64
    → IsDecided s J (call by h (command.Report p e)) (judged.report J by (max h (last_moment J)) p e)
report_decides s J by h p e k f =
    past_clerk s J c _ refl (λ here known.
    past_member s J c p (λ x. judged.here x.status >>= λ _. judged.report_at by m p e x)
    (λ gone. first_decides s J c 0 refusal.NoSuchMember known (ap not gone, refl))
    (λ there.
    past_required s J c (not (has_gone (member_status J p))) refusal.HasLeft (judged.report_at by m p e (member_of J p))
    (λ left. first_decides s J c 1 refusal.HasLeft known (ap not there, (left_from left, refl)))
    (λ stays.
    at_told here known there (here_from stays) (judged.has_told (member_of J p) e) (sym (told_is J p e))
    (judged.is_awaited (member_status J p) e) (sym (awaited_is J p e)))))
  where
    c : Call
    c = call by h (command.Report p e)

    m : ℕ
    m = max h (last_moment J)

    d : Deed
    d = deed.Report p (outcome_told e)

    left_from : not (has_gone (member_status J p)) ≡ false → has_left J p ≡ true
    left_from g = sym (gone_is J p) ∙ not-false (has_gone (member_status J p)) g

    here_from : not (has_gone (member_status J p)) ≡ true → has_left J p ≡ false
    here_from g = sym (gone_is J p) ∙ not-true (has_gone (member_status J p)) g

    at_told : is_among (clerks J) by ≡ true → is_stranger J by c.command ≡ false → is_among (members J) p ≡ true
        → has_left J p ≡ false → (x : Bool) → is_decided J p e ≡ x → (y : Bool) → is_asked_for J p e ≡ y
        → IsDecided s J c (cond x (judged.told_so (told.MemberAlready (member_status J p)))
        (cond y (Ok (judged.written by m d)) (Err refusal.NotAsked)))
    at_told here known there stays true g y i =
        let free : (not (is_decided J p e) && not (is_asked_for J p e))
        ≡ false = ap (λ (b : Bool). not b && not (is_asked_for J p e)) g in
        only_told s J c (told.MemberAlready (member_status J p)) (free_from s J c known
        (ap not there, (stays, (free, tt)))) (ap (λ (b : Bool). when (not b) d) g)
        (ap (λ (b : Bool). cond b (told.MemberAlready (member_status J p))
        (told.MemberNow (member_status (J ++ block s J c) p))) g)
    at_told here known there stays false g true i =
        let free : (not (is_decided J p e) && not (is_asked_for J p e))
        ≡ false = ap (λ (b : Bool). not (is_decided J p e) && not b) i ∙ and-false (not (is_decided J p e)) in
        let u : Unheld s J m c.command = (ap not there, (stays, (free, tt))) in
        written_own s J c d (record { free = free_from s J c known u; own = ap (λ (b : Bool). when (not b) d) g })
        (report_allowed s J by m p e (may s J by h k f here) u g)
        (few_of_same s.limits J _ k.within (adds_none _ refl refl refl))
    at_told here known there stays false g false i =
        let so : (not (is_decided J p e) && not (is_asked_for J p e)) ≡ true =
        ap (λ (b : Bool). not b && not (is_asked_for J p e)) g ∙ ap not i in
        first_decides s J c 2 refusal.NotAsked known (ap not there, (stays, (so, refl)))

-- ---- Leave

pub leave_decides : (s : Terms) (J : History) (by h a p : ℕ) → IsLawful s J → h < 2 ^ 64
    → IsDecided s J (call by h (command.Leave a p)) (judged.leave J by (max h (last_moment J)) a p)
leave_decides s J by h a p k f =
    past_clerk s J c _ refl (λ here known.
    past_action s J c a (λ r. judged.known_member J p >>= after r) (λ gone. first_decides s J c 0 refusal.NoSuchAction
    known (ap not gone, refl))
    (λ there.
    past_member s J c p _ (λ gone. first_decides s J c 1 refusal.NoSuchMember known (ap not there, (ap not gone, refl)))
    (λ joined.
    past_required s J c (action_of J p == a) refusal.WrongAction _ (λ other. first_decides s J c 2 refusal.WrongAction
    known (ap not there, (ap not joined, (ap not other, refl))))
    (λ own.
    past_required s J c (not (has_gone (member_status J p))) refusal.HasLeft _
    (λ left. first_decides s J c 3 refusal.HasLeft known (
      ap not there,
      (ap not joined, (ap not own, (left_from left, refl))),
    ))
    (λ stays.
    past_required s J c (is_active (status_at J a)) (refusal.NotActive (status_at J a)) _
    (λ shut. first_decides s J c 4 (refusal.NotActive (status_at J a)) known
    (ap not there, (ap not joined, (ap not own, (here_from stays, (ap not (opened s J a k there ∙ shut), refl))))))
    (λ active.
    let u : Unheld s J m c.command = (
      ap not there,
      (
        ap not joined,
        (ap not own, (here_from stays, (ap not (opened s J a k there ∙ active), tt))),
      ),
    ) in
    written_own s J c d (record { free = free_from s J c known u; own = refl })
    (leave_allowed s J by m a p (may s J by h k f here) u) (few_of_same s.limits J _ k.within
    (adds_none _ refl refl refl))))))))
  where
    c : Call
    c = call by h (command.Leave a p)

    m : ℕ
    m = max h (last_moment J)

    d : Deed
    d = deed.Leave p

    after : ActionRow → MemberRow → Judged
    after r x = judged.own x.action a >>= λ _. judged.here x.status >>= λ _. judged.still_open r.status >>= λ _. Ok
        (judged.written by m d)

    left_from : not (has_gone (member_status J p)) ≡ false → has_left J p ≡ true
    left_from g = sym (gone_is J p) ∙ not-false (has_gone (member_status J p)) g

    here_from : not (has_gone (member_status J p)) ≡ true → has_left J p ≡ false
    here_from g = sym (gone_is J p) ∙ not-true (has_gone (member_status J p)) g

-- ---- Join

one_longer : (ns : List ℕ) (n : ℕ) → length (ns ++ n ∷ []) ≡ length ns + 1
one_longer ns n = length-append ns (n ∷ [])

-- a join of an action that is Active, with addresses that fit
joins : (s : Terms) (J : History) (by h a : ℕ) (uris : Bor Addresses) → AreKeepable s.limits → IsLawful s J → h < 2 ^ 64
    → are_texts uris.now ≡ true → is_among (clerks J) by ≡ true → Unheld s J (max h (last_moment J))
    (command.Join a uris)
    → IsDecided s J (call by h (command.Join a uris)) (judged.join_with s.limits J by (max h (last_moment J)) a
    (stored_addresses uris.now))
joins s J by h a uris l k f texts here u = at_joined (already_member J a w) refl
  where
    c : Call
    c = call by h (command.Join a uris)

    m : ℕ
    m = max h (last_moment J)

    n : ℕ
    n = length (members J) + 1

    w : Addresses
    w = stored_addresses uris.now

    d : Deed
    d = deed.Join n a w

    e : Entry
    e = entry_of J c d

    clerks_now : length (clerks (J ++ e ∷ [])) ≡ length (clerks J)
    clerks_now = ap (λ (ns : List ℕ). length ns) (clerks_push J e ∙ append-nil (clerks J))

    actions_now : length (actions (J ++ e ∷ [])) ≡ length (actions J)
    actions_now = ap (λ (ns : List ℕ). length ns) (actions_push J e ∙ append-nil (actions J))

    members_now : length (members (J ++ e ∷ [])) ≡ n
    members_now = ap (λ (ns : List ℕ). length ns) (members_push J e) ∙ one_longer (members J) n

    at_room : already_member J a w ≡ None → (b : Bool) → nat_le s.limits.members (length (members J)) ≡ b
        → IsDecided s J c (cond b (Err (refusal.Full resource.Members)) (Ok n) >>= λ p. Ok
        (judged.written by m (deed.Join p a w)))
    at_room new true g =
        let many = leb-true s.limits.members (length (members J)) g in
        full_members s J c d (record {
          free = free_from s J c (ap not here) u;
          own =
              ap (λ (o : Option ℕ). cond (is_some o) None (Some d)) new;
        }) (rw clerks_now k.within.clerks)
        (rw actions_now k.within.actions) (rw members_now (omega arith))
    at_room new false g =
        let few = leb-false s.limits.members (length (members J)) g in
        let low = l.members in
        written_own s J c d (record {
          free = free_from s J c (ap not here) u;
          own =
              ap (λ (o : Option ℕ). cond (is_some o) None (Some d)) new;
        })
        (join_allowed s J by m a uris.now (may s J by h k f here) (not-false _ u.0) (not-false _ u.1.0)
        (not-false _ u.1.1.0) texts (omega arith))
        (record {
          clerks = rw clerks_now k.within.clerks;
          actions = rw actions_now k.within.actions;
          members =
              rw members_now (omega arith);
        })

    at_joined : (o : Option ℕ) → already_member J a w ≡ o
        → IsDecided s J c (option_map_or (λ p. judged.told_so (told.AlreadyMember p)) o
        (judged.new_member s.limits J >>= λ p. Ok (judged.written by m (deed.Join p a w))))
    at_joined (Some p) g =
        only_told s J c (told.AlreadyMember p) (free_from s J c (ap not here) u)
        (ap (λ (o : Option ℕ). cond (is_some o) None (Some d)) g)
        (ap (λ (o : Option ℕ). option_map_or told.AlreadyMember o (told.Member (length (members (J ++ block s J c)))))
        g)
    at_joined None g = at_room g (nat_le s.limits.members (length (members J))) refl

pub join_decides : (s : Terms) (J : History) (by h a : ℕ) (uris : Bor Addresses) (result : Judged)
    → AreKeepable s.limits → IsLawful s J → h < 2 ^ 64 → are_texts uris.now ≡ true
    → judged.IsJoin s.limits J by (max h (last_moment J)) a uris.now result (judged.joinable J by a)
    → IsDecided s J (call by h (command.Join a uris)) result
join_decides s J by h a uris result l k f texts joined = at_tests (is_among (clerks J) by) refl (is_among (actions J) a)
    refl joined
  where
    c : Call
    c = call by h (command.Join a uris)

    m : ℕ
    m = max h (last_moment J)

    by_read : is_among (clerks J) by ≡ true → is_among (actions J) a ≡ true → is_active (status_at J a) ≡ true
        → (read : Result Addresses Refusal) → IsReading uris.now read → IsDecided s J c
        (judged.join_read s.limits J by m a read)
    by_read here there active (Ok own) is =
        let u : Unheld s J m c.command = (ap not there, (ap not (opened s J a k there ∙ active), (ap not is.1, tt))) in
        subst (λ (x : Addresses). IsDecided s J c (judged.join_with s.limits J by m a x)) (sym is.0)
        (joins s J by h a uris l k f texts here u)
    by_read here there active (Err refusal.Memory) is =
        inr (record {
          memory = refl;
          reads = and_intro (is_among (clerks J) by) (is_open J a) here
              (opened s J a k there ∙ active);
        })
    by_read here there active (Err r) is =
        let bad = is (λ e. cc) in
        first_decides s J c 2 r (ap not here)
        (ap not there, (ap not (opened s J a k there ∙ active), (ap not bad.1, sym bad.0)))

    at_open : is_among (clerks J) by ≡ true → is_among (actions J) a ≡ true → (y : Bool) → is_active (status_at J a) ≡ y
        → judged.IsJoin s.limits J by m a uris.now result
        ((judged.required y (refusal.NotActive (status_at J a)) >>= λ _. Ok (row_of J a)) >>= λ r. Ok
        (let t : Unit {0} = tt in t)) → IsDecided s J c result
    at_open here there false j is = subst (λ (r : Judged). IsDecided s J c r) (sym is)
        (first_decides s J c 1 (refusal.NotActive (status_at J a)) (ap not here)
        (ap not there, (ap not (opened s J a k there ∙ j), refl)))
    at_open here there true j is = subst (λ (r : Judged). IsDecided s J c r) (sym is.2) (by_read here there j is.0 is.1)

    at_tests : (b : Bool) → is_among (clerks J) by ≡ b → (x : Bool) → is_among (actions J) a ≡ x
        → judged.IsJoin s.limits J by m a uris.now result
        (judged.required b refusal.NoSuchClerk >>= λ _.
        (option_map_or Ok (cond x (Some (row_of J a)) None) (Err refusal.NoSuchAction) >>= λ r. judged.required
        (is_active r.status) (refusal.NotActive r.status) >>= λ _. Ok r) >>= λ r. Ok (let t : Unit {0} = tt in t))
        → IsDecided s J c result
    at_tests false g x i is = subst (λ (r : Judged). IsDecided s J c r) (sym is) (stranger s J c (ap not g))
    at_tests true g false i is = subst (λ (r : Judged). IsDecided s J c r) (sym is)
        (first_decides s J c 0 refusal.NoSuchAction (ap not g) (ap not i, refl))
    at_tests true g true i is = at_open g i (is_active (status_at J a)) refl is
