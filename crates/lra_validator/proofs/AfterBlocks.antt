-- What is returned after all that a command appends.
use Rattle.std.proofs.Common.{◌≡◌, ℕ, ◌+◌, ◌<◌, Bool, true, false, List, [], ◌∷◌, ◌++◌, length, take, get_or, Option}
use Rattle.std.proofs.Common.{Some, None, Ok, refl, sym, ap, ◌∙◌, subst, append_assoc, cond, max, length-append, eq-eqb}
use Rattle.std.specs.Prelude.{◌||◌, ◌&&◌, not, is_some, option_map, option_to_list, unwrap_or}
use Rattle.std.specs.Option.{option_or, option_map_or, option_and_then}
use Rattle.std.specs.List.{filter_map, cons_option, last_or}
use Rattle.std.proofs.lemmas.List.{take_more}
use Rattle.std.proofs.lemmas.Bool.{not-false, not-true}
use Rattle.std.proofs.lemmas.List.Elements.{filter_map-append}
use Rattle.lra_model.specs.declared.status.ActionStatus.{ActionStatus}
use Rattle.lra_model.specs.declared.status.ActionStatus.TheVariants as action
use Rattle.lra_model.specs.declared.status.MemberStatus.{MemberStatus}
use Rattle.lra_model.specs.declared.status.MemberStatus.TheVariants as member
use Rattle.lra_model.specs.declared.status.Ending.{Ending}
use Rattle.lra_model.specs.declared.status.Ending.TheVariants as ending
use Rattle.lra_model.specs.declared.asks.AskKind.{AskKind}
use Rattle.lra_model.specs.declared.asks.AskKind.TheVariants as ask
use Rattle.lra_model.specs.declared.asks.Cause.TheVariants as cause
use Rattle.lra_model.specs.declared.entry.Deed.{Deed}
use Rattle.lra_model.specs.declared.entry.Deed.TheVariants as deed
use Rattle.lra_model.specs.declared.entry.Entry.{Entry}
use Rattle.lra_model.specs.Words.{when, is_completing, is_compensating}
use Rattle.lra_model.specs.History.{History, last, enrolled_by, started_by, joined_by, asked_by, clerks, actions}
use Rattle.lra_model.specs.History.{members, asks, last_moment}
use Rattle.lra_model.specs.Actions.{status_given, action_status}
use Rattle.lra_model.specs.Members.{is_leave_of, is_ask_for, member_status}
use Rattle.lra_model.specs.Joins.{already_member}
use Rattle.lra_model.specs.Wants.{wants}
use Rattle.lra_model.specs.Settling.{is_settling, settling_within, most_settling, settling, with_settling}
use Rattle.lra_laws.specs.Rows.{MemberRow, decided_as, way_of}
use Rattle.lra_laws.proofs.Push.{clerks_push, actions_push, members_push, asks_push, action_status_push}
use Rattle.lra_laws.proofs.GoodStatus.{is_decided, member_status_kept}
use Rattle.lra_laws.proofs.MemberDeeds.{report_row}
use Rattle.lra_commands.specs.declared.command.Command.TheVariants as command
use Rattle.lra_commands.specs.declared.command.Told.TheVariants as told
use Rattle.lra_commands.specs.declared.limits.Terms.{Terms}
use Rattle.lra_commands.specs.Calls.{Command, Call, moment_of}
use Rattle.lra_commands.specs.Due.{due, late}
use Rattle.lra_commands.specs.Deeds.{stored_addresses, outcome_told, is_open, may_be_cancelled, own_deed, entry_of}
use Rattle.lra_commands.specs.Deeds as deeds
use Rattle.lra_commands.specs.Blocks.{block}
use Rattle.lra_commands.specs.Refusals.{status_at, is_asked_for, command_grounds}
use Rattle.lra_commands.specs.Answers.{tells, told_of, answer}
use Rattle.lra_commands.proofs.KeepsGrounds.{NoneHolds, unrefused}
use Rattle.lra_validator.specs.Decisions.{IsAppended}
use Rattle.lra_validator.specs.inner.Judged as judged
use Rattle.lra_validator.specs.inner.Telling.{status_told, told_to}
use Rattle.lra_validator.proofs.Counts.{settling_keeps, settling_asks}
use Rattle.lra_validator.proofs.Grounds.{answers_ok, block_of, block_same}
use Rattle.lra_validator.proofs.OnMembers.{awaited_is}
use Rattle.lra_validator.proofs.Passing.{call}

-- ---- the status of an action, entry by entry

pub status_at_start : (a : ℕ) → None ≡ action_status [] a
unfolding action_status
status_at_start a = refl

pub status_further : (J : History) (i : ℕ) (e : Entry) (a : ℕ) → i < length J → e ≡ get_or J i e
    → action_status (take (i + 1) J) a ≡ option_or (status_given a e.deed) (action_status (take i J) a)
status_further J i e a lt is =
    ap (λ (K : History). action_status K a) (take_more J i e lt ∙ ap (λ (x : Entry). take i J ++ x ∷ []) (sym is))
    ∙ action_status_push (take i J) e a

-- the last of more, where there is one among the later ones
last_later : {X : Type 0} (o : Option X) (xs : List X) (y : X) (ys : List X) → last_or o (xs ++ (y ∷ ys))
    ≡ last_or None (y ∷ ys)
last_later o [] y ys = refl
last_later o (x ∷ xs) y ys = last_later (Some x) xs y ys

-- the status that entries leave an action in, where the first gives it one
status_later : (J : History) (e : Entry) (es : List Entry) (a : ℕ) (x : ActionStatus) → status_given a e.deed ≡ Some x
    → action_status (J ++ (e ∷ es)) a ≡ action_status (e ∷ es) a
unfolding action_status
status_later J e es a x h =
    ap (λ (xs : List ActionStatus). last xs) (filter_map-append (λ (d : Entry). status_given a d.deed) J (e ∷ es)
    ∙ ap (λ (o : Option ActionStatus). filter_map (λ (d : Entry). status_given a d.deed) J ++ cons_option o rest) h)
    ∙ last_later None (filter_map (λ (d : Entry). status_given a d.deed) J) x rest
    ∙ ap (λ (o : Option ActionStatus). last (cons_option o rest)) (sym h)
  where
    rest : List ActionStatus
    rest = filter_map (λ (d : Entry). status_given a d.deed) es

-- ---- counts after a block

one_longer : (ns : List ℕ) (o : Option ℕ) (n : ℕ) → o ≡ Some n → length (ns ++ option_to_list o) ≡ length ns + 1
one_longer ns (Some x) n h = length-append ns (x ∷ [])
one_longer ns None n h = absurd cc

clerks_after : (J : History) (e : Entry) (n : ℕ) → enrolled_by e ≡ Some n → length (clerks (J ++ with_settling J e))
    ≡ length (clerks J) + 1
clerks_after J e n h = ap (λ (ns : List ℕ). length ns) ((block_same J e).clerks ∙ clerks_push J e)
    ∙ one_longer (clerks J) (enrolled_by e) n h

actions_after : (J : History) (e : Entry) (n : ℕ) → started_by e.deed ≡ Some n
    → length (actions (J ++ with_settling J e)) ≡ length (actions J) + 1
actions_after J e n h = ap (λ (ns : List ℕ). length ns) ((block_same J e).actions ∙ actions_push J e)
    ∙ one_longer (actions J) (started_by e.deed) n h

members_after : (J : History) (e : Entry) (n : ℕ) → joined_by e.deed ≡ Some n
    → length (members (J ++ with_settling J e)) ≡ length (members J) + 1
members_after J e n h = ap (λ (ns : List ℕ). length ns) ((block_same J e).members ∙ members_push J e)
    ∙ one_longer (members J) (joined_by e.deed) n h

-- a block, and what stands before it
apart : (J : History) (e : Entry) → J ++ with_settling J e ≡ (J ++ e ∷ []) ++ settling e.by e.moment (J ++ e ∷ [])
apart J e = sym (append_assoc J (e ∷ []) (settling e.by e.moment (J ++ e ∷ [])))

asks_after : (J : History) (e : Entry) (n : ℕ) → asked_by e.deed ≡ Some n → length (asks (J ++ with_settling J e))
    ≡ length (asks J) + 1
asks_after J e n h =
    let K : History = J ++ e ∷ [] in
    ap (λ (ns : List ℕ). length ns) (ap asks (apart J e) ∙ settling_asks (most_settling K) e.by e.moment K
    ∙ asks_push J e) ∙ one_longer (asks J) (asked_by e.deed) n h

-- ---- a member that reports

-- what settles lets no member leave, and asks none
settles_aside : (p : ℕ) (d : Deed) → is_settling d ≡ true → (is_leave_of p d ≡ false)
    × (is_ask_for p ask.Compensate d ≡ false)
settles_aside p (deed.Close a cause.Parent) h = (refl, refl)
settles_aside p (deed.Cancel a cause.Parent) h = (refl, refl)
settles_aside p (deed.Skip q) h = (refl, refl)
settles_aside p (deed.End a status) h = (refl, refl)
settles_aside p _ h = absurd cc

status_settled : (n by m : ℕ) (J : History) (p : ℕ) (x : MemberStatus) → member_status J p ≡ x → is_decided x ≡ true
    → member_status (J ++ settling_within n by m J) p ≡ x
status_settled n by m J p x h stays =
    settling_keeps (λ K. member_status K p ≡ x)
    (λ K b t d s g. let aside = settles_aside p d s in
    member_status_kept K (record { by = b; moment = t; deed = d }) p (ap is_decided g ∙ stays) aside.0 aside.1 ∙ g)
    n by m J h

-- a status of one that is asked for an ending, and what the ending makes of it
reported : (e : Ending) (x : MemberStatus) → judged.is_awaited x e ≡ true
    → ((is_completing x || is_compensating x) ≡ true) × (decided_as (way_of x) (outcome_told e) x ≡ status_told e)
reported ending.Completed member.Completing h = (refl, refl)
reported ending.Completed _ h = absurd cc
reported ending.FailedToComplete member.Completing h = (refl, refl)
reported ending.FailedToComplete _ h = absurd cc
reported ending.Compensated member.Compensating h = (refl, refl)
reported ending.Compensated _ h = absurd cc
reported ending.FailedToCompensate member.Compensating h = (refl, refl)
reported ending.FailedToCompensate _ h = absurd cc

told_is_decided : (e : Ending) → is_decided (status_told e) ≡ true
told_is_decided ending.Completed = refl
told_is_decided ending.FailedToComplete = refl
told_is_decided ending.Compensated = refl
told_is_decided ending.FailedToCompensate = refl

report_after : (J : History) (by m p : ℕ) (e : Ending) → is_asked_for J p e ≡ true
    → member_status (J ++ with_settling J (record { by = by; moment = m; deed = deed.Report p (outcome_told e) })) p
    ≡ status_told e
report_after J by m p e asked =
    let x : Entry = record { by = by; moment = m; deed = deed.Report p (outcome_told e) } in
    let K : History = J ++ x ∷ [] in
    let k = reported e (member_status J p) (awaited_is J p e ∙ asked) in
    let now : member_status K p ≡ status_told e = ap (λ (r : MemberRow). r.status)
    (report_row J by m p (outcome_told e) k.0) ∙ k.1 in
    ap (λ (L : History). member_status L p) (apart J x) ∙ status_settled (most_settling K) by m K p (status_told e) now
    (told_is_decided e)

-- ---- what is returned

-- the deed of a test that holds
when_holds : (b : Bool) (x d : Deed) → when b x ≡ Some d → (b ≡ true) × (x ≡ d)
when_holds true x d h = (refl, cc)
when_holds false x d h = absurd cc

-- what a call returns for its block, whose own entry is of this deed
abbrev TellsBy : Terms → History → Call → Deed → Type 0
TellsBy s J c d = tells s J (J ++ with_settling J (entry_of J c d)) (moment_of J c) c.command
    ≡ told_to c.command (with_settling J (entry_of J c d))

told_own : (s : Terms) (J : History) (by h : ℕ) (o : Command) (d : Deed)
    → NoneHolds (command_grounds s J (max h (last_moment J)) o) → own_deed s J (max h (last_moment J)) o ≡ Some d
    → TellsBy s J (call by h o) d
told_own s J by h command.Enrol d u is =
    let e : deed.Enrol ≡ d = cc in
    subst (TellsBy s J (call by h command.Enrol)) e
    (ap told.Clerk (clerks_after J (entry_of J (call by h command.Enrol) deed.Enrol) _ refl))
told_own s J by h (command.Start parent limit) d u is =
    let e : deed.Start (length (actions J) + 1) parent limit ≡ d = cc in
    subst (TellsBy s J (call by h (command.Start parent limit))) e (ap told.Action
    (actions_after J (entry_of J (call by h (command.Start parent limit))
    (deed.Start (length (actions J) + 1) parent limit)) _ refl))
told_own s J by h (command.Join a uris) d u is = fresh (already_member J a (stored_addresses uris.now)) refl is
  where
    w : Deed
    w = deed.Join (length (members J) + 1) a (stored_addresses uris.now)

    fresh : (x : Option ℕ) → already_member J a (stored_addresses uris.now) ≡ x → cond (is_some x) None (Some w)
        ≡ Some d → TellsBy s J (call by h (command.Join a uris)) d
    fresh (Some p) g i = absurd cc
    fresh None g i =
        let e : w ≡ d = cc in
        let K : History = J ++ with_settling J (entry_of J (call by h (command.Join a uris)) w) in
        subst (TellsBy s J (call by h (command.Join a uris))) e
        (ap (λ (x : Option ℕ). option_map_or told.AlreadyMember x (told.Member (length (members K)))) g
        ∙ ap told.Member (members_after J (entry_of J (call by h (command.Join a uris)) w) _ refl))
told_own s J by h (command.Leave a p) d u is = let e : deed.Leave p ≡ d = cc in
    subst (TellsBy s J (call by h (command.Leave a p))) e refl
told_own s J by h (command.Close a) d u is =
    let g = when_holds (is_open J a) (deed.Close a cause.Client) d is in
    let c : Call = call by h (command.Close a) in
    let x : Entry = entry_of J c (deed.Close a cause.Client) in
    let K : History = J ++ with_settling J x in
    subst (TellsBy s J c) g.1
    (ap (λ (b : Bool). cond b (told.Now (status_at K a)) (told.Already (status_at J a))) g.0
    ∙ ap (λ (y : Option ActionStatus). told.Now (unwrap_or y action.Active))
    (status_later J x (settling x.by x.moment (J ++ x ∷ [])) a action.Closing
    (ap (λ (b : Bool). when b action.Closing) (eq-eqb a a refl))))
told_own s J by h (command.Cancel a) d u is =
    let g = when_holds (may_be_cancelled s J a) (deed.Cancel a cause.Client) d is in
    let c : Call = call by h (command.Cancel a) in
    let x : Entry = entry_of J c (deed.Cancel a cause.Client) in
    let K : History = J ++ with_settling J x in
    subst (TellsBy s J c) g.1
    (ap (λ (b : Bool). cond b (told.Now (status_at K a)) (told.Already (status_at J a))) g.0
    ∙ ap (λ (y : Option ActionStatus). told.Now (unwrap_or y action.Active))
    (status_later J x (settling x.by x.moment (J ++ x ∷ [])) a action.Cancelling
    (ap (λ (b : Bool). when b action.Cancelling) (eq-eqb a a refl))))
told_own s J by h command.Tick d u is = one (late J (max h (last_moment J))) refl is
  where
    one : (x : Option ℕ) → late J (max h (last_moment J)) ≡ x → option_map (λ a. deed.Cancel a cause.Limit) x ≡ Some d
        → TellsBy s J (call by h command.Tick) d
    one None g i = absurd cc
    one (Some a) g i =
        let e : deed.Cancel a cause.Limit ≡ d = cc in
        subst (TellsBy s J (call by h command.Tick)) e (ap (λ (x : Option ℕ). option_map_or told.Fired x told.Idle) g)
told_own s J by h command.NextAsk d u is = one (due s.limits J (max h (last_moment J))) refl is
  where
    c : Call
    c = call by h command.NextAsk

    n : ℕ
    n = length (asks J) + 1

    two : (p : ℕ) → due s.limits J (max h (last_moment J)) ≡ Some p → (w : Option AskKind) → option_map (deed.Ask n p) w
        ≡ Some d → TellsBy s J c d
    two p g None i = absurd cc
    two p g (Some kind) i =
        let e : deed.Ask n p kind ≡ d = cc in
        let K : History = J ++ with_settling J (entry_of J c (deed.Ask n p kind)) in
        subst (TellsBy s J c) e (ap (λ (x : Option ℕ). cond (is_some x) (told.Asked (length (asks K))) told.Idle) g
        ∙ ap told.Asked (asks_after J (entry_of J c (deed.Ask n p kind)) _ refl))

    one : (x : Option ℕ) → due s.limits J (max h (last_moment J)) ≡ x → option_and_then
        (λ p. option_map (deed.Ask n p) (wants J p)) x ≡ Some d → TellsBy s J c d
    one None g i = absurd cc
    one (Some p) g i = two p g (wants J p) i
told_own s J by h (command.Record errand o) d u is = let e : deed.Reply errand.now.ask o ≡ d = cc in
    subst (TellsBy s J (call by h (command.Record errand o))) e refl
told_own s J by h (command.Report p x) d u is =
    let g = when_holds (not (deeds.is_decided J p x)) (deed.Report p (outcome_told x)) d is in
    let c : Call = call by h (command.Report p x) in
    let new : deeds.is_decided J p x ≡ false = not-true (deeds.is_decided J p x) g.0 in
    let K : History = J ++ with_settling J (entry_of J c (deed.Report p (outcome_told x))) in
    subst (TellsBy s J c) g.1
    (ap (λ (b : Bool). cond b (told.MemberAlready (member_status J p)) (told.MemberNow (member_status K p))) new
    ∙ ap told.MemberNow (report_after J by (max h (last_moment J)) p x
    (asked (deeds.is_decided J p x) (is_asked_for J p x) new u.1.1.0)))
  where
    asked : (b e : Bool) → b ≡ false → (not b && not e) ≡ false → e ≡ true
    asked false e i j = not-false e j
    asked true e i j = absurd cc
told_own s J by h command.Restart d u is = let e : deed.Restart ≡ d = cc in
    subst (TellsBy s J (call by h command.Restart)) e refl
told_own s J by h (command.Renew a limit) d u is = let e : deed.Renew a limit ≡ d = cc in
    subst (TellsBy s J (call by h (command.Renew a limit))) e refl
told_own s J by h (command.Status a) d u is = absurd cc
told_own s J by h (command.MemberStatus p) d u is = absurd cc

pub told_after : (s : Terms) (J : History) (c : Call) (es : List Entry) → IsAppended s J c es → answer s J c
    ≡ Ok (told_to c.command es)
told_after s J c es h = answers_ok s J c h.refused ∙ ap Ok (one (own_deed s J (moment_of J c) c.command) refl)
  where
    one : (o : Option Deed) → own_deed s J (moment_of J c) c.command ≡ o → told_of s J c ≡ told_to c.command es
    one None g = absurd (h.filled (sym h.block ∙ block_of s J c None g))
    one (Some d) g =
        let written : block s J c ≡ with_settling J (entry_of J c d) = block_of s J c (Some d) g in
        ap (λ (bs : List Entry). tells s J (J ++ bs) (moment_of J c) c.command) written
        ∙ told_own s J c.by c.moment c.command d (unrefused s J c h.refused).fits g
        ∙ ap (told_to c.command) (sym written ∙ h.block)
