-- What an action waits for, row by row, by what is found.
use Rattle.std.proofs.Common.{◌≡◌, ℕ, Bool, true, false, List, [], ◌∷◌, ◌++◌, map, Option, Some, None, refl, sym, ap}
use Rattle.std.proofs.Common.{◌∙◌, cond}
use Rattle.std.proofs.Math.Bool.{and-false}
use Rattle.std.specs.Prelude.{◌&&◌, ◌==◌, not, is_some, unwrap_or}
use Rattle.std.specs.Option.{option_map_or, option_and_then}
use Rattle.lra_model.specs.declared.status.ActionStatus.{ActionStatus}
use Rattle.lra_model.specs.declared.status.ActionStatus.TheVariants as action
use Rattle.lra_model.specs.declared.version.Version.{Version}
use Rattle.lra_model.specs.Addresses.{Addresses}
use Rattle.lra_model.specs.Words.{has_ended, has_finished_cancelling}
use Rattle.lra_model.specs.History.{History, actions, members, is_among}
use Rattle.lra_model.specs.Actions.{action_status, children, members_of}
use Rattle.lra_model.specs.Members.{action_of, addresses_of, has_left, stays, member_status, outstanding_ask}
use Rattle.lra_model.specs.Rules.{is_legal}
use Rattle.lra_laws.specs.Rows as rows
use Rattle.lra_laws.proofs.Named.{status_is_there, members_of_lem}
use Rattle.lra_laws.proofs.MemberRows.{absent_row}
use Rattle.lra_laws.proofs.GoodLists.{among_here, among_there}
use Rattle.lra_laws.proofs.Tested.{both}
use Rattle.lra_rows.specs.declared.found.ActionRow.{ActionRow}
use Rattle.lra_rows.specs.declared.found.MemberRow.{MemberRow}
use Rattle.lra_commands.specs.declared.query.Blocker.{Blocker}
use Rattle.lra_commands.specs.declared.query.Blocker.TheVariants as awaited
use Rattle.lra_commands.specs.Queries.{rows_of, holds_end}
use Rattle.lra_validator.specs.inner.Blocker.{waits_for_member, waits_for_action, can_compensate, waits_for_row}
use Rattle.lra_validator.specs.inner.Blocker.{waits_for_found, found_status, held, member_row, found_rows}
use Rattle.lra_validator.proofs.OnMembers.{gone_is}
use Rattle.lra_validator.proofs.Passing.{row_of, member_of}

-- ---- row by row

and_assoc : (a b c : Bool) → (a && (b && c)) ≡ ((a && b) && c)
and_assoc true b c = refl
and_assoc false b c = refl

compensates : (v : Version) (t : List ℕ → Bool) (J : History) → is_legal v t J ≡ true → (p : ℕ) → can_compensate J p
    ≡ is_some (addresses_of J p).compensate
compensates v t J l p = one (is_among (members J) p) refl
  where
    one : (b : Bool) → is_among (members J) p ≡ b → option_map_or (λ (u : Addresses). is_some u.compensate)
        (cond b (Some (addresses_of J p)) None) false ≡ is_some (addresses_of J p).compensate
    one true h = refl
    one false h = sym (ap (λ (r : rows.MemberRow). r.addresses.compensate) (absent_row v t J l p h))

-- a member blocks the end where it hasn't left, and is waited for
member_waits : (v : Version) (t : List ℕ → Bool) (J : History) → is_legal v t J ≡ true → (status : ActionStatus) (p : ℕ)
    → (can_compensate J p && waits_for_found status J p) ≡ (stays J p && waits_for_member status (member_status J p))
unfolding stays
member_waits v t J l status p =
    ap (λ b. b && waits_for_found status J p) (compensates v t J l p) ∙ one (is_among (members J) p) refl
    ∙ and_assoc (is_some (addresses_of J p).compensate) (not (has_left J p))
    (waits_for_member status (member_status J p))
  where
    can : Bool
    can = is_some (addresses_of J p).compensate

    one : (b : Bool) → is_among (members J) p ≡ b → (can && option_map_or (waits_for_row status)
        (cond b (Some (member_of J p)) None) false)
        ≡ (can && (not (has_left J p) && waits_for_member status (member_status J p)))
    one true h = ap (λ b. can && (not b && waits_for_member status (member_status J p))) (gone_is J p)
    one false h =
        let never : can ≡ false = ap (λ (r : rows.MemberRow). r.addresses.compensate) (absent_row v t J l p h) in
        ap (λ b. b && false) never
        ∙ sym (ap (λ b. b && (not (has_left J p) && waits_for_member status (member_status J p))) never)

member_by : (J : History) (status : ActionStatus) (p : ℕ) (ask : Option ℕ)
    → (stays J p && waits_for_member status (member_status J p)) ≡ holds_end status J (awaited.Member p ask)
member_by J action.Closing p ask = refl
member_by J action.Cancelling p ask = refl
member_by J action.Active p ask = and-false (stays J p)
member_by J action.Closed p ask = and-false (stays J p)
member_by J action.FailedToClose p ask = and-false (stays J p)
member_by J action.Cancelled p ask = and-false (stays J p)
member_by J action.FailedToCancel p ask = and-false (stays J p)

status_found : (v : Version) (t : List ℕ → Bool) (J : History) → is_legal v t J ≡ true → (b : ℕ) → found_status J b
    ≡ unwrap_or (action_status J b) action.Active
status_found v t J l b = one (is_among (actions J) b) (status_is_there v t J l b)
  where
    none : (o : Option ActionStatus) → is_some o ≡ false → action.Active ≡ unwrap_or o action.Active
    none None h = refl
    none (Some x) h = absurd cc

    one : (x : Bool) → is_some (action_status J b) ≡ x → option_map_or (λ (r : ActionRow). r.status)
        (cond x (Some (row_of J b)) None) action.Active ≡ unwrap_or (action_status J b) action.Active
    one true h = refl
    one false h = none (action_status J b) h

-- a test that an Active action fails, of an action that may not be there
or_active : (test : ActionStatus → Bool) → test action.Active ≡ false → (o : Option ActionStatus)
    → test (unwrap_or o action.Active) ≡ option_map_or test o false
or_active test h None = h
or_active test h (Some x) = refl

action_by : (J : History) (status : ActionStatus) (b : ℕ) → waits_for_action status
    (unwrap_or (action_status J b) action.Active) ≡ holds_end status J (awaited.Action b)
action_by J action.Closing b = ap not (or_active has_ended refl (action_status J b))
action_by J action.Cancelling b = ap not (or_active has_finished_cancelling refl (action_status J b))
action_by J action.Active b = refl
action_by J action.Closed b = refl
action_by J action.FailedToClose b = refl
action_by J action.Cancelled b = refl
action_by J action.FailedToCancel b = refl

pub held_is : (v : Version) (t : List ℕ → Bool) (J : History) → is_legal v t J ≡ true
    → (status : ActionStatus) (row : Blocker) → held status J row ≡ holds_end status J row
held_is v t J l status (awaited.Member p ask) = member_waits v t J l status p ∙ member_by J status p ask
held_is v t J l status (awaited.Action b) = ap (waits_for_action status) (status_found v t J l b) ∙ action_by J status b

map_same : (f g : ℕ → Blocker) (ns : List ℕ) → ((n : ℕ) → is_among ns n ≡ true → f n ≡ g n) → map f ns ≡ map g ns
map_same f g [] h = refl
map_same f g (n ∷ ns) h = λ i. h n (among_here n ns) i ∷ map_same f g ns (λ m k. h m (among_there n ns m k)) i

pub rows_are : (v : Version) (t : List ℕ → Bool) (J : History) → is_legal v t J ≡ true → (a : ℕ) → found_rows J a
    ≡ rows_of J a
unfolding rows_of
rows_are v t J l a = ap (λ (front : List Blocker). front ++ map awaited.Action (children J a))
    (map_same (member_row J) (λ p. awaited.Member p (outstanding_ask J p)) (members_of J a) one)
  where
    one : (p : ℕ) → is_among (members_of J a) p ≡ true → member_row J p ≡ awaited.Member p (outstanding_ask J p)
    one p h =
        let there = (both (is_among (members J) p) (action_of J p == a) (sym (members_of_lem v t J l a p) ∙ h)).0 in
        ap (λ b. awaited.Member p (option_and_then (λ (r : MemberRow). r.outstanding)
        (cond b (Some (member_of J p)) None))) there
