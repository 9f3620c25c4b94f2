-- Small histories, worked out by hand, and what the definitions make of them.
use Rattle.std.proofs.Common.{◌≡◌, ℕ, Bool, true, List, [], ◌∷◌, ◌++◌, Option, Some, None, refl, map}
use Rattle.std.specs.Prelude.{codes, nat_eq, not, ◌&&◌}
use Rattle.std.specs.List.{starts_with}
use Rattle.lra_model.specs.declared.status.ActionStatus.{ActionStatus}
use Rattle.lra_model.specs.declared.status.ActionStatus.TheVariants as action
use Rattle.lra_model.specs.declared.status.MemberStatus.TheVariants as member
use Rattle.lra_model.specs.declared.asks.AskKind.TheVariants as ask
use Rattle.lra_model.specs.declared.asks.Outcome.TheVariants as outcome
use Rattle.lra_model.specs.declared.asks.Cause.TheVariants as cause
use Rattle.lra_model.specs.declared.version.Version.TheVariants.{One, Two}
use Rattle.lra_model.specs.declared.rule.Rule.{Rule}
use Rattle.lra_model.specs.declared.rule.Rule.TheVariants as rule
use Rattle.lra_model.specs.declared.entry.Deed.{Deed}
use Rattle.lra_model.specs.declared.entry.Deed.TheVariants.{Enrol, Start, Join, Leave, Close, Cancel, Skip, Ask, Reply}
use Rattle.lra_model.specs.declared.entry.Deed.TheVariants.{Report, End, Restart, Renew}
use Rattle.lra_model.specs.declared.entry.Entry.{Entry}
use Rattle.lra_model.specs.Addresses.{Addresses}
use Rattle.lra_model.specs.Words.{has_ended, has_failed, is_closed, has_finished_cancelling}
use Rattle.lra_model.specs.History.{History, steps, clerks, actions, members, asks, last_moment}
use Rattle.lra_model.specs.Actions.{parent, top, is_under, action_status, limit_in_force, children, members_of}
use Rattle.lra_model.specs.Members.{action_of, addresses_of, has_left, stays, was_asked, ask_of, replies, decided}
use Rattle.lra_model.specs.Members.{member_status, last_reply, was_answered, is_outstanding, outstanding_ask}
use Rattle.lra_model.specs.Ends.{staying, is_settled, right_end, top_has_ended}
use Rattle.lra_model.specs.Facts.{facts_of}
use Rattle.lra_model.specs.Rules.{Fault, broken, is_legal, first_fault}
use Rattle.lra_model.specs.Settling.{next_settling}
use Rattle.lra_model.specs.Wants.{wants, repeats}
use Rattle.lra_model.specs.Tallies.{count_actions, least_failed, failed_actions}

-- for these histories, an address is what begins as one
abbrev pub is_http : List ℕ → Bool
is_http text = starts_with nat_eq text (codes "http://")

-- what the clerk 1 did at a moment
abbrev pub at : ℕ → Deed → Entry
at moment deed = record { by = 1; moment = moment; deed = deed }

abbrev pub u : Option (List ℕ)
u = Some (codes "http://n.test/u")

abbrev pub c : Option (List ℕ)
c = Some (codes "http://n.test/c")

abbrev pub s : Option (List ℕ)
s = Some (codes "http://n.test/s")

abbrev pub f : Option (List ℕ)
f = Some (codes "http://n.test/f")

abbrev pub a : Option (List ℕ)
a = Some (codes "http://n.test/a")

abbrev pub uris : Option (List ℕ) → Option (List ℕ) → Option (List ℕ) → Option (List ℕ) → Option (List ℕ) → Addresses
uris compensate complete status forget after = record {
  compensate = compensate;
  complete = complete;
  status = status;
  forget = forget;
  after = after;
}

-- an action is started and closed
abbrev pub closed_empty : History
closed_empty = at 0 Enrol ∷ at 0 (Start 1 None 0) ∷ at 5 (Close 1 cause.Client) ∷ at 5 (End 1 action.Closed) ∷ []

-- two members are asked to complete; one says done, the other goes on by itself
abbrev pub two_members : History
two_members =
    at 0 Enrol ∷ at 10 (Start 1 None 0) ∷ at 11 (Join 1 1 (uris u c s None None))
    ∷ at 12 (Join 2 1 (uris u c None None None)) ∷ at 20 (Close 1 cause.Client)
    ∷ at 21 (Ask 1 1 ask.Complete) ∷ at 22 (Ask 2 2 ask.Complete) ∷ at 23 (Reply 2 outcome.Done)
    ∷ at 24 (Reply 1 outcome.Accepted) ∷ []

-- the other reports that it completed
abbrev pub reported : History
reported = two_members ++ at 30 (Report 1 outcome.Done) ∷ at 30 (End 1 action.Closed) ∷ []

-- it is asked for its status and reports meanwhile; what it replies afterwards changes nothing
abbrev pub late_reply : History
late_reply = two_members ++ at 124 (Ask 3 1 ask.Status) ∷ at 130 (Report 1 outcome.Done) ∷ at 130 (End 1 action.Closed)
    ∷ at 132 (Reply 3 outcome.Failed) ∷ []

-- the only member leaves
abbrev pub left_alone : History
left_alone = at 0 Enrol ∷ at 0 (Start 1 None 0) ∷ at 1 (Join 1 1 (uris u c None None None)) ∷ at 2 (Leave 1)
    ∷ at 4 (Close 1 cause.Client) ∷ at 4 (End 1 action.Closed) ∷ []

-- an action in another, with a member
abbrev pub nest : History
nest = at 0 Enrol ∷ at 0 (Start 1 None 0) ∷ at 1 (Start 2 (Some 1) 0) ∷ at 2 (Join 1 2 (uris u c None f a)) ∷ []

-- the nested action closes, then the outer one is cancelled, and the member is notified of its end
abbrev pub undone : History
undone =
    nest ++ at 3 (Close 2 cause.Client) ∷ at 4 (Ask 1 1 ask.Complete) ∷ at 5 (Reply 1 outcome.Done)
    ∷ at 5 (End 2 action.Closed) ∷ at 6 (Cancel 1 cause.Client) ∷ at 6 (Cancel 2 cause.Parent)
    ∷ at 7 (Ask 2 1 ask.Compensate) ∷ at 8 (Reply 2 outcome.Done) ∷ at 8 (End 2 action.Cancelled)
    ∷ at 8 (End 1 action.Cancelled) ∷ at 9 (Ask 3 1 ask.After)
    ∷ at 10 (Reply 3 outcome.Silent) ∷ at 110 (Ask 4 1 ask.After) ∷ at 111 (Reply 4 outcome.Done) ∷ []

-- the outer action is cancelled while the nested one is closing
abbrev pub cancelled_meanwhile : History
cancelled_meanwhile =
    nest ++ at 3 (Close 2 cause.Client) ∷ at 4 (Ask 1 1 ask.Complete) ∷ at 5 (Cancel 1 cause.Client)
    ∷ at 6 (Reply 1 outcome.Done) ∷ at 6 (End 2 action.Closed) ∷ at 6 (Cancel 2 cause.Parent) ∷ []

-- the member of the nested action fails to complete
abbrev pub failing : History
failing =
    nest ++ at 3 (Close 2 cause.Client) ∷ at 4 (Ask 1 1 ask.Complete) ∷ at 5 (Reply 1 outcome.Failed)
    ∷ at 5 (End 2 action.FailedToClose) ∷ at 6 (Close 1 cause.Client)
    ∷ at 6 (End 1 action.FailedToClose) ∷ at 7 (Ask 2 1 ask.Forget) ∷ at 8 (Reply 2 outcome.Done)
    ∷ at 9 (Ask 3 1 ask.After) ∷ []

-- the nested action is cancelled, and the outer one closes
abbrev pub cancelled_below : History
cancelled_below =
    nest ++ at 3 (Cancel 2 cause.Client) ∷ at 4 (Ask 1 1 ask.Compensate) ∷ at 5 (Reply 1 outcome.Done)
    ∷ at 5 (End 2 action.Cancelled) ∷ at 6 (Close 1 cause.Client) ∷ at 6 (End 1 action.Closed) ∷ []

-- a limit passes, and another is as long as can be
abbrev pub limited : History
limited =
    at 1000 Enrol ∷ at 1000 (Start 1 None 100) ∷ at 1100 (Cancel 1 cause.Limit) ∷ at 1100 (End 1 action.Cancelled)
    ∷ at 1100 (Start 2 None 18446744073709550515) ∷ []

-- a member that is never asked to complete
abbrev pub skipped : History
skipped = at 0 Enrol ∷ at 0 (Start 1 None 0) ∷ at 1 (Join 1 1 (uris u None None None None))
    ∷ at 2 (Close 1 cause.Client) ∷ at 2 (Skip 1) ∷ at 2 (End 1 action.Closed) ∷ []

-- asks that a restart made void are made anew
abbrev pub restarted : History
restarted =
    at 0 Enrol ∷ at 0 (Start 1 None 0) ∷ at 1 (Join 1 1 (uris u c None None None)) ∷ at 2 (Close 1 cause.Client)
    ∷ at 3 (Ask 1 1 ask.Complete) ∷ at 4 Restart ∷ at 6 (Ask 2 1 ask.Complete) ∷ []

-- a limit is renewed, and passes
abbrev pub renewed : History
renewed = at 0 Enrol ∷ at 0 (Start 1 None 100) ∷ at 90 (Renew 1 100) ∷ at 190 (Cancel 1 cause.Limit)
    ∷ at 190 (End 1 action.Cancelled) ∷ []

-- it is cancelled before it has passed
abbrev pub renewed_too_soon : History
renewed_too_soon = at 0 Enrol ∷ at 0 (Start 1 None 100) ∷ at 90 (Renew 1 100) ∷ at 100 (Cancel 1 cause.Limit) ∷ []

-- a nested action that has closed is cancelled by its client, and the outer one closes
abbrev pub taken_back : History
taken_back =
    nest ++ at 3 (Close 2 cause.Client) ∷ at 4 (Ask 1 1 ask.Complete) ∷ at 5 (Reply 1 outcome.Done)
    ∷ at 5 (End 2 action.Closed) ∷ at 6 (Cancel 2 cause.Client)
    ∷ at 7 (Ask 2 1 ask.Compensate) ∷ at 8 (Reply 2 outcome.Done) ∷ at 8 (End 2 action.Cancelled)
    ∷ at 9 (Close 1 cause.Client) ∷ at 9 (End 1 action.Closed) ∷ []

abbrev pub fault : ℕ → Rule → Option Fault
fault line r = Some (record { line = line; rule = r })

-- the first faults in both versions
abbrev pub faults : List History → List (Option Fault × Option Fault)
faults Js = map (λ J. (first_fault One is_http J, first_fault Two is_http J)) Js

abbrev pub is_sound_in_both : History → Bool × Bool
is_sound_in_both J = (is_legal One is_http J, is_legal Two is_http J)

-- what is legal in version 1 is legal in version 2
pub legal_in_both : map is_sound_in_both (closed_empty ∷ reported ∷ late_reply ∷ left_alone ∷ undone
    ∷ cancelled_meanwhile ∷ failing ∷ cancelled_below ∷ limited ∷ skipped ∷ restarted ∷ [])
    ≡ (true, true) ∷ (true, true) ∷ (true, true) ∷ (true, true) ∷ (true, true) ∷ (true, true) ∷ (true, true)
    ∷ (true, true) ∷ (true, true) ∷ (true, true) ∷ (true, true) ∷ []
unfolding steps clerks actions members asks last_moment parent top action_status limit_in_force children members_of
    action_of addresses_of has_left stays was_asked ask_of replies decided member_status last_reply was_answered
    is_outstanding outstanding_ask staying is_settled right_end top_has_ended facts_of broken is_legal
legal_in_both = refl

pub no_faults : faults (closed_empty ∷ reported ∷ late_reply ∷ left_alone ∷ undone ∷ cancelled_meanwhile ∷ failing
    ∷ cancelled_below ∷ limited ∷ skipped ∷ restarted ∷ [])
    ≡ (None, None) ∷ (None, None) ∷ (None, None) ∷ (None, None) ∷ (None, None) ∷ (None, None) ∷ (None, None)
    ∷ (None, None) ∷ (None, None) ∷ (None, None) ∷ (None, None) ∷ []
unfolding steps clerks actions members asks last_moment parent top action_status limit_in_force children members_of
    action_of addresses_of has_left stays was_asked ask_of replies decided member_status last_reply was_answered
    is_outstanding outstanding_ask staying is_settled right_end top_has_ended facts_of broken first_fault
no_faults = refl

-- histories that break a rule, each by its last entry
abbrev pub not_enrolled : History
not_enrolled = at 0 (Start 1 None 0) ∷ []

abbrev pub backwards : History
backwards = at 5 Enrol ∷ at 4 (Start 1 None 0) ∷ []

abbrev pub second_first : History
second_first = at 0 Enrol ∷ at 0 (Start 2 None 0) ∷ []

abbrev pub nested_is_closing : History
nested_is_closing = at 0 Enrol ∷ at 0 (Start 1 None 0) ∷ at 0 (Start 2 (Some 1) 0) ∷ at 1 (Close 2 cause.Client)
    ∷ at 2 (Close 1 cause.Client) ∷ at 2 (End 1 action.Closed) ∷ []

abbrev pub wrong_end : History
wrong_end = at 0 Enrol ∷ at 0 (Start 1 None 0) ∷ at 5 (Close 1 cause.Client) ∷ at 5 (End 1 action.FailedToClose) ∷ []

abbrev pub no_parent : History
no_parent = at 0 Enrol ∷ at 0 (Start 1 None 0) ∷ at 0 (Close 1 cause.Parent) ∷ []

abbrev pub limit_too_far : History
limit_too_far = at 1 Enrol ∷ at 1 (Start 1 None 18446744073709551615) ∷ []

abbrev pub limit_far : History
limit_far = at 0 Enrol ∷ at 0 (Start 1 None 18446744073709551615) ∷ []

-- the first line at fault, and the first rule that it breaks
pub first_faults : faults (not_enrolled ∷ backwards ∷ second_first ∷ nested_is_closing ∷ wrong_end ∷ no_parent
    ∷ limit_too_far ∷ limit_far ∷ [])
    ≡ (fault 2 rule.Clerk, fault 2 rule.Clerk) ∷ (fault 3 rule.Moment, fault 3 rule.Moment)
    ∷ (fault 3 rule.Number, fault 3 rule.Number)
    ∷ (fault 7 rule.Unsettled, fault 7 rule.Unsettled) ∷ (fault 5 rule.Ending, fault 5 rule.Ending)
    ∷ (fault 4 rule.Cause, fault 4 rule.Cause)
    ∷ (fault 3 rule.Limit, fault 3 rule.Limit) ∷ (None, None) ∷ []
unfolding steps clerks actions members asks last_moment parent top action_status limit_in_force children members_of
    action_of addresses_of has_left stays was_asked ask_of replies decided member_status last_reply was_answered
    is_outstanding outstanding_ask staying is_settled right_end top_has_ended facts_of broken first_fault
first_faults = refl

-- what version 2 alone allows: a limit that is renewed, and a closed nested action that its client cancels
pub of_version_two : faults (renewed ∷ renewed_too_soon ∷ taken_back ∷ [])
    ≡ (fault 4 rule.Grammar, None) ∷ (fault 4 rule.Grammar, fault 5 rule.Cause) ∷ (fault 10 rule.Cause, None) ∷ []
unfolding steps clerks actions members asks last_moment parent top action_status limit_in_force children members_of
    action_of addresses_of has_left stays was_asked ask_of replies decided member_status last_reply was_answered
    is_outstanding outstanding_ask staying is_settled right_end top_has_ended facts_of broken first_fault
of_version_two = refl

-- the statuses in the end: of the nested action that fails and of its parent; of the outer action that closes and of
-- the nested one that its client cancelled
pub statuses : map (action_status failing) (1 ∷ 2 ∷ []) ++ map (action_status taken_back) (1 ∷ 2 ∷ [])
    ≡ Some action.FailedToClose ∷ Some action.FailedToClose ∷ Some action.Closed ∷ Some action.Cancelled ∷ []
unfolding action_status
statuses = refl

pub member_states : member_status failing 1 ∷ member_status late_reply 1 ∷ member_status taken_back 1
    ∷ member_status left_alone 1 ∷ []
    ≡ member.FailedToComplete ∷ member.Completed ∷ member.Compensated ∷ member.Left ∷ []
unfolding steps has_left was_asked ask_of decided member_status
member_states = refl

-- what a summary counts: entries, actions, those that haven't ended, that closed, that were cancelled, and the failed
-- ones with their least failed member
pub record Tally : Type 0 where
  pub unended : ℕ
  pub closed : ℕ
  pub cancelled : ℕ
  pub failed : List (ℕ × Option ActionStatus × Option ℕ)

abbrev pub tally : History → Tally
tally J = record {
  unended = count_actions (λ x. not (has_ended x)) J;
  closed = count_actions is_closed J;
  cancelled = count_actions (λ x. has_finished_cancelling x && not (has_failed x)) J;
  failed = map (λ t. (t, action_status J t, least_failed J t)) (failed_actions J);
}

pub tallies : map tally (undone ∷ failing ∷ cancelled_below ∷ [])
    ≡ record { unended = 0; closed = 0; cancelled = 2; failed = [] }
    ∷ record {
      unended = 0;
      closed = 0;
      cancelled = 0;
      failed = (1, Some action.FailedToClose, Some 1)
          ∷ (2, Some action.FailedToClose, Some 1) ∷ [];
    }
    ∷ record { unended = 0; closed = 1; cancelled = 1; failed = [] } ∷ []
unfolding steps actions members parent is_under action_status action_of addresses_of has_left stays was_asked ask_of
    decided member_status count_actions least_failed failed_actions
tallies = refl

-- what a coordinator does of itself next
pub settling : map next_settling (two_members ∷ nest ∷ cancelled_meanwhile
    ∷ (at 0 Enrol ∷ at 0 (Start 1 None 0) ∷ at 1 (Join 1 1 (uris u None None None None)) ∷ at 2 (Close 1 cause.Client)
    ∷ []) ∷ nested_is_closing ∷ [])
    ≡ None ∷ None ∷ None ∷ Some (Skip 1) ∷ Some (End 2 action.Closed) ∷ []
unfolding steps clerks actions members asks last_moment parent top action_status limit_in_force children members_of
    action_of addresses_of has_left stays was_asked ask_of replies decided member_status last_reply was_answered
    is_outstanding outstanding_ask staying is_settled right_end top_has_ended facts_of next_settling
settling = refl

-- a parent that is closing closes what is nested in it, and one that is cancelled cancels it
pub cascades : map next_settling ((nest ++ at 3 (Close 1 cause.Client) ∷ [])
    ∷ (nest ++ at 3 (Cancel 1 cause.Client) ∷ []) ∷ (at 0 Enrol ∷ at 0 (Start 1 None 0) ∷ at 0 (Start 2 (Some 1) 0)
    ∷ at 3 (Close 1 cause.Client) ∷ at 3 (Close 2 cause.Parent) ∷ []) ∷ [])
    ≡ Some (Close 2 cause.Parent) ∷ Some (Cancel 2 cause.Parent) ∷ Some (End 2 action.Closed) ∷ []
unfolding steps clerks actions members asks last_moment parent top action_status limit_in_force children members_of
    action_of addresses_of has_left stays was_asked ask_of replies decided member_status last_reply was_answered
    is_outstanding outstanding_ask staying is_settled right_end top_has_ended facts_of next_settling
cascades = refl

-- what members want: one that accepted is asked for its status, one that failed in a nested action that ended is asked
-- to forget, and an after notice is repeated until it is answered with Done
pub wishes : wants two_members 1 ∷ wants two_members 2 ∷ wants restarted 1 ∷ wants failing 1
    ∷ wants (nest ++ at 3 (Close 2 cause.Client) ∷ []) 1 ∷ wants cancelled_below 1 ∷ wants undone 1 ∷ []
    ≡ Some ask.Status ∷ None ∷ None ∷ None ∷ Some ask.Complete ∷ Some ask.After ∷ None ∷ []
unfolding steps clerks actions members asks last_moment parent top action_status limit_in_force children members_of
    action_of addresses_of has_left stays was_asked ask_of replies decided member_status last_reply was_answered
    is_outstanding outstanding_ask staying is_settled right_end top_has_ended facts_of wants
wishes = refl

-- one reply counts for the next pause
pub pauses : repeats two_members 1 ask.Complete ∷ repeats undone 1 ask.After ∷ repeats undone 1 ask.Compensate ∷ []
    ≡ (24 ∷ []) ∷ (10 ∷ []) ∷ [] ∷ []
unfolding steps was_asked ask_of replies repeats
pauses = refl
