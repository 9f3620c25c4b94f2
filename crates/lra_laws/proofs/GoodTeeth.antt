-- What good ends rule out, and what they say of legal histories: small histories, computed.
use Rattle.std.proofs.Common.{◌≡◌, ℕ, Bool, true, false, [], ◌∷◌, ◌++◌, Option, Some, None, refl, sym, ap, ◌∙◌, map}
use Rattle.std.proofs.Common.{eqb-true}
use Rattle.std.specs.Prelude.{◌==◌, ◌||◌}
use Rattle.std.proofs.Math.Bool.{or-false}
use Rattle.lra_model.specs.declared.status.ActionStatus.{ActionStatus}
use Rattle.lra_model.specs.declared.status.ActionStatus.TheVariants as action
use Rattle.lra_model.specs.declared.status.MemberStatus.{MemberStatus}
use Rattle.lra_model.specs.declared.status.MemberStatus.TheVariants as member
use Rattle.lra_model.specs.declared.asks.AskKind.TheVariants as ask
use Rattle.lra_model.specs.declared.asks.Outcome.TheVariants as outcome
use Rattle.lra_model.specs.declared.asks.Cause.TheVariants as cause
use Rattle.lra_model.specs.declared.version.Version.TheVariants.{One, Two}
use Rattle.lra_model.specs.declared.entry.Deed.TheVariants.{Enrol, Start, Join, Close, Cancel, Ask, Reply, End}
use Rattle.lra_model.specs.Words.{member_has_failed}
use Rattle.lra_model.specs.History.{History, steps, clerks, actions, members, asks, is_among, last_moment}
use Rattle.lra_model.specs.Actions.{parent, top, is_under, action_status, limit_in_force, children, members_of}
use Rattle.lra_model.specs.Actions.{was_cancelled, was_cancelled_below}
use Rattle.lra_model.specs.Members.{action_of, addresses_of, has_left, stays, was_asked, ask_of, replies, decided}
use Rattle.lra_model.specs.Members.{member_status, last_reply, was_answered, is_outstanding, outstanding_ask}
use Rattle.lra_model.specs.Ends.{staying, is_settled, right_end, top_has_ended}
use Rattle.lra_model.specs.Facts.{facts_of}
use Rattle.lra_model.specs.Rules.{broken, is_legal}
use Rattle.lra_model.specs.GoodEnds.{StaysUnder, IsCompletedForGood, GoodEnds}
use Rattle.lra_laws.proofs.Worked.{is_http, at, u, c, uris, nest, undone, failing, cancelled_below, taken_back}
use Rattle.lra_laws.proofs.GoodLaw.{good_ends}

-- ---- histories without good ends

-- an action with one member
abbrev one_member : History
one_member = at 0 Enrol ∷ at 0 (Start 1 None 0) ∷ at 1 (Join 1 1 (uris u c None None None)) ∷ []

-- it closes, and its member was never asked
abbrev active_in_closed : History
active_in_closed = one_member ++ at 2 (Close 1 cause.Client) ∷ at 3 (End 1 action.Closed) ∷ []

-- it closes, and its member was asked to compensate after it had completed
abbrev asked_in_closed : History
asked_in_closed =
    one_member ++ at 2 (Close 1 cause.Client) ∷ at 3 (Ask 1 1 ask.Complete) ∷ at 4 (Reply 1 outcome.Done)
    ∷ at 5 (Ask 2 1 ask.Compensate) ∷ at 6 (Reply 2 outcome.Done)
    ∷ at 6 (End 1 action.Closed) ∷ []

-- it closes, and its member failed
abbrev failed_in_closed : History
failed_in_closed = one_member ++ at 2 (Close 1 cause.Client) ∷ at 3 (Ask 1 1 ask.Complete)
    ∷ at 4 (Reply 1 outcome.Failed) ∷ at 4 (End 1 action.Closed) ∷ []

-- it is cancelled, and its member completed
abbrev completed_in_cancelled : History
completed_in_cancelled = one_member ++ at 2 (Cancel 1 cause.Client) ∷ at 3 (Ask 1 1 ask.Complete)
    ∷ at 4 (Reply 1 outcome.Done) ∷ at 4 (End 1 action.Cancelled) ∷ []

-- it fails to close, and its member completed
abbrev completed_in_failed : History
completed_in_failed = one_member ++ at 2 (Close 1 cause.Client) ∷ at 3 (Ask 1 1 ask.Complete)
    ∷ at 4 (Reply 1 outcome.Done) ∷ at 4 (End 1 action.FailedToClose) ∷ []

-- the outer action closes, and the nested one with the member was never closed
abbrev active_below_closed : History
active_below_closed = nest ++ at 3 (Close 1 cause.Client) ∷ at 3 (End 1 action.Closed) ∷ []

-- the nested action is cancelled without compensating its member, and the outer one closes
abbrev active_in_cancelled_below : History
active_in_cancelled_below = nest ++ at 3 (Cancel 2 cause.Client) ∷ at 4 (End 2 action.Cancelled)
    ∷ at 5 (Close 1 cause.Client) ∷ at 5 (End 1 action.Closed) ∷ []

abbrev legal_in_both : History → Bool × Bool
legal_in_both J = (is_legal One is_http J, is_legal Two is_http J)

-- none of them is legal, in either version
pub none_is_legal : map legal_in_both (active_in_closed ∷ asked_in_closed ∷ failed_in_closed ∷ completed_in_cancelled
    ∷ completed_in_failed ∷ active_below_closed ∷ active_in_cancelled_below ∷ [])
    ≡ (false, false) ∷ (false, false) ∷ (false, false) ∷ (false, false) ∷ (false, false) ∷ (false, false)
    ∷ (false, false) ∷ []
unfolding steps clerks actions members asks last_moment parent top action_status limit_in_force children members_of
    action_of addresses_of has_left stays was_asked ask_of replies decided member_status last_reply was_answered
    is_outstanding outstanding_ask staying is_settled right_end top_has_ended facts_of broken is_legal
none_is_legal = refl

-- a closed action has no member that is active
pub no_active_in_closed : GoodEnds active_in_closed → ⊥
unfolding steps members parent is_under action_status was_cancelled action_of addresses_of has_left stays was_asked
    ask_of decided member_status was_cancelled_below
no_active_in_closed good = let wrong : member.Active ≡ member.Completed =
    ((good 1).closed refl 1 (refl, refl, refl) refl).completed in absurd cc

-- a closed action has no member that was asked to compensate, where nothing below it was cancelled
pub no_asked_in_closed : GoodEnds asked_in_closed → ⊥
unfolding steps members parent is_under action_status was_cancelled action_of addresses_of has_left stays was_asked
    ask_of decided member_status was_cancelled_below
no_asked_in_closed good = let wrong : true ≡ false = ((good 1).closed refl 1 (refl, refl, refl) refl).never_asked in
    absurd cc

-- a closed action has no failed member
pub no_failed_in_closed : GoodEnds failed_in_closed → ⊥
unfolding steps members parent is_under action_status was_cancelled action_of addresses_of has_left stays was_asked
    ask_of decided member_status was_cancelled_below
no_failed_in_closed good = let wrong : true ≡ false = (good 1).unfailed refl refl 1 (refl, refl, refl) in absurd cc

-- a cancelled action has no completed member
pub no_completed_in_cancelled : GoodEnds completed_in_cancelled → ⊥
unfolding steps members parent is_under action_status was_cancelled action_of addresses_of has_left stays was_asked
    ask_of decided member_status was_cancelled_below
no_completed_in_cancelled good = let wrong : member.Completed ≡ member.Compensated = (good 1).cancelled refl 1
    (refl, refl, refl) in absurd cc

-- an action that failed has a failed member
pub some_failed_in_failed : GoodEnds completed_in_failed → ⊥
unfolding steps members parent is_under action_status was_cancelled action_of addresses_of has_left stays was_asked
    ask_of decided member_status was_cancelled_below
some_failed_in_failed good = none ((good 1).failed refl)
  where
    only : (p : ℕ) → ((1 == p) || false) ≡ true → 1 ≡ p
    only p h = eqb-true 1 p (sym (or-false (1 == p)) ∙ h)

    none : (p : ℕ) × StaysUnder completed_in_failed 1 p × (member_has_failed (member_status completed_in_failed p)
        ≡ true) → ⊥
    none r = let wrong : false ≡ true = ap (λ (p : ℕ). member_has_failed (member_status completed_in_failed p))
        (only r.0 r.1.0) ∙ r.2 in absurd cc

-- below a closed action too, no member is active
pub no_active_below_closed : GoodEnds active_below_closed → ⊥
unfolding steps members parent is_under action_status was_cancelled action_of addresses_of has_left stays was_asked
    ask_of decided member_status was_cancelled_below
no_active_below_closed good = let wrong : member.Active ≡ member.Completed =
    ((good 1).closed refl 1 (refl, refl, refl) refl).completed in absurd cc

-- below a closed action, a member of a nested one that was cancelled is compensated
pub no_active_in_cancelled_below : GoodEnds active_in_cancelled_below → ⊥
unfolding steps members parent is_under action_status was_cancelled action_of addresses_of has_left stays was_asked
    ask_of decided member_status was_cancelled_below
no_active_in_cancelled_below good = let wrong : member.Active ≡ member.Compensated = (good 1).undone refl 1
    (refl, refl, refl) refl in absurd cc

-- ---- legal histories, and what good ends say of them

-- the nested action and the outer one close, and the member completed
abbrev kept : History
kept =
    nest ++ at 3 (Close 2 cause.Client) ∷ at 4 (Ask 1 1 ask.Complete) ∷ at 5 (Reply 1 outcome.Done)
    ∷ at 5 (End 2 action.Closed) ∷ at 6 (Close 1 cause.Client) ∷ at 6 (End 1 action.Closed) ∷ []

pub kept_is_legal : legal_in_both kept ≡ (true, true)
unfolding steps clerks actions members asks last_moment parent top action_status limit_in_force children members_of
    action_of addresses_of has_left stays was_asked ask_of replies decided member_status last_reply was_answered
    is_outstanding outstanding_ask staying is_settled right_end top_has_ended facts_of broken is_legal
kept_is_legal = refl

-- what the good end of action 1 reads: its status and that of action 2, nested in it; whether member 1 stays below it;
-- the member's status; whether it was asked to compensate; and whether an action between the two was cancelled
pub record Reads : Type 0 where
  pub outer : Option ActionStatus
  pub nested : Option ActionStatus
  pub is_there : Bool
  pub stays : Bool
  pub is_below : Bool
  pub member : MemberStatus
  pub asked : Bool
  pub cancelled_below : Bool

abbrev reads : History → Reads
reads J = record {
  outer = action_status J 1;
  nested = action_status J 2;
  is_there = is_among (members J) 1;
  stays = stays J 1;
  is_below = is_under J 1 (action_of J 1);
  member = member_status J 1;
  asked = was_asked J 1 ask.Compensate;
  cancelled_below = was_cancelled_below J 1 (action_of J 1);
}

-- an outer and a nested action that end so, with a member that stays in the nested one
abbrev read : ActionStatus → ActionStatus → MemberStatus → Bool → Bool → Reads
read outer nested x asked cancelled = record {
  outer = Some outer;
  nested = Some nested;
  is_there = true;
  stays = true;
  is_below = true;
  member = x;
  asked = asked;
  cancelled_below = cancelled;
}

-- each case of a good end comes up
pub all_cases : map reads (kept ∷ cancelled_below ∷ taken_back ∷ undone ∷ failing ∷ [])
    ≡ read action.Closed action.Closed member.Completed false false
    ∷ read action.Closed action.Cancelled member.Compensated true true
    ∷ read action.Closed action.Cancelled member.Compensated true true
    ∷ read action.Cancelled action.Cancelled member.Compensated true true
    ∷ read action.FailedToClose action.FailedToClose member.FailedToComplete false false ∷ []
unfolding steps members parent is_under action_status was_cancelled action_of addresses_of has_left stays was_asked
    ask_of decided member_status was_cancelled_below
all_cases = refl

-- the member of the nested action that stays below the outer one
abbrev Stays : History → Type 0
Stays J = StaysUnder J 1 1

pub all_stay : Stays kept × Stays cancelled_below × Stays taken_back × Stays undone × Stays failing
unfolding steps members parent is_under action_of addresses_of has_left stays
all_stay = ((refl, refl, refl), (refl, refl, refl), (refl, refl, refl), (refl, refl, refl), (refl, refl, refl))

-- the law, at a closed action whose nested one closed
pub kept_member : IsCompletedForGood kept 1
unfolding steps clerks actions members asks last_moment parent top is_under action_status limit_in_force children
    members_of was_cancelled action_of addresses_of has_left stays was_asked ask_of replies decided member_status
    last_reply was_answered is_outstanding outstanding_ask staying is_settled right_end top_has_ended facts_of broken
    is_legal was_cancelled_below
kept_member = (good_ends One is_http kept refl 1).closed refl 1 (refl, refl, refl) refl

-- at a closed action whose nested one its client cancelled after its close, in version 2
pub taken_back_member : member_status taken_back 1 ≡ member.Compensated
unfolding steps clerks actions members asks last_moment parent top is_under action_status limit_in_force children
    members_of was_cancelled action_of addresses_of has_left stays was_asked ask_of replies decided member_status
    last_reply was_answered is_outstanding outstanding_ask staying is_settled right_end top_has_ended facts_of broken
    is_legal was_cancelled_below
taken_back_member = (good_ends Two is_http taken_back refl 1).undone refl 1 (refl, refl, refl) refl

-- at a cancelled action whose nested one had closed
pub undone_member : member_status undone 1 ≡ member.Compensated
unfolding steps clerks actions members asks last_moment parent top is_under action_status limit_in_force children
    members_of was_cancelled action_of addresses_of has_left stays was_asked ask_of replies decided member_status
    last_reply was_answered is_outstanding outstanding_ask staying is_settled right_end top_has_ended facts_of broken
    is_legal was_cancelled_below
undone_member = (good_ends One is_http undone refl 1).cancelled refl 1 (refl, refl, refl)

-- at one that failed
pub failing_member : (p : ℕ) × StaysUnder failing 1 p × (member_has_failed (member_status failing p) ≡ true)
unfolding steps clerks actions members asks last_moment parent top is_under action_status limit_in_force children
    members_of was_cancelled action_of addresses_of has_left stays was_asked ask_of replies decided member_status
    last_reply was_answered is_outstanding outstanding_ask staying is_settled right_end top_has_ended facts_of broken
    is_legal was_cancelled_below
failing_member = (good_ends One is_http failing refl 1).failed refl
