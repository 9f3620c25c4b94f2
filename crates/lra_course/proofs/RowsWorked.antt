-- Small histories, and the forward state that their entries lead to.
use Rattle.std.proofs.Common.{◌≡◌, ℕ, Bool, true, List, [], ◌∷◌, ◌++◌, Option, Some, None, refl, map}
use Rattle.std.specs.List.{fold}
use Rattle.lra_model.specs.declared.status.ActionStatus.TheVariants as action
use Rattle.lra_model.specs.declared.asks.AskKind.{AskKind}
use Rattle.lra_model.specs.declared.asks.AskKind.TheVariants as ask
use Rattle.lra_model.specs.declared.asks.Outcome.TheVariants as outcome
use Rattle.lra_model.specs.declared.asks.Cause.TheVariants as cause
use Rattle.lra_model.specs.declared.entry.Deed.TheVariants.{Enrol, Start, Join, Close, Cancel, Ask, Reply, Report, End}
use Rattle.lra_model.specs.declared.entry.Deed.TheVariants.{Restart}
use Rattle.lra_model.specs.History.{History, steps, clerks, actions, members, asks, last_moment}
use Rattle.lra_model.specs.Actions.{parent, top, action_status, limit_in_force, children, members_of}
use Rattle.lra_model.specs.Members.{action_of, addresses_of, has_left, stays, was_asked, ask_of, replies, decided}
use Rattle.lra_model.specs.Members.{member_status, last_reply, was_answered, is_outstanding, outstanding_ask}
use Rattle.lra_model.specs.Ends.{staying, is_settled, right_end, top_has_ended}
use Rattle.lra_model.specs.Rules.{broken, is_legal}
use Rattle.lra_model.specs.declared.version.Version.TheVariants.{Two}
use Rattle.lra_model.specs.Facts.{ActionFacts, MemberFacts, Facts, facts_of}
use Rattle.lra_laws.proofs.Worked.{at, u, c, s, f, a, uris, closed_empty, reported, late_reply, left_alone, undone}
use Rattle.lra_laws.proofs.Worked.{cancelled_meanwhile, failing, cancelled_below, limited, skipped, restarted, renewed}
use Rattle.lra_laws.proofs.Worked.{taken_back}
use Rattle.lra_laws.specs.Rows.{State, state_of, standing, void_asks, count_staying, count_children}
use Rattle.lra_laws.specs.inner.RowFacts.{facts_by}
use Rattle.lra_course_rows.specs.Start.{after_entry}

-- a report overtakes an ask, a restart leaves another void, and both are asked again
abbrev wild : History
wild =
    at 0 Enrol ∷ at 0 (Start 1 None 0) ∷ at 1 (Join 1 1 (uris u c s f a)) ∷ at 1 (Start 2 (Some 1) 0)
    ∷ at 1 (Join 2 2 (uris u c s f a)) ∷ at 2 (Join 3 2 (uris None None None None a))
    ∷ at 2 (Close 2 cause.Client) ∷ at 4 (Ask 1 2 ask.Complete) ∷ at 5 (Reply 1 outcome.Accepted)
    ∷ at 6 (Ask 2 2 ask.Status) ∷ at 6 (Cancel 1 cause.Client) ∷ at 7 (Ask 3 1 ask.Compensate)
    ∷ at 8 (Reply 3 outcome.Accepted) ∷ at 9 (Ask 4 1 ask.Status) ∷ at 10 (Report 1 outcome.Failed) ∷ at 10 Restart
    ∷ at 11 (Ask 5 2 ask.Complete) ∷ at 12 (Reply 5 outcome.Done) ∷ at 12 (End 2 action.Closed)
    ∷ at 13 (Cancel 2 cause.Parent) ∷ at 14 (Ask 6 2 ask.Compensate) ∷ at 15 (Reply 6 outcome.Accepted)
    ∷ at 16 (Ask 7 2 ask.Status) ∷ at 17 (Report 2 outcome.Done) ∷ at 18 (Reply 7 outcome.Failed)
    ∷ at 18 (End 2 action.Cancelled) ∷ at 18 (End 1 action.FailedToCancel) ∷ at 19 (Ask 8 1 ask.Forget)
    ∷ at 19 (Ask 9 3 ask.After) ∷ at 20 (Reply 9 outcome.Done) ∷ at 20 (Reply 8 outcome.Done) ∷ []

-- the state of no history
abbrev empty : State
empty = record { moment = 0; clerks = 0; asks = 0; void = 0; actions = []; members = [] }

-- the histories that a history begins with
abbrev fronts : History → History → List History
fronts past [] = past ∷ []
fronts past (e ∷ es) = past ∷ fronts (past ++ e ∷ []) es

-- the state that the entries lead to, one by one
abbrev forward : History → State
forward J = fold (λ s e. after_entry e s) empty J

-- that, and what the state is by the words of the history, after each entry
abbrev forwards : History → List State
forwards J = map forward (fronts [] J)

abbrev states : History → List State
states J = map state_of (fronts [] J)

abbrev histories : List History
histories = closed_empty ∷ reported ∷ late_reply ∷ left_alone ∷ undone ∷ cancelled_meanwhile ∷ failing ∷ cancelled_below
    ∷ limited ∷ skipped ∷ restarted ∷ renewed ∷ taken_back ∷ wild ∷ []

pub forward_is_state : map forwards histories ≡ map states histories
unfolding steps clerks actions members asks last_moment parent top action_status limit_in_force children members_of
    action_of addresses_of has_left stays was_asked ask_of replies decided member_status last_reply was_answered
    is_outstanding outstanding_ask staying is_settled right_end top_has_ended facts_of standing void_asks count_staying
    count_children
forward_is_state = refl

-- what the rules read, at small numbers
pub record Probe : Type 0 where
  pub moment : ℕ
  pub clerks : ℕ
  pub actions : ℕ
  pub members : ℕ
  pub asks : ℕ
  pub is_clerk : List Bool
  pub action : List (Option ActionFacts)
  pub member : List (Option MemberFacts)
  pub outstanding : List (Option AskKind)

abbrev numbers : List ℕ
numbers = 0 ∷ 1 ∷ 2 ∷ 3 ∷ 4 ∷ 5 ∷ 6 ∷ 7 ∷ 8 ∷ 9 ∷ 10 ∷ []

abbrev probe : Facts → Probe
probe g = record {
  moment = g.moment;
  clerks = g.clerks;
  actions = g.actions;
  members = g.members;
  asks = g.asks;
  is_clerk = map g.is_clerk numbers;
  action = map g.action numbers;
  member = map g.member numbers;
  outstanding =
      map g.outstanding numbers;
}

pub facts_read : map (λ J. map (λ K. probe (facts_by (state_of K))) (fronts [] J)) histories
    ≡ map (λ J. map (λ K. probe (facts_of K)) (fronts [] J)) histories
unfolding steps clerks actions members asks last_moment parent top action_status limit_in_force children members_of
    action_of addresses_of has_left stays was_asked ask_of replies decided member_status last_reply was_answered
    is_outstanding outstanding_ask staying is_settled right_end top_has_ended facts_of standing void_asks count_staying
    count_children
facts_read = refl

-- they are legal
pub all_legal : map (is_legal Two (λ text. true)) histories ≡ map (λ J. true) histories
unfolding steps clerks actions members asks last_moment parent top action_status limit_in_force children members_of
    action_of addresses_of has_left stays was_asked ask_of replies decided member_status last_reply was_answered
    is_outstanding outstanding_ask staying is_settled right_end top_has_ended facts_of broken is_legal
all_legal = refl
