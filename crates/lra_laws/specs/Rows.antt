-- The forward state of a history: what stands for it in rows, and how one more entry changes it.
use Rattle.std.specs.Prelude.{ℕ, zero, suc, ◌+◌, ◌-◌, ◌==◌, Bool, false, ◌&&◌, ◌||◌, not, cond, List, [], ◌∷◌, ◌++◌}
use Rattle.std.specs.Prelude.{length, map, Option, Some, None, unwrap_or, count_by, slice_get, slice_set}
use Rattle.std.specs.Option.{option_map_or, option_or, option_and_then}
use Rattle.std.specs.List.{filter_map}
use Rattle.lra_model.specs.declared.status.ActionStatus.{ActionStatus}
use Rattle.lra_model.specs.declared.status.ActionStatus.TheVariants as action
use Rattle.lra_model.specs.declared.status.MemberStatus.{MemberStatus}
use Rattle.lra_model.specs.declared.status.MemberStatus.TheVariants as member
use Rattle.lra_model.specs.declared.asks.AskKind.{AskKind}
use Rattle.lra_model.specs.declared.asks.AskKind.TheVariants as ask
use Rattle.lra_model.specs.declared.asks.Direction.{Direction}
use Rattle.lra_model.specs.declared.asks.Direction.TheVariants as direction
use Rattle.lra_model.specs.declared.asks.Outcome.{Outcome}
use Rattle.lra_model.specs.declared.asks.Outcome.TheVariants as outcome
use Rattle.lra_model.specs.declared.entry.Deed.{Deed}
use Rattle.lra_model.specs.declared.entry.Deed.TheVariants.{Enrol, Start, Join, Leave, Close, Cancel, Skip, Ask, Reply}
use Rattle.lra_model.specs.declared.entry.Deed.TheVariants.{Report, End, Restart, Renew}
use Rattle.lra_model.specs.Addresses.{Addresses, Presence, presence_of}
use Rattle.lra_model.specs.Words.{when, has_ended, has_failed, has_finished_cancelling, is_completing, is_compensating}
use Rattle.lra_model.specs.Words.{is_completed, is_compensated, is_done_completing, is_done_compensating, has_gone}
use Rattle.lra_model.specs.Words.{is_decisive, is_done, same_kind, same_direction}
use Rattle.lra_model.specs.History.{History, Step, steps, last, clerks, actions, members, asks, last_moment}
use Rattle.lra_model.specs.Actions.{Limit, parent, top, action_status, limit_in_force, children}
use Rattle.lra_model.specs.Members.{Asked, ask_of, action_of, addresses_of, decided, member_status, last_reply}
use Rattle.lra_model.specs.Members.{was_answered, ask_direction}
use Rattle.lra_model.specs.Ends.{staying, action_is}

-- an ask that its member hasn't answered; a restart may have made it void
pub record Standing : Type 0 where
  pub number : ℕ
  pub kind : AskKind
  pub direction : Direction

-- the state of a member that the rules read: completion and compensation are its last replies in these directions, and
-- completed_as and compensated_as the outcomes that decide them
pub record MemberRow : Type 0 where
  pub action : ℕ
  pub addresses : Presence
  pub status : MemberStatus
  pub completion : Option Outcome
  pub compensation : Option Outcome
  pub completed_as : Option Outcome
  pub compensated_as : Option Outcome
  pub asked : Option Standing
  pub has_forgotten : Bool
  pub was_told : Bool

-- the state of an action that the rules read, with counts: of the staying members that a Closing one and a Cancelling
-- one wait for, and that haven't completed and haven't compensated; and of the nested actions that haven't ended,
-- haven't ended cancelled, and have failed
pub record ActionRow : Type 0 where
  pub parent : Option ℕ
  pub top : ℕ
  pub status : ActionStatus
  pub limit : Limit
  pub completing : ℕ
  pub compensating : ℕ
  pub uncompleted : ℕ
  pub uncompensated : ℕ
  pub unended : ℕ
  pub uncancelled : ℕ
  pub failed : ℕ

-- the forward state: row n of the actions is that of the action n + 1, and so for the members; asks up to void are void
pub record State : Type 0 where
  pub moment : ℕ
  pub clerks : ℕ
  pub asks : ℕ
  pub void : ℕ
  pub actions : List ActionRow
  pub members : List MemberRow

-- ---- what the state is, by the words of the history

-- the ask that a step makes of a member; Some None where the step is its reply, and None where it is neither
abbrev pub standing_at : ℕ → Step → Option (Option Standing)
standing_at p s = of_deed s.entry.deed
  where
    of_deed : Deed → Option (Option Standing)
    of_deed (Ask n q kind) =
        cond (q == p) (Some (Some (record { number = n; kind = kind; direction = ask_direction s.past q kind }))) None
    of_deed (Reply n o) = option_and_then (λ (a : Asked). cond (a.member == p) (Some None) None) (ask_of s.past n)
    of_deed _ = None

-- the last ask of a member, unless it was answered
unfoldable pub standing : History → ℕ → Option Standing
standing J p = unwrap_or (last (filter_map (standing_at p) (steps J))) None

-- how many asks a step makes void, if it is a restart
abbrev pub void_at : Step → Option ℕ
void_at s = of_deed s.entry.deed
  where
    of_deed : Deed → Option ℕ
    of_deed Restart = Some (length (asks s.past))
    of_deed _ = None

-- how many asks stand before the last restart
unfoldable pub void_asks : History → ℕ
void_asks J = unwrap_or (last (filter_map void_at (steps J))) 0

-- how many staying members of an action have a status that passes the test
unfoldable pub count_staying : (MemberStatus → Bool) → History → ℕ → ℕ
count_staying test J a = count_by (λ p. test (member_status J p)) (staying J a)

-- how many actions nested directly in an action have a status that passes the test
unfoldable pub count_children : (ActionStatus → Bool) → History → ℕ → ℕ
count_children test J a = count_by (action_is test J) (children J a)

-- a member that a Closing action waits for
abbrev pub is_left_to_complete : MemberStatus → Bool
is_left_to_complete s = not (is_done_completing s)

-- a member that a Cancelling action waits for
abbrev pub is_left_to_compensate : MemberStatus → Bool
is_left_to_compensate s = not (is_done_compensating s)

-- a member that has not completed
abbrev pub is_uncompleted : MemberStatus → Bool
is_uncompleted s = not (is_completed s)

-- a member that has not compensated
abbrev pub is_uncompensated : MemberStatus → Bool
is_uncompensated s = not (is_compensated s)

-- an action that has not ended
abbrev pub is_unended : ActionStatus → Bool
is_unended s = not (has_ended s)

-- an action that has not ended cancelled
abbrev pub is_uncancelled : ActionStatus → Bool
is_uncancelled s = not (has_finished_cancelling s)

-- the row of an action, by the words of the history
abbrev pub action_row : History → ℕ → ActionRow
action_row J a = record {
  parent = parent J a;
  top = top J a;
  status = unwrap_or (action_status J a) action.Active;
  limit = limit_in_force J a;
  completing = count_staying is_left_to_complete J a;
  compensating = count_staying is_left_to_compensate J a;
  uncompleted = count_staying is_uncompleted J a;
  uncompensated = count_staying is_uncompensated J a;
  unended = count_children is_unended J a;
  uncancelled = count_children is_uncancelled J a;
  failed = count_children has_failed J a;
}

-- the row of a member, by the words of the history
abbrev pub member_row : History → ℕ → MemberRow
member_row J p = record {
  action = action_of J p;
  addresses = presence_of (addresses_of J p);
  status = member_status J p;
  completion = last_reply J p direction.Completion;
  compensation = last_reply J p direction.Compensation;
  completed_as = decided J p direction.Completion;
  compensated_as = decided J p direction.Compensation;
  asked = standing J p;
  has_forgotten = was_answered J p ask.Forget;
  was_told = was_answered J p ask.After;
}

-- the state that stands for a history
abbrev pub state_of : History → State
state_of J = record {
  moment = last_moment J;
  clerks = length (clerks J);
  asks = length (asks J);
  void = void_asks J;
  actions = map (action_row J) (actions J);
  members = map (member_row J) (members J);
}

-- ---- rows by number

-- row n - 1 of a list of rows: numbers are counted from 1
abbrev pub row_at : {R : Type 0} → List R → ℕ → Option R
row_at rows zero = None
row_at rows (suc n) = slice_get rows n

-- whether an ask is the unanswered one of a member
abbrev pub stands_as : ℕ → MemberRow → Bool
stands_as n r = option_map_or (λ (x : Standing). x.number == n) r.asked false

-- ---- one more entry

-- 1 where a test holds, else 0
abbrev pub one : Bool → ℕ
one b = cond b 1 0

-- a count, where one thing counted before and counts now
abbrev pub recount : Bool → Bool → ℕ → ℕ
recount before now n = (n + one now) - one before

-- whether a member stays in its action, with a status that passes the test
abbrev pub counts_as : (MemberStatus → Bool) → MemberRow → Bool
counts_as test r = r.addresses.compensate && not (has_gone r.status) && test r.status

-- an action, one of whose members changes
abbrev pub with_member : MemberRow → MemberRow → ActionRow → ActionRow
with_member before now r = record r {
  completing = recount (counts_as is_left_to_complete before) (counts_as is_left_to_complete now) r.completing;
  compensating = recount (counts_as is_left_to_compensate before) (counts_as is_left_to_compensate now) r.compensating;
  uncompleted = recount (counts_as is_uncompleted before) (counts_as is_uncompleted now) r.uncompleted;
  uncompensated = recount (counts_as is_uncompensated before) (counts_as is_uncompensated now) r.uncompensated;
}

-- an action that a member joins
abbrev pub with_new_member : MemberRow → ActionRow → ActionRow
with_new_member now r = record r {
  completing = r.completing + one (counts_as is_left_to_complete now);
  compensating = r.compensating + one (counts_as is_left_to_compensate now);
  uncompleted = r.uncompleted + one (counts_as is_uncompleted now);
  uncompensated = r.uncompensated + one (counts_as is_uncompensated now);
}

-- an action, one of whose nested actions changes its status
abbrev pub with_child : ActionStatus → ActionStatus → ActionRow → ActionRow
with_child before now r = record r {
  unended = recount (is_unended before) (is_unended now) r.unended;
  uncancelled = recount (is_uncancelled before) (is_uncancelled now) r.uncancelled;
  failed = recount (has_failed before) (has_failed now) r.failed;
}

-- an action in which another is started
abbrev pub with_new_child : ActionRow → ActionRow
with_new_child r = record r { unended = r.unended + 1; uncancelled = r.uncancelled + 1 }

-- the rows with the row of n changed, if it is there
abbrev pub change_row : {R : Type 0} → (R → R) → ℕ → List R → List R
change_row f zero rows = rows
change_row f (suc n) rows = option_map_or (λ r. slice_set rows n (f r)) (slice_get rows n) rows

-- a member's row is changed, and its action counts anew
abbrev pub change_member : (MemberRow → MemberRow) → ℕ → State → State
change_member f p s =
    option_map_or (λ (r : MemberRow). record s {
      members = change_row f p s.members;
      actions =
          change_row (with_member r (f r)) r.action s.actions;
    }) (row_at s.members p) s

-- an action's status is changed, and its parent counts anew
abbrev pub change_status : ActionStatus → ℕ → State → State
change_status now a s =
    option_map_or (λ (r : ActionRow). record s {
      actions = option_map_or
          (λ b. change_row (with_child r.status now) b (changed a now s)) r.parent (changed a now s);
    })
    (row_at s.actions a) s
  where
    changed : ℕ → ActionStatus → State → List ActionRow
    changed a now s = change_row (λ (x : ActionRow). record x { status = now }) a s.actions

-- what a decisive outcome makes of the status of a member that goes this direction
abbrev pub decided_as : Direction → Outcome → MemberStatus → MemberStatus
decided_as direction.Completion outcome.Done s = cond (is_completing s) member.Completed s
decided_as direction.Completion outcome.Failed s = cond (is_completing s) member.FailedToComplete s
decided_as direction.Compensation outcome.Done s = cond (is_compensating s) member.Compensated s
decided_as direction.Compensation outcome.Failed s = cond (is_compensating s) member.FailedToCompensate s
decided_as _ _ s = s

-- which direction a status ask or a report of a member has
abbrev pub way_of : MemberStatus → Direction
way_of s = cond (is_compensating s) direction.Compensation direction.Completion

-- which direction an ask has, by the status of its member
abbrev pub way_asked : AskKind → MemberStatus → Direction
way_asked ask.Complete s = direction.Completion
way_asked ask.Compensate s = direction.Compensation
way_asked ask.Status s = way_of s
way_asked ask.Forget s = direction.Neither
way_asked ask.After s = direction.Neither

-- what an ask makes of the status of its member
abbrev pub asked_as : AskKind → MemberStatus → MemberStatus
asked_as ask.Complete s = member.Completing
asked_as ask.Compensate s = member.Compensating
asked_as _ s = s

-- a member that is asked
abbrev pub with_ask : ℕ → AskKind → MemberRow → MemberRow
with_ask n kind r = record r {
  status = asked_as kind r.status;
  asked =
      Some (record { number = n; kind = kind; direction = way_asked kind r.status });
}

-- one of three by the direction of a reply
abbrev pub by_way : Direction → Option Outcome → Option Outcome → Option Outcome → Option Outcome
by_way direction.Completion completion compensation neither = completion
by_way direction.Compensation completion compensation neither = compensation
by_way direction.Neither completion compensation neither = neither

-- what an outcome in one direction decides in another: itself, if it is decisive and the directions are the same
abbrev pub word_of : Direction → Direction → Outcome → Option Outcome
word_of way to o = when (same_direction way to && is_decisive o) o

-- what has decided a direction, after one more outcome
abbrev pub decided_by : Direction → Direction → Outcome → Option Outcome → Option Outcome
decided_by to way o before = option_or before (word_of way to o)

-- a member that answers this ask
abbrev pub with_reply_to : Standing → Outcome → MemberRow → MemberRow
with_reply_to x o r = record r {
  status = decided_as x.direction o r.status;
  completion = by_way x.direction (Some o) r.completion r.completion;
  compensation = by_way x.direction r.compensation (Some o) r.compensation;
  completed_as = decided_by direction.Completion x.direction o r.completed_as;
  compensated_as = decided_by direction.Compensation x.direction o r.compensated_as;
  asked = None;
  has_forgotten = r.has_forgotten || (same_kind x.kind ask.Forget && is_done o);
  was_told = r.was_told || (same_kind x.kind ask.After && is_done o);
}

-- a member that answers
abbrev pub with_reply : Outcome → MemberRow → MemberRow
with_reply o r = option_map_or (λ (x : Standing). with_reply_to x o r) r.asked r

-- a member that reports
abbrev pub with_report : Outcome → MemberRow → MemberRow
with_report o r = record r {
  status = decided_as (way_of r.status) o r.status;
  completed_as = decided_by direction.Completion (way_of r.status) o r.completed_as;
  compensated_as = decided_by direction.Compensation (way_of r.status) o r.compensated_as;
}

-- a member that is skipped
abbrev pub with_skip : MemberRow → MemberRow
with_skip r = record r { status = member.Completed; completed_as = option_or r.completed_as (Some outcome.Done) }

-- the row of a member that joins
abbrev pub new_member : ℕ → Addresses → MemberRow
new_member a u = record {
  action = a;
  addresses = presence_of u;
  status = member.Active;
  completion = None;
  compensation = None;
  completed_as = None;
  compensated_as = None;
  asked = None;
  has_forgotten = false;
  was_told =
      false;
}

-- the row of an action that starts
abbrev pub new_action : ℕ → Option ℕ → ℕ → ℕ → ℕ → ActionRow
new_action a parent top limit moment = record {
  parent = parent;
  top = top;
  status = action.Active;
  limit = record { length_of = limit; since = moment };
  completing = 0;
  compensating = 0;
  uncompleted = 0;
  uncompensated = 0;
  unended = 0;
  uncancelled = 0;
  failed = 0;
}

-- the outermost action above a new one
abbrev pub new_top : State → ℕ → Option ℕ → ℕ
new_top s a parent = option_map_or (λ b. option_map_or (λ (r : ActionRow). r.top) (row_at s.actions b) a) parent a

-- the member of the first row that has an ask unanswered, counted from 1; 0 where there is none
abbrev pub place_of : ℕ → List MemberRow → ℕ
place_of n [] = 0
place_of n (r ∷ rows) = cond (stands_as n r) 1 (after (place_of n rows))
  where
    after : ℕ → ℕ
    after zero = zero
    after (suc k) = suc (suc k)

-- the state after one more deed at a moment, where it is allowed
abbrev pub after_deed : ℕ → Deed → State → State
after_deed m Enrol s = record s { clerks = s.clerks + 1 }
after_deed m (Start a parent limit) s =
    record s {
      actions = option_map_or (λ b. change_row with_new_child b s.actions) parent s.actions
          ++ new_action a parent (new_top s a parent) limit m ∷ [];
    }
after_deed m (Join p a u) s = record s {
  members = s.members ++ new_member a u
      ∷ [];
  actions = change_row (with_new_member (new_member a u)) a s.actions;
}
after_deed m (Leave p) s = change_member (λ (r : MemberRow). record r { status = member.Left }) p s
after_deed m (Close a cause) s = change_status action.Closing a s
after_deed m (Cancel a cause) s = change_status action.Cancelling a s
after_deed m (Skip p) s = change_member with_skip p s
after_deed m (Ask n p kind) s = change_member (with_ask n kind) p (record s { asks = s.asks + 1 })
after_deed m (Reply n o) s = change_member (with_reply o) (place_of n s.members) s
after_deed m (Report p o) s = change_member (with_report o) p s
after_deed m (End a status) s = change_status status a s
after_deed m Restart s = record s { void = s.asks }
after_deed m (Renew a limit) s =
    record s {
      actions = change_row (λ (r : ActionRow). record r { limit = record { length_of = limit; since = m } }) a
          s.actions;
    }
