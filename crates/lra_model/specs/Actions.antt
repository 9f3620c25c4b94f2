-- What a history says of an action: its parent and lineage, its status, its limit, its nested actions and its members.
use Rattle.std.specs.Prelude.{ℕ, zero, suc, ◌==◌, Bool, false, List, [], ◌∷◌, length, Option, Some, None, unwrap_or}
use Rattle.std.specs.Option.{option_map_or}
use Rattle.std.specs.List.{before_first}
use Rattle.std.specs.List.{filter_map, list_any}
use Rattle.lra_model.specs.declared.status.ActionStatus.{ActionStatus}
use Rattle.lra_model.specs.declared.status.ActionStatus.TheVariants as action
use Rattle.lra_model.specs.declared.entry.Deed.{Deed}
use Rattle.lra_model.specs.declared.entry.Deed.TheVariants.{Start, Join, Close, Cancel, End, Renew}
use Rattle.lra_model.specs.declared.entry.Entry.{Entry}
use Rattle.lra_model.specs.Words.{when}
use Rattle.lra_model.specs.History.{History, first, last, read_deeds, is_among}

-- the parent that a deed gives an action, where it starts that action (this project's journal)
abbrev pub parent_given : ℕ → Deed → Option (Option ℕ)
parent_given a (Start b parent limit) = when (b == a) parent
parent_given a _ = None

-- the action that an action is nested in, as its Start says (MicroProfile LRA 2.0, nested LRAs)
unfoldable pub parent : History → ℕ → Option ℕ
parent J a = unwrap_or (first (read_deeds (parent_given a) J)) None

-- the actions that are met going up by parents, in at most so many steps (this project's words)
abbrev pub lineage_within : ℕ → History → ℕ → List ℕ
lineage_within zero J a = a ∷ []
lineage_within (suc n) J a = a ∷ option_map_or (lineage_within n J) (parent J a) []

-- The lineage of an action: itself, the action that it is nested in, and so on up to one that has no parent
-- (MicroProfile LRA 2.0, nested LRAs). A parent has the lesser number, so that the action's own number is steps enough.
abbrev pub lineage : History → ℕ → List ℕ
lineage J a = lineage_within a J a

-- the outermost action that an action stands in: the last of its lineage (MicroProfile LRA 2.0, top-level LRA)
unfoldable pub top : History → ℕ → ℕ
top J a = unwrap_or (last (lineage J a)) a

-- whether an action is t or stands below it: whether its lineage has t
unfoldable pub is_under : History → ℕ → ℕ → Bool
is_under J t a = is_among (lineage J a) t

-- how deep an action is nested: the length of its lineage, so that an action with no parent is at depth 1 (this
-- project's choice of counting)
unfoldable pub depth : History → ℕ → ℕ
depth J a = length (lineage J a)

-- the status that a deed gives an action (this project's journal)
abbrev pub status_given : ℕ → Deed → Option ActionStatus
status_given a (Start b parent limit) = when (b == a) action.Active
status_given a (Close b cause) = when (b == a) action.Closing
status_given a (Cancel b cause) = when (b == a) action.Cancelling
status_given a (End b status) = when (b == a) status
status_given a _ = None

-- the status of an action: what the last entry that starts, closes, cancels or ends it gave it (MicroProfile LRA 2.0,
-- LRAStatus)
unfoldable pub action_status : History → ℕ → Option ActionStatus
action_status J a = last (read_deeds (status_given a) J)

-- a limit in milliseconds, where 0 is none, and the moment that it counts from (MicroProfile LRA 2.0, timeLimit)
pub record Limit : Type 0 where
  pub length_of : ℕ
  pub since : ℕ

-- the limit that an entry gives an action (this project's journal)
abbrev pub limit_given : ℕ → Entry → Option Limit
limit_given a e = of_deed e.deed
  where
    of_deed : Deed → Option Limit
    of_deed (Start b parent limit) = when (b == a) (record { length_of = limit; since = e.moment })
    of_deed (Renew b limit) = when (b == a) (record { length_of = limit; since = e.moment })
    of_deed _ = None

-- the limit in force of an action: that of its last Start or Renew (MicroProfile LRA 2.0, timeLimit and renewTimeLimit)
unfoldable pub limit_in_force : History → ℕ → Limit
limit_in_force J a = unwrap_or (last (filter_map (limit_given a) J)) (record { length_of = 0; since = 0 })

-- the action that a deed starts in another (this project's journal)
abbrev pub child_given : ℕ → Deed → Option ℕ
child_given a (Start b (Some c) limit) = when (c == a) b
child_given a _ = None

-- the actions nested directly in an action (MicroProfile LRA 2.0, nested LRAs)
unfoldable pub children : History → ℕ → List ℕ
children J a = read_deeds (child_given a) J

-- the member that a deed lets join an action (this project's journal)
abbrev pub member_given : ℕ → Deed → Option ℕ
member_given a (Join p b uris) = when (b == a) p
member_given a _ = None

-- the members of an action, those that left among them (MicroProfile LRA 2.0, participants)
unfoldable pub members_of : History → ℕ → List ℕ
members_of J a = read_deeds (member_given a) J

-- whether a deed cancels an action (this project's journal)
abbrev pub is_cancel_of : ℕ → Deed → Bool
is_cancel_of a (Cancel b cause) = b == a
is_cancel_of a _ = false

-- whether an action was cancelled, however it ended (MicroProfile LRA 2.0, cancelling an LRA)
unfoldable pub was_cancelled : History → ℕ → Bool
was_cancelled J a = list_any (λ (e : Entry). is_cancel_of a e.deed) J

-- whether one of the actions from an action up to t, t left out, was cancelled: one of its lineage before t
-- (MicroProfile LRA 2.0, nested LRAs)
unfoldable pub was_cancelled_below : History → ℕ → ℕ → Bool
was_cancelled_below J t a = list_any (was_cancelled J) (before_first (λ b. b == t) (lineage J a))
