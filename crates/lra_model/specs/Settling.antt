-- What follows by itself: the entries that settle a history, and the next of them.
use Rattle.std.specs.Prelude.{◌≡◌, ℕ, zero, suc, ◌+◌, ◌*◌, Bool, true, false, List, [], ◌∷◌, ◌++◌, length, Option, Some}
use Rattle.std.specs.Prelude.{None, option_map, cond}
use Rattle.std.specs.Option.{option_map_or, option_or}
use Rattle.std.specs.List.{filter_map, find}
use Rattle.lra_model.specs.declared.asks.Cause.TheVariants as cause
use Rattle.lra_model.specs.declared.version.Version.{Version}
use Rattle.lra_model.specs.declared.entry.Deed.{Deed}
use Rattle.lra_model.specs.declared.entry.Deed.TheVariants.{Close, Cancel, Skip, End}
use Rattle.lra_model.specs.declared.entry.Entry.{Entry}
use Rattle.lra_model.specs.History.{History, first, last, actions, members, last_moment}
use Rattle.lra_model.specs.Ends.{is_settled, right_end}
use Rattle.lra_model.specs.Facts.{facts_of}
use Rattle.lra_model.specs.Tests.{at_action, at_member, may_close_with_parent, may_cancel_with_parent, may_skip}
use Rattle.lra_model.specs.Rules.{allows}

-- whether a coordinator does a deed by itself: a skip, what a parent does to an action nested in it, or an end (this
-- project's choice)
abbrev pub is_settling : Deed → Bool
is_settling (Close a cause.Parent) = true
is_settling (Cancel a cause.Parent) = true
is_settling (Skip p) = true
is_settling (End a status) = true
is_settling _ = false

-- nothing is left to settle: no clerk may do such a deed at the last moment (this project's choice)
abbrev pub IsQuiet : Version → (List ℕ → Bool) → History → Type 0
IsQuiet v t J = (by : ℕ) (d : Deed) → is_settling d ≡ true → allows v t J
    (record { by = by; moment = last_moment J; deed = d }) ≡ false

-- whether a member may be completed without being asked (MicroProfile LRA 2.0: a participant may have no complete
-- callback)
abbrev pub may_be_skipped : History → ℕ → Bool
may_be_skipped J p = at_member (may_skip (facts_of J)) (facts_of J) p

-- what its parent does to an action, where it does anything: closes it, or cancels it (MicroProfile LRA 2.0, nested
-- LRAs)
abbrev pub by_parent : History → ℕ → Option Deed
by_parent J a =
    cond (at_action (may_close_with_parent (facts_of J)) (facts_of J) a) (Some (Close a cause.Parent))
    (cond (at_action (may_cancel_with_parent (facts_of J)) (facts_of J) a) (Some (Cancel a cause.Parent)) None)

-- The deed that a coordinator does next by itself, where there is one: the skip of the least member that may be
-- skipped; else what its parent does to the least action to which it does anything; else the end of the greatest action
-- that may end (this project's choice).
unfoldable pub next_settling : History → Option Deed
next_settling J =
    option_or (option_map Skip (find (may_be_skipped J) (members J)))
    (option_or (first (filter_map (by_parent J) (actions J)))
    (option_map (λ a. End a (right_end J a))
    (last (filter_map (λ a. cond (is_settled J a) (Some a) None) (actions J)))))

-- one settling entry after another, at most so many, all by one clerk and at one moment
abbrev pub settling_within : ℕ → ℕ → ℕ → History → List Entry
settling_within zero by moment J = []
settling_within (suc n) by moment J = option_map_or (λ (d : Deed). (record { by = by; moment = moment; deed = d })
    ∷ settling_within n by moment (J ++ record { by = by; moment = moment; deed = d } ∷ [])) (next_settling J) []

-- how many settling entries there can be: a member is skipped once, and an action changes its status four times at
-- most, to Closing, its end, Cancelling and its end
abbrev pub most_settling : History → ℕ
most_settling J = length (members J) + 4 * length (actions J)

-- the entries that settle a history: the next one until it is quiet
abbrev pub settling : ℕ → ℕ → History → List Entry
settling by moment J = settling_within (most_settling J) by moment J

-- an entry, and those that settle the history after it
abbrev pub with_settling : History → Entry → List Entry
with_settling J e = e ∷ settling e.by e.moment (J ++ e ∷ [])
