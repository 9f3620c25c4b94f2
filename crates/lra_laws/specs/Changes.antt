-- The members whose wants, and the actions whose deadlines, an entry may change.
use Rattle.std.specs.Prelude.{ℕ, List, [], ◌∷◌, Option, None, cond, is_some}
use Rattle.std.specs.Option.{option_map_or}
use Rattle.std.specs.List.{flat_map, filter_map}
use Rattle.lra_model.specs.declared.entry.Deed.{Deed}
use Rattle.lra_model.specs.declared.entry.Deed.TheVariants.{Start, Join, Leave, Close, Cancel, Skip, Ask, Reply, Report}
use Rattle.lra_model.specs.declared.entry.Deed.TheVariants.{End, Restart, Renew}
use Rattle.lra_model.specs.declared.entry.Entry.{Entry}
use Rattle.lra_model.specs.Words.{when}
use Rattle.lra_model.specs.History.{History, asks}
use Rattle.lra_model.specs.Actions.{parent, members_of}
use Rattle.lra_model.specs.Members.{Asked, ask_of, is_outstanding, members_under}

-- the member of an ask that is outstanding
abbrev pub member_awaited : History → ℕ → Option ℕ
member_awaited J n = option_map_or (λ (x : Asked). when (is_outstanding J n) x.member) (ask_of J n) None

-- the members of all asks that are outstanding, in the order in which they were asked
abbrev pub members_awaited : History → List ℕ
members_awaited J = filter_map (member_awaited J) (asks J)

-- the members whose wants may differ after a deed: the one that it names; all of an action that it closes, cancels or
-- ends, and where that is an outermost one that ends, all below it as well; after a restart those whose asks it makes
-- void
abbrev pub members_changed : History → Deed → List ℕ
members_changed J (Join p a uris) = p ∷ []
members_changed J (Leave p) = p ∷ []
members_changed J (Close a cause) = members_of J a
members_changed J (Cancel a cause) = members_of J a
members_changed J (Skip p) = p ∷ []
members_changed J (Ask n p kind) = p ∷ []
members_changed J (Reply n o) = option_map_or (λ (x : Asked). x.member ∷ []) (ask_of J n) []
members_changed J (Report p o) = p ∷ []
members_changed J (End a status) = cond (is_some (parent J a)) (members_of J a) (members_under J a)
members_changed J Restart = members_awaited J
members_changed J _ = []

-- the actions whose deadlines may differ after a deed
abbrev pub actions_changed : Deed → List ℕ
actions_changed (Start a parent limit) = a ∷ []
actions_changed (Close a cause) = a ∷ []
actions_changed (Cancel a cause) = a ∷ []
actions_changed (End a status) = a ∷ []
actions_changed (Renew a limit) = a ∷ []
actions_changed _ = []

-- the members of several entries, each by the history before all of them
abbrev pub members_changed_by : History → List Entry → List ℕ
members_changed_by J es = flat_map (λ (e : Entry). members_changed J e.deed) es

-- the actions of several entries
abbrev pub actions_changed_by : List Entry → List ℕ
actions_changed_by es = flat_map (λ (e : Entry). actions_changed e.deed) es
