-- The members and actions of which a deed may change what settles next.
use Rattle.std.specs.Prelude.{ℕ, List, [], ◌∷◌, ◌++◌, option_to_list}
use Rattle.std.specs.Option.{option_map_or}
use Rattle.lra_model.specs.declared.entry.Deed.{Deed}
use Rattle.lra_model.specs.declared.entry.Deed.TheVariants.{Start, Join, Leave, Close, Cancel, Skip, Ask, Reply, Report}
use Rattle.lra_model.specs.declared.entry.Deed.TheVariants.{End}
use Rattle.lra_model.specs.History.{History}
use Rattle.lra_model.specs.Actions.{parent, children, members_of}
use Rattle.lra_model.specs.Members.{Asked, ask_of, action_of}

-- the members for which a deed may change whether they may be skipped
abbrev pub members_concerned : History → Deed → List ℕ
members_concerned J (Join p a uris) = p ∷ []
members_concerned J (Leave p) = p ∷ []
members_concerned J (Close a cause) = members_of J a
members_concerned J (Cancel a cause) = members_of J a
members_concerned J (Skip p) = p ∷ []
members_concerned J (Ask n p kind) = p ∷ []
members_concerned J (Reply n o) = option_map_or (λ (x : Asked). x.member ∷ []) (ask_of J n) []
members_concerned J (Report p o) = p ∷ []
members_concerned J (End a status) = members_of J a
members_concerned J _ = []

-- an action whose status changes, its parent, and the actions nested in it
abbrev pub around : History → ℕ → List ℕ
around J a = a ∷ (option_to_list (parent J a) ++ children J a)

-- the actions for which a deed may change whether they may end, or be closed or cancelled by their parent
abbrev pub actions_concerned : History → Deed → List ℕ
actions_concerned J (Start c parent limit) = c ∷ option_to_list parent
actions_concerned J (Join p a uris) = a ∷ []
actions_concerned J (Leave p) = action_of J p ∷ []
actions_concerned J (Close a cause) = around J a
actions_concerned J (Cancel a cause) = around J a
actions_concerned J (Skip p) = action_of J p ∷ []
actions_concerned J (Ask n p kind) = action_of J p ∷ []
actions_concerned J (Reply n o) = option_map_or (λ (x : Asked). action_of J x.member ∷ []) (ask_of J n) []
actions_concerned J (Report p o) = action_of J p ∷ []
actions_concerned J (End a status) = around J a
actions_concerned J _ = []
