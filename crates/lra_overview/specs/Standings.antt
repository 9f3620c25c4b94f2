-- The ways in which members hold up ends.
use Rattle.std.specs.Prelude.{ℕ, nat_le, Bool, ◌&&◌, ◌||◌, not, Option, None, is_some, if◌then◌else◌}
use Rattle.std.specs.Prelude.{List, [], ◌∷◌}
use Rattle.std.specs.List.{flat_map}
use Rattle.lra_commands.specs.declared.query.Blocker.{Blocker}
use Rattle.lra_commands.specs.declared.query.Want.{Want}
use Rattle.lra_overview.specs.declared.gather.ActionRow.{ActionRow}
use Rattle.lra_overview.specs.declared.gather.MemberRow.{MemberRow}
use Rattle.lra_overview.specs.declared.gather.Waiting.{Waiting as WaitingAction}
use Rattle.lra_overview.specs.declared.tree.Node.{Node}
use Rattle.lra_overview.specs.declared.tree.NodeOf.{NodeOf}
use Rattle.lra_overview.specs.declared.tree.NodeOf.TheVariants as stands_for
use Rattle.lra_overview.specs.declared.overdue.Standing.{Standing}
use Rattle.lra_overview.specs.declared.overdue.Standing.TheVariants.{AtIt, Silent, Waiting, Timely}

-- a member that answered last that it is at it is `AtIt`; another that was asked in vain three times or more is silent;
-- another that is to be asked by now is waiting; any other doesn't hold an end up yet (this project's choice)
abbrev pub standing_of : ℕ → ℕ → ℕ → Bool → Standing
standing_of repeats due moment is_at_it =
    if is_at_it then AtIt
    else if nat_le 3 repeats then Silent
    else if nat_le due moment then Waiting
    else Timely

-- whether a member of an action that has ended is untold: it is being asked something, or is to be, and operators
-- haven't given it up
abbrev pub is_untold : Option ℕ → Option Want → Bool → Bool
is_untold ask want is_given_up = (is_some ask || is_some want) && not is_given_up

-- an action of which only is known what it waits for
abbrev pub only_awaits : ActionRow → Option Blocker → WaitingAction
only_awaits row awaited = record { row = row; awaited = awaited; want = None; left = 0; age = None }

-- the member that something stands for, if it isn't an action
abbrev pub member_of : NodeOf → List MemberRow
member_of (stands_for.Member row) = row ∷ []
member_of (stands_for.Action row) = []

-- the member that a node of a tree stands for, if it stands for one
abbrev pub member_at : Node → List MemberRow
member_at node = member_of node.of

-- the members of a tree, in its order
abbrev pub members_of : List Node → List MemberRow
members_of nodes = flat_map member_at nodes
