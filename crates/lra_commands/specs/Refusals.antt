-- When a command is refused, and why.
use Rattle.std.specs.Prelude.{ℕ, ◌+◌, ◌==◌, nat_lt, Bool, true, false, ◌&&◌, not, List, [], ◌∷◌, ◌++◌, length, Option}
use Rattle.std.specs.Prelude.{Some, None, if◌then◌else◌, unwrap_or, cond}
use Rattle.std.specs.Option.{option_map_or}
use Rattle.std.specs.Result.{is_ok}
use Rattle.lra_model.specs.declared.status.ActionStatus.{ActionStatus}
use Rattle.lra_model.specs.declared.status.ActionStatus.TheVariants as action
use Rattle.lra_model.specs.declared.status.Ending.{Ending}
use Rattle.lra_model.specs.declared.asks.Direction.TheVariants as direction
use Rattle.lra_model.specs.declared.version.Version.{Version}
use Rattle.lra_model.specs.declared.version.Version.TheVariants as version
use Rattle.lra_model.specs.Words.{is_completing, is_compensating, same_kind, same_direction}
use Rattle.lra_model.specs.History.{History, clerks, actions, members, is_among}
use Rattle.lra_model.specs.Actions.{action_status, depth}
use Rattle.lra_model.specs.Members.{Asked, action_of, has_left, member_status, is_outstanding, ask_of}
use Rattle.lra_model.specs.Tests.{is_moment, each_parent, addresses_fit}
use Rattle.lra_ids.specs.Addresses.{address_of}
use Rattle.lra_commands.specs.declared.limits.Limits.{Limits}
use Rattle.lra_commands.specs.declared.command.Command.TheVariants as command
use Rattle.lra_commands.specs.declared.refusal.Resource.{Resource}
use Rattle.lra_commands.specs.declared.refusal.Resource.TheVariants as resource
use Rattle.lra_commands.specs.declared.refusal.Refusal.{Refusal}
use Rattle.lra_commands.specs.declared.refusal.Refusal.TheVariants as refusal
use Rattle.lra_commands.specs.declared.limits.Terms.{Terms}
use Rattle.lra_commands.specs.Errands.{Asking}
use Rattle.lra_commands.specs.Calls.{Command, Call, moment_of}
use Rattle.lra_commands.specs.Deeds.{is_open, is_decided, direction_told, may_be_cancelled}
use Rattle.lra_commands.specs.Blocks.{block}

-- a refusal, and whether it holds
abbrev pub Ground : Type 0
Ground = Refusal × Bool

-- the action isn't there
abbrev pub no_action : History → ℕ → Bool
no_action J a = not (is_among (actions J) a)

-- the member isn't there
abbrev pub no_member : History → ℕ → Bool
no_member J p = not (is_among (members J) p)

-- the status of an action, and Active where it isn't there
abbrev pub status_at : History → ℕ → ActionStatus
status_at J a = unwrap_or (action_status J a) action.Active

-- an action can't be closed once it is being cancelled, or was
abbrev pub is_past_closing : ActionStatus → Bool
is_past_closing action.Cancelling = true
is_past_closing action.Cancelled = true
is_past_closing action.FailedToCancel = true
is_past_closing _ = false

-- an action can't be cancelled once it is being closed, or was
abbrev pub is_past_cancelling : ActionStatus → Bool
is_past_cancelling action.Closing = true
is_past_cancelling action.Closed = true
is_past_cancelling action.FailedToClose = true
is_past_cancelling _ = false

-- the version has no renewed limits
abbrev pub is_old : Version → Bool
is_old version.One = true
is_old version.Two = false

-- whether an ask is the errand's
abbrev pub is_of : Asking → Asked → Bool
is_of e x = (x.member == e.member) && same_kind x.kind e.kind && same_direction x.direction e.direction

-- whether the errand's ask is outstanding
abbrev pub is_asked : History → Asking → Bool
is_asked J e = is_outstanding J e.ask && option_map_or (is_of e) (ask_of J e.ask) false

-- whether a member is being asked for the direction of the ending that it reports
abbrev pub is_asked_for : History → ℕ → Ending → Bool
is_asked_for J p e = cond (same_direction (direction_told e) direction.Completion) (is_completing (member_status J p))
    (is_compensating (member_status J p))

-- whether a history passes a limit
abbrev pub passes : Limits → Resource → History → Bool
passes l resource.Clerks K = nat_lt l.clerks (length (clerks K))
passes l resource.Actions K = nat_lt l.actions (length (actions K))
passes l resource.Members K = nat_lt l.members (length (members K))
passes l resource.Entries K = nat_lt l.entries (length K)

-- whether there is something to write
abbrev pub is_filled : {X : Type 0} → List X → Bool
is_filled [] = false
is_filled (x ∷ xs) = true

-- whether what the call would write doesn't fit
abbrev pub overfills : Terms → History → Call → Resource → Bool
overfills s J c r = is_filled (block s J c) && passes s.limits r (J ++ block s J c)

-- what there may be too much of
abbrev pub full_grounds : Terms → History → Call → List Ground
full_grounds s J c =
    (refusal.Full resource.Clerks, overfills s J c resource.Clerks) ∷ (
      refusal.Full resource.Actions,
      overfills s J c resource.Actions,
    )
    ∷ (refusal.Full resource.Members, overfills s J c resource.Members)
    ∷ (refusal.Full resource.Entries, overfills s J c resource.Entries) ∷ []

-- the refusals that bear on a command of a clerk, in their order, but for what there may be too much of
abbrev pub command_grounds : Terms → History → ℕ → Command → List Ground
command_grounds s J m command.Enrol = []
command_grounds s J m (command.Start parent limit) =
    (refusal.NoSuchAction, not (each_parent (λ b. is_among (actions J) b) parent))
    ∷ (refusal.NotActive (option_map_or (status_at J) parent action.Active), not (each_parent (is_open J) parent))
    ∷ (refusal.LimitTooFar, not (is_moment (m + limit))) ∷ (
      refusal.TooDeep,
      nat_lt s.limits.depth (option_map_or (λ b. depth J b + 1) parent 1),
    ) ∷ []
command_grounds s J m (command.Join a uris) =
    (refusal.NoSuchAction, no_action J a) ∷ (refusal.NotActive (status_at J a), not (is_open J a))
    ∷ (refusal.BadAddresses, not (addresses_fit (λ text. is_ok (address_of text)) uris.now)) ∷ []
command_grounds s J m (command.Leave a p) =
    (refusal.NoSuchAction, no_action J a) ∷ (refusal.NoSuchMember, no_member J p)
    ∷ (refusal.WrongAction, not (action_of J p == a)) ∷ (refusal.HasLeft, has_left J p)
    ∷ (refusal.NotActive (status_at J a), not (is_open J a)) ∷ []
command_grounds s J m (command.Close a) =
    (refusal.NoSuchAction, no_action J a) ∷ (refusal.NotActive (status_at J a), is_past_closing (status_at J a)) ∷ []
command_grounds s J m (command.Cancel a) =
    (refusal.NoSuchAction, no_action J a) ∷ (
      refusal.NotActive (status_at J a),
      is_past_cancelling (status_at J a)
          && not (may_be_cancelled s J a),
    ) ∷ []
command_grounds s J m command.Tick = []
command_grounds s J m command.NextAsk = []
command_grounds s J m (command.Record errand o) = (refusal.NotAsked, not (is_asked J errand.now)) ∷ []
command_grounds s J m (command.Report p e) =
    (refusal.NoSuchMember, no_member J p) ∷ (refusal.HasLeft, has_left J p)
    ∷ (refusal.NotAsked, not (is_decided J p e) && not (is_asked_for J p e)) ∷ []
command_grounds s J m command.Restart = []
command_grounds s J m (command.Renew a limit) =
    (refusal.OldJournal, is_old s.version) ∷ (refusal.NoSuchAction, no_action J a)
    ∷ (refusal.NotActive (status_at J a), not (is_open J a)) ∷ (refusal.LimitTooFar, not (is_moment (m + limit)))
    ∷ []
command_grounds s J m (command.Status a) = (refusal.NoSuchAction, no_action J a) ∷ []
command_grounds s J m (command.MemberStatus p) = (refusal.NoSuchMember, no_member J p) ∷ []

-- whether a command's clerk isn't enrolled, though it has to be: an enrolment alone needs no enrolled clerk
abbrev pub is_stranger : History → ℕ → Command → Bool
is_stranger J by command.Enrol = false
is_stranger J by _ = not (is_among (clerks J) by)

-- all refusals that bear on a call, in their order; where something is asked, nothing is written unless it was, so what
-- there may be too much of comes last (this project's choice)
abbrev pub grounds : Terms → History → Call → List Ground
grounds s J c =
    (refusal.NoSuchClerk, is_stranger J c.by c.command) ∷ (command_grounds s J (moment_of J c) c.command
    ++ full_grounds s J c)

-- the first that holds
abbrev pub first_ground : List Ground → Option Refusal
first_ground [] = None
first_ground ((r, holds) ∷ rest) = if holds then Some r else first_ground rest

-- why a call is refused, if it is
unfoldable pub refused : Terms → History → Call → Option Refusal
refused s J c = first_ground (grounds s J c)
