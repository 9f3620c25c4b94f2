-- Small runs, worked out by hand, and what the definitions make of them.
use Rattle.std.proofs.Common.{◌≡◌, ℕ, List, [], ◌∷◌, ◌++◌, Option, Some, None, Ok, Err, refl, map, arith}
use Rattle.std.specs.Prelude.{codes, Result}
use Rattle.lra_model.specs.declared.status.ActionStatus.TheVariants as action
use Rattle.lra_model.specs.declared.status.MemberStatus.TheVariants as member
use Rattle.lra_model.specs.declared.status.Ending.TheVariants as ending
use Rattle.lra_model.specs.declared.asks.AskKind.{AskKind}
use Rattle.lra_model.specs.declared.asks.AskKind.TheVariants as ask
use Rattle.lra_model.specs.declared.asks.Direction.{Direction}
use Rattle.lra_model.specs.declared.asks.Direction.TheVariants as direction
use Rattle.lra_model.specs.declared.asks.Outcome.{Outcome}
use Rattle.lra_model.specs.declared.asks.Outcome.TheVariants as outcome
use Rattle.lra_model.specs.declared.asks.Cause.TheVariants as cause
use Rattle.lra_model.specs.declared.version.Version.TheVariants as version
use Rattle.lra_model.specs.declared.entry.Deed.{Deed}
use Rattle.lra_model.specs.declared.entry.Deed.TheVariants.{Enrol, Start, Join, Leave, Close, Cancel, Skip, Ask, Reply}
use Rattle.lra_model.specs.declared.entry.Deed.TheVariants.{Report, End, Restart, Renew}
use Rattle.lra_model.specs.declared.entry.Entry.{Entry}
use Rattle.lra_model.specs.Addresses.{Addresses}
use Rattle.lra_model.specs.History.{History, steps, clerks, actions, members, asks, last_moment}
use Rattle.lra_model.specs.Actions.{parent, top, action_status, limit_in_force, children, members_of, depth}
use Rattle.lra_model.specs.Members.{action_of, no_addresses, addresses_of, has_left, stays, was_asked, ask_of, replies}
use Rattle.lra_model.specs.Members.{decided, member_status, last_reply, was_answered, is_outstanding, outstanding_ask}
use Rattle.lra_model.specs.Ends.{staying, is_settled, right_end, top_has_ended}
use Rattle.lra_model.specs.Facts.{facts_of}
use Rattle.lra_model.specs.Settling.{next_settling}
use Rattle.lra_model.specs.Wants.{wants, repeats}
use Rattle.lra_laws.proofs.Worked.{at, u, c, uris, nest, undone, failing, cancelled_below, taken_back}
use Rattle.lra_commands.specs.declared.command.Command.TheVariants as command
use Rattle.lra_commands.specs.declared.command.Told.{Told}
use Rattle.lra_commands.specs.declared.command.Told.TheVariants.{Clerk, Action, Left, Now, Already, Fired, Idle, Asked}
use Rattle.lra_commands.specs.declared.command.Told.TheVariants.{Recorded, MemberNow, MemberAlready, Restarted, Renewed}
use Rattle.lra_commands.specs.declared.command.Told.TheVariants.{ActionIs, MemberIs}
use Rattle.lra_commands.specs.declared.refusal.Resource.TheVariants as resource
use Rattle.lra_commands.specs.declared.refusal.Refusal.{Refusal}
use Rattle.lra_commands.specs.declared.refusal.Refusal.TheVariants.{NoSuchClerk, OldJournal, NoSuchAction, NoSuchMember}
use Rattle.lra_commands.specs.declared.refusal.Refusal.TheVariants.{WrongAction, HasLeft, NotActive, BadAddresses}
use Rattle.lra_commands.specs.declared.refusal.Refusal.TheVariants.{LimitTooFar, TooDeep, Full, NotAsked}
use Rattle.lra_commands.specs.declared.limits.Terms.{Terms}
use Rattle.lra_commands.specs.Terms.{usual, AreKeepable}
use Rattle.lra_timers.specs.Pauses.{pause}
use Rattle.lra_commands.specs.Calls.{Command, Call}
use Rattle.lra_commands.specs.Due.{due, late}
use Rattle.lra_model.specs.Joins.{already_member}
use Rattle.lra_commands.specs.Blocks.{block}
use Rattle.lra_commands.specs.Refusals.{refused}
use Rattle.lra_commands.specs.Answers.{answer, after_call, growth}
use Rattle.lra_commands.specs.Runs.{after_calls}

-- what a clerk says at a moment
abbrev says : ℕ → ℕ → Command → Call
says by moment command = record { by = by; moment = moment; command = command }

-- what becomes of an ask
abbrev reply : ℕ → ℕ → AskKind → Direction → Outcome → Command
reply n p kind direction outcome =
    command.Record (record {
      ref_ptr = (0, 0);
      now = record {
        ask = n;
        member = p;
        action = 1;
        kind = kind;
        direction = direction;
        address = [];
        action_uri = [];
        parent_uri = None;
        recovery_uri = [];
        ended = None;
      };
    }) outcome

-- to join an action
abbrev join : ℕ → Addresses → Command
join a addresses = command.Join a (record { ref_ptr = (0, 0); now = addresses })

-- the usual limits, in both versions
abbrev one : Terms
one = record { version = version.One; limits = usual }

abbrev two : Terms
two = record { version = version.Two; limits = usual }

-- the usual limits can be kept
pub usual_keepable : AreKeepable usual
usual_keepable = record { clerks = omega arith; actions = omega arith; members = omega arith; entries = omega arith }

-- the answers to calls, each at the history that those before it left
abbrev answers : Terms → History → List Call → List (Result Told Refusal)
answers s J [] = []
answers s J (c ∷ cs) = answer s J c ∷ answers s (after_call s J c) cs

-- answers, and the history after them
abbrev Run : Type 0
Run = List (Result Told Refusal) × History

abbrev run : Terms → History → List Call → Run
run s J cs = (answers s J cs, after_calls s J cs)

-- ---- actions without members

abbrev closed_empty : History
closed_empty = at 0 Enrol ∷ at 0 (Start 1 None 0) ∷ at 5 (Close 1 cause.Client) ∷ at 5 (End 1 action.Closed) ∷ []

pub closes : run one [] (says 0 0 command.Enrol ∷ says 1 0 (command.Start None 0) ∷ says 1 5 (command.Close 1)
    ∷ says 1 6 (command.Close 1) ∷ says 1 6 (command.Close 2)
    ∷ says 2 6 (command.Start None 0) ∷ says 1 6 (command.Cancel 1) ∷ says 1 6 (command.Start (Some 1) 0)
    ∷ says 1 6 (command.Status 1) ∷ says 1 6 (join 1 no_addresses)
    ∷ [])
    ≡ (
      Ok (Clerk 1) ∷ Ok (Action 1) ∷ Ok (Now action.Closed) ∷ Ok (Already action.Closed) ∷ Err NoSuchAction
          ∷ Err NoSuchClerk ∷ Err (NotActive action.Closed)
          ∷ Err (NotActive action.Closed) ∷ Ok (ActionIs action.Closed) ∷ Err (NotActive action.Closed) ∷ [],
      closed_empty,
    )
unfolding steps clerks actions members asks last_moment parent top action_status limit_in_force children members_of
    depth action_of addresses_of has_left stays was_asked ask_of replies decided member_status last_reply was_answered
    is_outstanding outstanding_ask staying is_settled right_end top_has_ended facts_of next_settling wants repeats due
    late already_member block refused answer growth
closes = refl

-- the moment of an entry is never before the last; a limit's end is a moment
pub fires : run one (at 1000 Enrol ∷ []) (says 1 1000 (command.Start None 100) ∷ says 1 1099 command.Tick
    ∷ says 1 1100 command.Tick
    ∷ says 1 500 (command.Start None 18446744073709551615) ∷ says 1 500 (command.Start None 18446744073709550515)
    ∷ says 1 500 command.Tick ∷ [])
    ≡ (
      Ok (Action 1) ∷ Ok Idle ∷ Ok (Fired 1) ∷ Err LimitTooFar ∷ Ok (Action 2) ∷ Ok Idle ∷ [],
      at 1000 Enrol ∷ at 1000 (Start 1 None 100) ∷ at 1100 (Cancel 1 cause.Limit) ∷ at 1100 (End 1 action.Cancelled)
          ∷ at 1100 (Start 2 None 18446744073709550515) ∷ [],
    )
unfolding steps clerks actions members asks last_moment parent top action_status limit_in_force children members_of
    depth action_of addresses_of has_left stays was_asked ask_of replies decided member_status last_reply was_answered
    is_outstanding outstanding_ask staying is_settled right_end top_has_ended facts_of next_settling wants repeats due
    late already_member block refused answer growth
fires = refl

-- the least deadline is fired first
pub fires_in_order : run one (at 0 Enrol ∷ at 0 (Start 1 None 50) ∷ at 0 (Start 2 None 40) ∷ at 0 (Start 3 None 40)
    ∷ []) (says 1 39 command.Tick ∷ says 1 60 command.Tick
    ∷ says 1 60 command.Tick ∷ says 1 60 command.Tick ∷ says 1 60 command.Tick ∷ [])
    ≡ (
      Ok Idle ∷ Ok (Fired 2) ∷ Ok (Fired 3) ∷ Ok (Fired 1) ∷ Ok Idle ∷ [],
      at 0 Enrol ∷ at 0 (Start 1 None 50) ∷ at 0 (Start 2 None 40) ∷ at 0 (Start 3 None 40)
          ∷ at 60 (Cancel 2 cause.Limit) ∷ at 60 (End 2 action.Cancelled)
          ∷ at 60 (Cancel 3 cause.Limit) ∷ at 60 (End 3 action.Cancelled) ∷ at 60 (Cancel 1 cause.Limit)
          ∷ at 60 (End 1 action.Cancelled) ∷ [],
    )
unfolding steps clerks actions members asks last_moment parent top action_status limit_in_force children members_of
    depth action_of addresses_of has_left stays was_asked ask_of replies decided member_status last_reply was_answered
    is_outstanding outstanding_ask staying is_settled right_end top_has_ended facts_of next_settling wants repeats due
    late already_member block refused answer growth
fires_in_order = refl

abbrev limited : History
limited = at 0 Enrol ∷ at 0 (Start 1 None 100) ∷ []

-- version 2 renews limits
pub renews : run two limited (says 1 90 (command.Renew 1 100) ∷ says 1 90 (command.Renew 1 18446744073709551615)
    ∷ says 1 100 command.Tick ∷ says 1 189 command.Tick
    ∷ says 1 190 command.Tick ∷ says 1 191 (command.Renew 1 5) ∷ says 1 191 (command.Renew 2 5) ∷ [])
    ≡ (
      Ok Renewed ∷ Err LimitTooFar ∷ Ok Idle ∷ Ok Idle ∷ Ok (Fired 1) ∷ Err (NotActive action.Cancelled)
          ∷ Err NoSuchAction ∷ [],
      limited ++ at 90 (Renew 1 100) ∷ at 190 (Cancel 1 cause.Limit) ∷ at 190 (End 1 action.Cancelled) ∷ [],
    )
unfolding steps clerks actions members asks last_moment parent top action_status limit_in_force children members_of
    depth action_of addresses_of has_left stays was_asked ask_of replies decided member_status last_reply was_answered
    is_outstanding outstanding_ask staying is_settled right_end top_has_ended facts_of next_settling wants repeats due
    late already_member block refused answer growth
renews = refl

pub renews_not : run one limited (says 1 90 (command.Renew 2 100) ∷ says 2 90 (command.Renew 1 100) ∷ [])
    ≡ (Err OldJournal ∷ Err NoSuchClerk ∷ [], limited)
unfolding steps clerks actions members asks last_moment parent top action_status limit_in_force children members_of
    depth action_of addresses_of has_left stays was_asked ask_of replies decided member_status last_reply was_answered
    is_outstanding outstanding_ask staying is_settled right_end top_has_ended facts_of next_settling wants repeats due
    late already_member block refused answer growth
renews_not = refl

-- ---- nested actions, and what there may be too much of

abbrev nested : History
nested = at 0 Enrol ∷ at 0 (Start 1 None 0) ∷ at 1 (Start 2 (Some 1) 0) ∷ []

pub cancels : run one nested (says 1 5 (command.Cancel 1) ∷ says 1 6 (command.Cancel 1) ∷ says 1 6 (command.Cancel 2)
    ∷ says 1 6 (command.Close 2) ∷ [])
    ≡ (
      Ok (Now action.Cancelled) ∷ Ok (Already action.Cancelled) ∷ Ok (Already action.Cancelled)
          ∷ Err (NotActive action.Cancelled) ∷ [],
      nested ++ at 5 (Cancel 1 cause.Client) ∷ at 5 (Cancel 2 cause.Parent) ∷ at 5 (End 2 action.Cancelled)
          ∷ at 5 (End 1 action.Cancelled) ∷ [],
    )
unfolding steps clerks actions members asks last_moment parent top action_status limit_in_force children members_of
    depth action_of addresses_of has_left stays was_asked ask_of replies decided member_status last_reply was_answered
    is_outstanding outstanding_ask staying is_settled right_end top_has_ended facts_of next_settling wants repeats due
    late already_member block refused answer growth
cancels = refl

-- a nested action that has closed is taken back in version 2 alone
abbrev taking_back : List Call
taking_back = says 1 5 (command.Close 2) ∷ says 1 6 (command.Cancel 2) ∷ says 1 7 (command.Close 1) ∷ []

pub takes_back : run one nested taking_back ∷ run two nested taking_back ∷ []
    ≡ (
      Ok (Now action.Closed) ∷ Err (NotActive action.Closed) ∷ Ok (Now action.Closed) ∷ [],
      nested ++ at 5 (Close 2 cause.Client) ∷ at 5 (End 2 action.Closed) ∷ at 7 (Close 1 cause.Client)
          ∷ at 7 (End 1 action.Closed) ∷ [],
    )
    ∷ (
      Ok (Now action.Closed) ∷ Ok (Now action.Cancelled) ∷ Ok (Now action.Closed) ∷ [],
      nested ++ at 5 (Close 2 cause.Client) ∷ at 5 (End 2 action.Closed) ∷ at 6 (Cancel 2 cause.Client)
          ∷ at 6 (End 2 action.Cancelled) ∷ at 7 (Close 1 cause.Client)
          ∷ at 7 (End 1 action.Closed) ∷ [],
    )
    ∷ []
unfolding steps clerks actions members asks last_moment parent top action_status limit_in_force children members_of
    depth action_of addresses_of has_left stays was_asked ask_of replies decided member_status last_reply was_answered
    is_outstanding outstanding_ask staying is_settled right_end top_has_ended facts_of next_settling wants repeats due
    late already_member block refused answer growth
takes_back = refl

-- little room: two clerks, two actions, one member and four entries, nested two deep
abbrev small : Terms
small = record {
  version = version.One;
  limits = record usual {
    clerks = 2;
    actions = 2;
    members = 1;
    entries = 4;
    depth = 2;
  };
}

pub fills : run small [] (says 0 0 command.Enrol ∷ says 1 0 (command.Start None 0) ∷ says 1 1 (command.Start (Some 1) 0)
    ∷ says 1 1 (command.Start (Some 2) 0)
    ∷ says 1 1 (command.Start (Some 3) 0) ∷ says 1 1 (command.Start None 0) ∷ says 1 5 (command.Close 1)
    ∷ says 1 5 (command.Status 1) ∷ says 0 5 command.Enrol
    ∷ says 0 5 command.Enrol ∷ says 1 5 command.Restart ∷ says 1 5 command.Tick ∷ [])
    ≡ (
      Ok (Clerk 1) ∷ Ok (Action 1) ∷ Ok (Action 2) ∷ Err TooDeep ∷ Err NoSuchAction ∷ Err (Full resource.Actions)
          ∷ Err (Full resource.Entries)
          ∷ Ok (ActionIs action.Active) ∷ Ok (Clerk 2) ∷ Err (Full resource.Clerks) ∷ Err (Full resource.Entries)
          ∷ Ok Idle ∷ [],
      nested ++ (let e : Entry = record { by = 2; moment = 5; deed = Enrol } in e) ∷ [],
    )
unfolding steps clerks actions members asks last_moment parent top action_status limit_in_force children members_of
    depth action_of addresses_of has_left stays was_asked ask_of replies decided member_status last_reply was_answered
    is_outstanding outstanding_ask staying is_settled right_end top_has_ended facts_of next_settling wants repeats due
    late already_member block refused answer growth
fills = refl

-- ---- members

-- what is told of members that aren't asked
pub tells_of_members : run small (nested ++ at 2 (Join 1 1 (uris u None None None None)) ∷ [])
    (says 1 3 (command.Report 1 ending.Completed)
    ∷ says 1 3 (command.Leave 2 1) ∷ says 1 3 (command.Leave 1 2) ∷ says 1 3 (command.Report 2 ending.Completed)
    ∷ says 1 3 (command.MemberStatus 1)
    ∷ says 1 3 (command.MemberStatus 2) ∷ says 1 3 (join 1 no_addresses) ∷ says 1 3 (join 3 no_addresses) ∷ [])
    ≡ (
      Err NotAsked ∷ Err WrongAction ∷ Err NoSuchMember ∷ Err NoSuchMember ∷ Ok (MemberIs member.Active)
          ∷ Err NoSuchMember ∷ Err BadAddresses ∷ Err NoSuchAction
          ∷ [],
      nested ++ at 2 (Join 1 1 (uris u None None None None)) ∷ [],
    )
unfolding steps clerks actions members asks last_moment parent top action_status limit_in_force children members_of
    depth action_of addresses_of has_left stays was_asked ask_of replies decided member_status last_reply was_answered
    is_outstanding outstanding_ask staying is_settled right_end top_has_ended facts_of next_settling wants repeats due
    late already_member block refused answer growth
tells_of_members = refl

abbrev forget : Option (List ℕ)
forget = Some (codes "http://n.test/f")

abbrev after : Option (List ℕ)
after = Some (codes "http://n.test/a")

-- the least member with the same addresses that hasn't left
pub joined_before : already_member nest 2 (uris u c None forget after) ∷ already_member nest 2 (uris u c None None None)
    ∷ already_member nest 1 (uris u c None forget after) ∷ already_member (nest ++ at 3 (Leave 1) ∷ []) 2
    (uris u c None forget after) ∷ []
    ≡ Some 1 ∷ None ∷ None ∷ None ∷ []
unfolding members_of addresses_of has_left already_member
joined_before = refl

abbrev joined : History
joined = at 0 Enrol ∷ at 0 (Start 1 None 0) ∷ at 1 (Join 1 1 (uris u c None None None)) ∷ []

pub leaves : run one joined (says 1 2 (command.Leave 1 1) ∷ says 1 3 (command.Leave 1 1) ∷ says 1 4 (command.Close 1)
    ∷ says 1 5 (command.Close 1)
    ∷ says 1 6 command.NextAsk ∷ says 1 6 (command.Report 1 ending.Completed) ∷ [])
    ≡ (
      Ok Left ∷ Err HasLeft ∷ Ok (Now action.Closed) ∷ Ok (Already action.Closed) ∷ Ok Idle ∷ Err HasLeft ∷ [],
      joined ++ at 2 (Leave 1) ∷ at 4 (Close 1 cause.Client) ∷ at 4 (End 1 action.Closed) ∷ [],
    )
unfolding steps clerks actions members asks last_moment parent top action_status limit_in_force children members_of
    depth action_of addresses_of has_left stays was_asked ask_of replies decided member_status last_reply was_answered
    is_outstanding outstanding_ask staying is_settled right_end top_has_ended facts_of next_settling wants repeats due
    late already_member block refused answer growth
leaves = refl

-- a restart makes an ask void
pub restarts : run one joined (says 1 2 (command.Close 1) ∷ says 1 3 command.NextAsk ∷ says 1 4 command.Restart
    ∷ says 1 5 (reply 1 1 ask.Complete direction.Completion outcome.Done) ∷ says 1 6 command.NextAsk
    ∷ says 1 6 command.NextAsk ∷ [])
    ≡ (
      Ok (Now action.Closing) ∷ Ok (Asked 1) ∷ Ok Restarted ∷ Err NotAsked ∷ Ok (Asked 2) ∷ Ok Idle ∷ [],
      joined ++ at 2 (Close 1 cause.Client) ∷ at 3 (Ask 1 1 ask.Complete) ∷ at 4 Restart ∷ at 6 (Ask 2 1 ask.Complete)
          ∷ [],
    )
unfolding steps clerks actions members asks last_moment parent top action_status limit_in_force children members_of
    depth action_of addresses_of has_left stays was_asked ask_of replies decided member_status last_reply was_answered
    is_outstanding outstanding_ask staying is_settled right_end top_has_ended facts_of next_settling wants repeats due
    late already_member block refused answer growth
restarts = refl

-- a block that was torn is finished by the next command that writes
pub finishes : run one (at 0 Enrol ∷ at 0 (Start 1 None 0) ∷ at 1 (Join 1 1 (uris u None None None None))
    ∷ at 2 (Close 1 cause.Client) ∷ []) (says 0 9 command.Enrol
    ∷ says 2 9 command.Restart ∷ [])
    ≡ (
      Ok (Clerk 2) ∷ Ok Restarted ∷ [],
      at 0 Enrol ∷ at 0 (Start 1 None 0) ∷ at 1 (Join 1 1 (uris u None None None None)) ∷ at 2 (Close 1 cause.Client)
          ∷ map (λ (d : Deed). let e : Entry = record { by = 2; moment = 9; deed = d } in e)
          (Enrol ∷ Skip 1 ∷ End 1 action.Closed ∷ Restart ∷ []),
    )
unfolding steps clerks actions members asks last_moment parent top action_status limit_in_force children members_of
    depth action_of addresses_of has_left stays was_asked ask_of replies decided member_status last_reply was_answered
    is_outstanding outstanding_ask staying is_settled right_end top_has_ended facts_of next_settling wants repeats due
    late already_member block refused answer growth
finishes = refl

-- ---- asks

pub pauses : map (pause usual.retry_base usual.retry_cap) (1 ∷ 2 ∷ 3 ∷ 10 ∷ 11 ∷ []) ≡ 100 ∷ 200 ∷ 400 ∷ 51200 ∷ 60000
    ∷ []
pauses = refl

abbrev three_uris : Addresses
three_uris = uris u c (Some (codes "http://n.test/s")) None None

-- two members are completing: one said done, the other goes on by itself
abbrev two_members : History
two_members =
    at 0 Enrol ∷ at 10 (Start 1 None 0) ∷ at 11 (Join 1 1 three_uris) ∷ at 12 (Join 2 1 (uris u c None None None)) ∷ []

pub asks_both : run one two_members (says 1 20 (command.Close 1) ∷ says 1 21 command.NextAsk ∷ says 1 22 command.NextAsk
    ∷ says 1 23 (reply 2 2 ask.Complete direction.Completion outcome.Done)
    ∷ says 1 24 (reply 1 1 ask.Complete direction.Completion outcome.Accepted)
    ∷ says 1 30 (command.Report 1 ending.Completed) ∷ [])
    ≡ (
      Ok (Now action.Closing) ∷ Ok (Asked 1) ∷ Ok (Asked 2) ∷ Ok Recorded ∷ Ok Recorded
          ∷ Ok (MemberNow member.Completed) ∷ [],
      two_members ++ at 20 (Close 1 cause.Client) ∷ at 21 (Ask 1 1 ask.Complete) ∷ at 22 (Ask 2 2 ask.Complete)
          ∷ at 23 (Reply 2 outcome.Done)
          ∷ at 24 (Reply 1 outcome.Accepted) ∷ at 30 (Report 1 outcome.Done) ∷ at 30 (End 1 action.Closed) ∷ [],
    )
unfolding steps clerks actions members asks last_moment parent top action_status limit_in_force children members_of
    depth action_of addresses_of has_left stays was_asked ask_of replies decided member_status last_reply was_answered
    is_outstanding outstanding_ask staying is_settled right_end top_has_ended facts_of next_settling wants repeats due
    late already_member block refused answer growth
asks_both = refl

abbrev accepted : History
accepted = two_members ++ at 20 (Close 1 cause.Client) ∷ at 21 (Ask 1 1 ask.Complete) ∷ at 22 (Ask 2 2 ask.Complete)
    ∷ at 23 (Reply 2 outcome.Done) ∷ at 24 (Reply 1 outcome.Accepted) ∷ []

-- it is asked for its status 100 milliseconds later; what it replies once it has reported changes nothing
pub asks_for_status : run one accepted (says 1 123 command.NextAsk ∷ says 1 124 command.NextAsk
    ∷ says 1 129 (command.Report 1 ending.Compensated)
    ∷ says 1 130 (command.Report 1 ending.Completed) ∷ says 1 131 (command.Report 1 ending.FailedToComplete)
    ∷ says 1 132 (reply 3 1 ask.Status direction.Completion outcome.Failed) ∷ says 1 133 (command.MemberStatus 1) ∷ [])
    ≡ (
      Ok Idle ∷ Ok (Asked 3) ∷ Err NotAsked ∷ Ok (MemberNow member.Completed) ∷ Ok (MemberAlready member.Completed)
          ∷ Ok Recorded ∷ Ok (MemberIs member.Completed) ∷ [],
      accepted ++ at 124 (Ask 3 1 ask.Status) ∷ at 130 (Report 1 outcome.Done) ∷ at 130 (End 1 action.Closed)
          ∷ at 132 (Reply 3 outcome.Failed) ∷ [],
    )
unfolding steps clerks actions members asks last_moment parent top action_status limit_in_force children members_of
    depth action_of addresses_of has_left stays was_asked ask_of replies decided member_status last_reply was_answered
    is_outstanding outstanding_ask staying is_settled right_end top_has_ended facts_of next_settling wants repeats due
    late already_member block refused answer growth
asks_for_status = refl

-- the second repetition waits for 200 milliseconds
pub waits_longer : run one accepted (says 1 124 command.NextAsk ∷ says 1 140
    (reply 3 1 ask.Status direction.Completion outcome.Accepted) ∷ says 1 339 command.NextAsk
    ∷ says 1 340 command.NextAsk ∷ says 1 341 (reply 4 1 ask.Complete direction.Completion outcome.Done)
    ∷ says 1 342 (reply 4 1 ask.Status direction.Completion outcome.Done) ∷ [])
    ≡ (
      Ok (Asked 3) ∷ Ok Recorded ∷ Ok Idle ∷ Ok (Asked 4) ∷ Err NotAsked ∷ Ok Recorded ∷ [],
      accepted ++ at 124 (Ask 3 1 ask.Status) ∷ at 140 (Reply 3 outcome.Accepted) ∷ at 340 (Ask 4 1 ask.Status)
          ∷ at 342 (Reply 4 outcome.Done) ∷ at 342 (End 1 action.Closed) ∷ [],
    )
unfolding steps clerks actions members asks last_moment parent top action_status limit_in_force children members_of
    depth action_of addresses_of has_left stays was_asked ask_of replies decided member_status last_reply was_answered
    is_outstanding outstanding_ask staying is_settled right_end top_has_ended facts_of next_settling wants repeats due
    late already_member block refused answer growth
waits_longer = refl

-- what is due at once comes before what was due since
pub asks_in_order : run one (two_members ++ at 20 (Close 1 cause.Client) ∷ at 21 (Ask 1 1 ask.Complete)
    ∷ at 24 (Reply 1 outcome.Silent) ∷ []) (says 1 200 command.NextAsk
    ∷ says 1 200 command.NextAsk ∷ [])
    ≡ (
      Ok (Asked 2) ∷ Ok (Asked 3) ∷ [],
      two_members ++ at 20 (Close 1 cause.Client) ∷ at 21 (Ask 1 1 ask.Complete) ∷ at 24 (Reply 1 outcome.Silent)
          ∷ at 200 (Ask 2 2 ask.Complete) ∷ at 200 (Ask 3 1 ask.Complete) ∷ [],
    )
unfolding steps clerks actions members asks last_moment parent top action_status limit_in_force children members_of
    depth action_of addresses_of has_left stays was_asked ask_of replies decided member_status last_reply was_answered
    is_outstanding outstanding_ask staying is_settled right_end top_has_ended facts_of next_settling wants repeats due
    late already_member block refused answer growth
asks_in_order = refl

-- ---- a member of a nested action

abbrev completes : ℕ → Outcome → Command
completes n o = reply n 1 ask.Complete direction.Completion o

abbrev compensates : ℕ → Outcome → Command
compensates n o = reply n 1 ask.Compensate direction.Compensation o

abbrev hears : ℕ → AskKind → Outcome → Command
hears n kind o = reply n 1 kind direction.Neither o

-- the nested action closes, the outer one is cancelled, and the member hears of its end
pub undoes : run one nest (says 1 3 (command.Close 2) ∷ says 1 4 command.NextAsk ∷ says 1 5 (completes 1 outcome.Done)
    ∷ says 1 6 (command.Cancel 1)
    ∷ says 1 7 command.NextAsk ∷ says 1 8 (compensates 2 outcome.Done) ∷ says 1 9 command.NextAsk
    ∷ says 1 10 (hears 3 ask.After outcome.Silent)
    ∷ says 1 109 command.NextAsk ∷ says 1 110 command.NextAsk ∷ says 1 111 (hears 4 ask.After outcome.Done)
    ∷ says 1 112 command.NextAsk ∷ [])
    ≡ (
      Ok (Now action.Closing) ∷ Ok (Asked 1) ∷ Ok Recorded ∷ Ok (Now action.Cancelling) ∷ Ok (Asked 2) ∷ Ok Recorded
          ∷ Ok (Asked 3) ∷ Ok Recorded ∷ Ok Idle
          ∷ Ok (Asked 4) ∷ Ok Recorded ∷ Ok Idle ∷ [],
      undone,
    )
unfolding steps clerks actions members asks last_moment parent top action_status limit_in_force children members_of
    depth action_of addresses_of has_left stays was_asked ask_of replies decided member_status last_reply was_answered
    is_outstanding outstanding_ask staying is_settled right_end top_has_ended facts_of next_settling wants repeats due
    late already_member block refused answer growth
undoes = refl

-- the outer action is cancelled while the nested one is closing
pub cancels_meanwhile : run one nest (says 1 3 (command.Close 2) ∷ says 1 4 command.NextAsk
    ∷ says 1 5 (command.Cancel 1) ∷ says 1 6 (completes 1 outcome.Done) ∷ [])
    ≡ (
      Ok (Now action.Closing) ∷ Ok (Asked 1) ∷ Ok (Now action.Cancelling) ∷ Ok Recorded ∷ [],
      nest ++ at 3 (Close 2 cause.Client) ∷ at 4 (Ask 1 1 ask.Complete) ∷ at 5 (Cancel 1 cause.Client)
          ∷ at 6 (Reply 1 outcome.Done) ∷ at 6 (End 2 action.Closed)
          ∷ at 6 (Cancel 2 cause.Parent) ∷ [],
    )
unfolding steps clerks actions members asks last_moment parent top action_status limit_in_force children members_of
    depth action_of addresses_of has_left stays was_asked ask_of replies decided member_status last_reply was_answered
    is_outstanding outstanding_ask staying is_settled right_end top_has_ended facts_of next_settling wants repeats due
    late already_member block refused answer growth
cancels_meanwhile = refl

-- the member fails, and is told to forget
pub fails : run one nest (says 1 3 (command.Close 2) ∷ says 1 4 command.NextAsk ∷ says 1 5 (completes 1 outcome.Failed)
    ∷ says 1 6 (command.Close 1)
    ∷ says 1 7 command.NextAsk ∷ says 1 8 (hears 2 ask.Forget outcome.Done) ∷ says 1 9 command.NextAsk ∷ [])
    ≡ (
      Ok (Now action.Closing) ∷ Ok (Asked 1) ∷ Ok Recorded ∷ Ok (Now action.FailedToClose) ∷ Ok (Asked 2) ∷ Ok Recorded
          ∷ Ok (Asked 3) ∷ [],
      failing,
    )
unfolding steps clerks actions members asks last_moment parent top action_status limit_in_force children members_of
    depth action_of addresses_of has_left stays was_asked ask_of replies decided member_status last_reply was_answered
    is_outstanding outstanding_ask staying is_settled right_end top_has_ended facts_of next_settling wants repeats due
    late already_member block refused answer growth
fails = refl

-- the nested action is cancelled, and the outer one closes
pub cancels_below : run one nest (says 1 3 (command.Cancel 2) ∷ says 1 4 command.NextAsk
    ∷ says 1 5 (compensates 1 outcome.Done) ∷ says 1 6 (command.Close 1)
    ∷ []) ≡ (Ok (Now action.Cancelling) ∷ Ok (Asked 1) ∷ Ok Recorded ∷ Ok (Now action.Closed) ∷ [], cancelled_below)
unfolding steps clerks actions members asks last_moment parent top action_status limit_in_force children members_of
    depth action_of addresses_of has_left stays was_asked ask_of replies decided member_status last_reply was_answered
    is_outstanding outstanding_ask staying is_settled right_end top_has_ended facts_of next_settling wants repeats due
    late already_member block refused answer growth
cancels_below = refl

-- it closes, and is taken back in version 2
pub takes_member_back : run two nest (says 1 3 (command.Close 2) ∷ says 1 4 command.NextAsk
    ∷ says 1 5 (completes 1 outcome.Done) ∷ says 1 6 (command.Cancel 2)
    ∷ says 1 7 command.NextAsk ∷ says 1 8 (compensates 2 outcome.Done) ∷ says 1 9 (command.Close 1) ∷ [])
    ≡ (
      Ok (Now action.Closing) ∷ Ok (Asked 1) ∷ Ok Recorded ∷ Ok (Now action.Cancelling) ∷ Ok (Asked 2) ∷ Ok Recorded
          ∷ Ok (Now action.Closed) ∷ [],
      taken_back,
    )
unfolding steps clerks actions members asks last_moment parent top action_status limit_in_force children members_of
    depth action_of addresses_of has_left stays was_asked ask_of replies decided member_status last_reply was_answered
    is_outstanding outstanding_ask staying is_settled right_end top_has_ended facts_of next_settling wants repeats due
    late already_member block refused answer growth
takes_member_back = refl
