-- What queries are told of small histories, worked out by hand.
use Rattle.std.proofs.Common.{◌≡◌, List, [], ◌∷◌, ◌++◌, Some, None, Ok, Err, refl, map}
use Rattle.std.specs.Prelude.{Result}
use Rattle.lra_model.specs.declared.status.ActionStatus.TheVariants as action
use Rattle.lra_model.specs.declared.status.MemberStatus.TheVariants as member
use Rattle.lra_model.specs.declared.asks.AskKind.TheVariants as ask
use Rattle.lra_model.specs.declared.asks.Outcome.TheVariants as outcome
use Rattle.lra_model.specs.declared.asks.Cause.TheVariants as cause
use Rattle.lra_model.specs.declared.entry.Entry.{Entry}
use Rattle.lra_model.specs.declared.entry.Deed.TheVariants.{Enrol, Start, Join, Leave, Close, Cancel, Ask, Reply}
use Rattle.lra_model.specs.declared.entry.Deed.TheVariants.{Restart}
use Rattle.lra_model.specs.History.{History, steps, clerks, actions, members, asks, last_moment}
use Rattle.lra_model.specs.Actions.{parent, top, action_status, limit_in_force, children, members_of, depth}
use Rattle.lra_model.specs.Members.{action_of, addresses_of, has_left, stays, was_asked, ask_of, replies, decided}
use Rattle.lra_model.specs.Members.{member_status, last_reply, was_answered, is_outstanding, outstanding_ask}
use Rattle.lra_model.specs.Ends.{staying, is_settled, right_end, top_has_ended}
use Rattle.lra_model.specs.Facts.{facts_of}
use Rattle.lra_model.specs.Wants.{wants, repeats}
use Rattle.lra_laws.proofs.Worked.{at, u, c, uris, nest}
use Rattle.lra_commands.specs.declared.query.Query.{Query}
use Rattle.lra_commands.specs.declared.query.Query.TheVariants.{ActionStatus, MemberStatus, Awaited, Row, Count}
use Rattle.lra_commands.specs.declared.query.Blocker.TheVariants.{Member, Action}
use Rattle.lra_commands.specs.declared.query.Listing.TheVariants.{Members, Nested, Actions}
use Rattle.lra_commands.specs.declared.query.Row.TheVariants as row
use Rattle.lra_commands.specs.declared.query.QueryResult.{QueryResult}
use Rattle.lra_commands.specs.declared.query.QueryResult.TheVariants as known
use Rattle.lra_commands.specs.declared.query.QueryResult.TheVariants.{ActionIs, MemberIs, Awaits, AwaitsNothing, NoMore}
use Rattle.lra_commands.specs.declared.query.QueryResult.TheVariants.{Counted}
use Rattle.lra_commands.specs.declared.refusal.Refusal.{Refusal}
use Rattle.lra_commands.specs.declared.refusal.Refusal.TheVariants.{NoSuchAction, NoSuchMember}
use Rattle.lra_commands.specs.Terms.{usual}
use Rattle.lra_commands.specs.Queries.{rows_of, awaited_from, rows_along, row_from, count_from, tell}

-- what queries are told, in their order
abbrev told : History → List Query → List (Result QueryResult Refusal)
told J qs = map (tell usual J) qs

-- an action that closes waits for the one nested in it, and that for its member
pub nested_waits : told (nest ++ at 3 (Close 1 cause.Client) ∷ at 3 (Close 2 cause.Parent) ∷ at 4 (Ask 1 1 ask.Complete)
    ∷ [])
    (ActionStatus 1 ∷ MemberStatus 1 ∷ Awaited 1 0 ∷ Awaited 1 1 ∷ Awaited 2 0 ∷ Awaited 2 1 ∷ ActionStatus 3
    ∷ MemberStatus 2 ∷ Awaited 3 0 ∷ [])
    ≡ (
    Ok (ActionIs action.Closing) ∷ Ok (MemberIs member.Completing) ∷ Ok (Awaits 0 (Action 2)) ∷ Ok AwaitsNothing
    ∷ Ok (Awaits 0 (Member 1 (Some 1))) ∷ Ok AwaitsNothing
    ∷ Err NoSuchAction ∷ Err NoSuchMember ∷ Err NoSuchAction ∷ []
    )
unfolding steps actions members action_status children members_of addresses_of has_left stays was_asked ask_of decided
    member_status is_outstanding outstanding_ask rows_of awaited_from tell
nested_waits = refl

-- an action with four members: one that only listens, one that has left, one that has completed, and one whose ask a
-- restart made void
abbrev four_members : History
four_members =
    at 0 Enrol ∷ at 0 (Start 1 None 0) ∷ at 1 (Join 1 1 (uris None None None None u))
    ∷ at 1 (Join 2 1 (uris u c None None None)) ∷ at 2 (Leave 2) ∷ at 2 (Join 3 1 (uris u c None None None))
    ∷ at 2 (Join 4 1 (uris u c None None None)) ∷ at 3 (Close 1 cause.Client) ∷ at 4 (Ask 1 3 ask.Complete)
    ∷ at 5 (Ask 2 4 ask.Complete) ∷ at 6 (Reply 1 outcome.Done) ∷ []

-- it waits for the last alone
pub passes_over : told four_members (Awaited 1 0 ∷ Awaited 1 3 ∷ Awaited 1 4 ∷ [])
    ≡ (Ok (Awaits 3 (Member 4 (Some 2))) ∷ Ok (Awaits 3 (Member 4 (Some 2))) ∷ Ok AwaitsNothing ∷ [])
unfolding steps actions members action_status children members_of addresses_of has_left stays was_asked ask_of decided
    member_status is_outstanding outstanding_ask rows_of awaited_from tell
passes_over = refl

-- no ask of it is outstanding after a restart
pub forgets_void_asks : told (four_members ++ at 7 Restart ∷ []) (Awaited 1 0 ∷ [])
    ≡ (Ok (Awaits 3 (Member 4 None)) ∷ [])
unfolding steps actions members action_status children members_of addresses_of has_left stays was_asked ask_of decided
    member_status is_outstanding outstanding_ask rows_of awaited_from tell
forgets_void_asks = refl

-- an action that is Active waits for nothing, and one that is Cancelling for its member
pub cancels : told (nest ++ at 3 (Cancel 2 cause.Client) ∷ []) (Awaited 1 0 ∷ Awaited 2 0 ∷ [])
    ≡ (Ok AwaitsNothing ∷ Ok (Awaits 0 (Member 1 None)) ∷ [])
unfolding steps actions members action_status children members_of addresses_of has_left stays was_asked ask_of decided
    member_status is_outstanding outstanding_ask rows_of awaited_from tell
cancels = refl

-- the members of an action, those that left among them, with what was asked of the one that a restart didn't free yet
pub lists_members : told four_members (Row (Members 1) 0 ∷ Row (Members 1) 1 ∷ Row (Members 1) 2 ∷ Row (Members 1) 3
    ∷ Row (Members 1) 4 ∷ Row (Members 2) 0 ∷ [])
    ≡ (
    Ok (known.Row 0 (row.Member 1 member.Active None None)) ∷ Ok (known.Row 1 (row.Member 2 member.Left None None))
    ∷ Ok (known.Row 2 (row.Member 3 member.Completed None None))
    ∷ Ok (known.Row 3 (row.Member 4 member.Completing (Some 2) None)) ∷ Ok NoMore ∷ Err NoSuchAction ∷ []
    )
unfolding steps clerks actions members asks last_moment parent top action_status limit_in_force children members_of
    depth action_of addresses_of has_left stays was_asked ask_of replies decided member_status last_reply was_answered
    is_outstanding outstanding_ask staying is_settled right_end top_has_ended facts_of wants repeats rows_along row_from
    tell
lists_members = refl

-- the actions nested in an action, and all that have a status: where that at the place hasn't, the next that has
pub lists_actions : told (nest ++ at 3 (Close 2 cause.Client) ∷ [])
    (Row (Nested 1) 0 ∷ Row (Nested 1) 1 ∷ Row (Nested 2) 0 ∷ Row (Nested 3) 0 ∷ Row (Actions None) 0
    ∷ Row (Actions None) 1 ∷ Row (Actions None) 2
    ∷ Row (Actions (Some action.Closing)) 0 ∷ Row (Actions (Some action.Active)) 1 ∷ [])
    ≡ (
    Ok (known.Row 0 (row.Action 2 action.Closing (Some 1))) ∷ Ok NoMore ∷ Ok NoMore ∷ Err NoSuchAction
    ∷ Ok (known.Row 0 (row.Action 1 action.Active None))
    ∷ Ok (known.Row 1 (row.Action 2 action.Closing (Some 1))) ∷ Ok NoMore
    ∷ Ok (known.Row 1 (row.Action 2 action.Closing (Some 1))) ∷ Ok NoMore ∷ []
    )
unfolding steps actions members parent action_status children members_of addresses_of has_left stays was_asked ask_of
    decided member_status is_outstanding outstanding_ask rows_along row_from tell
lists_actions = refl

-- what a member is to be asked: at once, and again after a pause, which gets longer
abbrev of_member : List Entry → List (Result QueryResult Refusal)
of_member later = told (nest ++ at 3 (Close 2 cause.Client) ∷ later) (Row (Members 2) 0 ∷ [])

pub tells_wants : of_member [] ++ of_member (at 4 (Ask 1 1 ask.Complete) ∷ at 5 (Reply 1 outcome.Silent) ∷ [])
    ++ of_member (at 4 (Ask 1 1 ask.Complete) ∷ at 5 (Reply 1 outcome.Silent) ∷ at 105 (Ask 2 1 ask.Complete)
    ∷ at 106 (Reply 2 outcome.Silent) ∷ [])
    ≡ (
    Ok (known.Row 0 (row.Member 1 member.Active None (Some (record { kind = ask.Complete; repeats = 0; due = 0 }))))
    ∷ Ok (known.Row 0 (row.Member 1 member.Completing None
    (Some (record { kind = ask.Complete; repeats = 1; due = 105 }))))
    ∷ Ok (known.Row 0 (row.Member 1 member.Completing None
    (Some (record { kind = ask.Complete; repeats = 2; due = 306 })))) ∷ []
    )
unfolding steps clerks actions members asks last_moment parent top action_status limit_in_force children members_of
    depth action_of addresses_of has_left stays was_asked ask_of replies decided member_status last_reply was_answered
    is_outstanding outstanding_ask staying is_settled right_end top_has_ended facts_of wants repeats rows_along row_from
    tell
tells_wants = refl

-- how many there are, by their status, and from a place on
pub counts_rows : told (nest ++ at 3 (Close 2 cause.Client) ∷ []) (Count (Actions None) 0
    ∷ Count (Actions (Some action.Closing)) 0 ∷ Count (Actions None) 1 ∷ Count (Nested 1) 0 ∷ Count (Members 2) 1
    ∷ Count (Members 3) 0 ∷ [])
    ≡ (Ok (Counted 2 None) ∷ Ok (Counted 1 None) ∷ Ok (Counted 1 None) ∷ Ok (Counted 1 None) ∷ Ok (Counted 0 None)
    ∷ Err NoSuchAction ∷ [])
unfolding steps actions members parent action_status children members_of addresses_of has_left stays was_asked ask_of
    decided member_status is_outstanding outstanding_ask rows_along count_from tell
counts_rows = refl
