-- What the code finds of listings.
use Rattle.std.specs.Prelude.{ℕ, ◌+◌, length, Option, option_map, slice_get}
use Rattle.std.specs.Option.{option_and_then}
use Rattle.lra_model.specs.declared.asks.AskKind.{AskKind}
use Rattle.lra_model.specs.History.{History, actions}
use Rattle.lra_model.specs.Actions.{children, members_of}
use Rattle.lra_rows.specs.declared.found.ActionRow.{ActionRow}
use Rattle.lra_rows.specs.declared.found.MemberRow.{MemberRow}
use Rattle.lra_rows.specs.Found.{found_action, found_member}
use Rattle.lra_commands.specs.declared.query.Listing.{Listing}
use Rattle.lra_commands.specs.declared.query.Listing.TheVariants as listing
use Rattle.lra_commands.specs.declared.query.Row.{Row}
use Rattle.lra_commands.specs.declared.query.Row.TheVariants as row
use Rattle.lra_commands.specs.declared.query.Want.{Want}
use Rattle.lra_commands.specs.declared.query.QueryResult.{QueryResult}
use Rattle.lra_commands.specs.declared.query.QueryResult.TheVariants as known
use Rattle.lra_commands.specs.declared.limits.Limits.{Limits}
use Rattle.lra_commands.specs.Due.{due_after}
use Rattle.lra_commands.specs.Queries.{belongs}
use Rattle.lra_validator.specs.inner.Told.{told_at}

-- what a member is to be asked next, by its row
abbrev pub want_in : Limits → MemberRow → Option Want
want_in l r = option_map (λ (kind : AskKind). record { kind = kind; repeats = r.k; due = due_after l r.k r.last })
    r.want

-- the row of a member, if it is there
abbrev pub member_found : Limits → History → ℕ → Option Row
member_found l J p = option_map (λ (r : MemberRow). row.Member p r.status r.outstanding (want_in l r))
    (found_member J p)

-- the row of an action, if it is there
abbrev pub action_found : History → ℕ → Option Row
action_found J a = option_map (λ (r : ActionRow). row.Action a r.status r.parent) (found_action J a)

-- how many rows a listing goes along
abbrev pub count_listed : History → Listing → ℕ
count_listed J (listing.Members a) = length (members_of J a)
count_listed J (listing.Nested a) = length (children J a)
count_listed J (listing.Actions status) = length (actions J)

-- the row at a place, if there is one: of all actions, that of the number after it
abbrev pub row_at : Limits → History → Listing → ℕ → Option Row
row_at l J (listing.Members a) place = option_and_then (member_found l J) (slice_get (members_of J a) place)
row_at l J (listing.Nested a) place = option_and_then (action_found J) (slice_get (children J a) place)
row_at l J (listing.Actions status) place = action_found J (place + 1)

-- what a query returns of the row at a place, if there is one that belongs to the listing
abbrev pub look_listed : Limits → History → Listing → ℕ → Option QueryResult
look_listed l J x place = told_at (belongs x) known.Row place (row_at l J x place)
