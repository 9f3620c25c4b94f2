-- Rows from a place on, and what a query returns of them.
use Rattle.std.specs.Prelude.{◌≡◌, ℕ, zero, suc, ◌+◌, nat_lt, length, Option, unwrap_or, cond}
use Rattle.lra_model.specs.History.{History}
use Rattle.lra_commands.specs.declared.query.QueryResult.{QueryResult}
use Rattle.lra_commands.specs.declared.query.QueryResult.TheVariants as known
use Rattle.lra_commands.specs.declared.limits.Limits.{Limits}
use Rattle.lra_commands.specs.Refusals.{status_at}
use Rattle.lra_commands.specs.Queries.{most_rows, awaited_from, row_from}
use Rattle.lra_validator.specs.declared.walk.Walk.{Walk}
use Rattle.lra_validator.specs.declared.walk.Walk.TheVariants as walk
use Rattle.lra_validator.specs.inner.Blocker.{found_rows, look_awaited}
use Rattle.lra_validator.specs.inner.Listed.{count_listed, look_listed}

-- what is returned first from a place on, of so many places, or else what is returned where nothing is found
unfoldable pub first_some : (ℕ → Option QueryResult) → QueryResult → ℕ → ℕ → QueryResult
first_some look none at zero = none
first_some look none at (suc n) = unwrap_or (look at) (first_some look none (at + 1) n)

-- how many rows there are
abbrev pub count_rows : History → Walk → ℕ
count_rows J (walk.Awaited a status) = length (found_rows J a)
count_rows J (walk.Listed l) = count_listed J l

-- what a query returns of the row at a place, if it returns anything
abbrev pub look : Limits → History → Walk → ℕ → Option QueryResult
look l J (walk.Awaited a status) place = look_awaited J a status place
look l J (walk.Listed x) place = look_listed l J x place

-- what a query returns where it returns no row from any place on
abbrev pub last_of : Walk → QueryResult
last_of (walk.Awaited a status) = known.AwaitsNothing
last_of (walk.Listed l) = known.NoMore

-- what a query returns where it returns none of the rows looked at, of so many
abbrev pub none_told : QueryResult → ℕ → ℕ → QueryResult
none_told last rows place = cond (nat_lt (place + most_rows) rows) (known.Further (place + most_rows)) last

-- what is found from a place on is what the query returns, along the rows of an action by its status
abbrev pub IsTold : Limits → History → Walk → ℕ → QueryResult → Type 0
IsTold l J (walk.Awaited a status) place k = status ≡ status_at J a → k ≡ awaited_from J a place
IsTold l J (walk.Listed x) place k = k ≡ row_from l J x place
