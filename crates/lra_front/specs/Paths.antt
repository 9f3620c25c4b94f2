-- Paths that are served, and what a router finds.
use Rattle.std.specs.Prelude.{ℕ, List, [], ◌∷◌, Option, option_map, Result, Ok, Err}
use Rattle.matchit.specs.Rows.{RowsOf}
use Rattle.matchit.specs.Route.{Scan, parse_route}
use Rattle.matchit.specs.Order.{placed}
use Rattle.matchit.specs.Router.{RouteOf, route_from}
use Rattle.matchit.specs.Seek.{first}
use Rattle.matchit.specs.declared.error.InsertError.{InsertError}

-- the rows of a router with one path more, as `matchit` reads it
abbrev pub with_scan : {P : Type 0} → Result Scan InsertError → P → RowsOf (RouteOf P) → RowsOf (RouteOf P)
with_scan (Ok scan) p rows = placed (scan.pattern, route_from scan p) rows
with_scan (Err error) p rows = rows

-- the rows of a router with the path of one more entry
abbrev pub with_path : {P : Type 0} → (P → List ℕ) → P → RowsOf (RouteOf P) → RowsOf (RouteOf P)
with_path path_of p rows = with_scan (parse_route (path_of p)) p rows

-- the rows of a router with the paths of more entries
abbrev pub with_paths : {P : Type 0} → (P → List ℕ) → List P → RowsOf (RouteOf P) → RowsOf (RouteOf P)
with_paths path_of [] rows = rows
with_paths path_of (p ∷ rest) rows = with_paths path_of rest (with_path path_of p rows)

-- the entry of a table that matches a path, as `matchit` finds it
abbrev pub served_at : {P : Type 0} → (P → List ℕ) → List P → List ℕ → Option P
served_at path_of all path = option_map (λ r. r.value) (first (with_paths path_of all []) path)
