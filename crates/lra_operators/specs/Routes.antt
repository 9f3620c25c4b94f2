-- The operations that the path and the method of a request ask for.
use Rattle.std.specs.Prelude.{ℕ, List, ◌==◌, Bool, if◌then◌else◌, bytes_eq, Option, Result, Ok, Err}
use Rattle.std.specs.List.{before_first, after_first}
use Rattle.std.specs.Option.{option_map_or}
use Rattle.lra_front.specs.Paths.{served_at}
use Rattle.lra_operators.specs.declared.operation.Operation.{Operation}
use Rattle.lra_operators.specs.declared.route.Unserved.{Unserved}
use Rattle.lra_operators.specs.declared.route.Unserved.TheVariants.{NoSuchPath, BadMethod}
use Rattle.lra_operators.specs.Operations.{operations, path, method}

-- ---- paths

-- a slash
abbrev pub is_slash : ℕ → Bool
is_slash b = b == 47

-- a question mark
abbrev pub is_mark : ℕ → Bool
is_mark b = b == 63

-- the path of a target: its query follows (RFC 3986, section 3.4)
abbrev pub path_in : List ℕ → List ℕ
path_in target = before_first is_mark target

-- the piece of a path that has the ID: what stands between its second and its third slash
unfoldable pub id_in : List ℕ → List ℕ
id_in path = before_first is_slash (after_first is_slash (after_first is_slash path))

-- the operation whose path a target has, as `matchit` finds it, whatever the target's query
unfoldable pub operation_at : List ℕ → Option Operation
operation_at target = served_at path operations (path_in target)

-- ---- methods

-- what a method asks for at the path of an operation, if the path accepts it; methods are case-sensitive (RFC 9110,
-- section 9.1)
abbrev pub asked_at : List ℕ → Operation → Result Operation Unserved
asked_at m o = if bytes_eq m (method o) then Ok o else Err (BadMethod o)

-- what a request asks for: its path decides first, then its method
abbrev pub operation_of : List ℕ → List ℕ → Result Operation Unserved
operation_of m target = option_map_or (asked_at m) (operation_at target) (Err NoSuchPath)
