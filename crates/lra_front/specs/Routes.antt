-- The operation that the path and the method of a request ask for.
use Rattle.std.specs.Prelude.{ℕ, List, ◌==◌, Bool, if◌then◌else◌, Option, None, Result, Ok, Err}
use Rattle.std.specs.List.{list_any, before_first, after_first}
use Rattle.std.specs.Option.{option_map_or}
use Rattle.lra_front.specs.declared.operation.Resource.{Resource}
use Rattle.lra_front.specs.declared.operation.Operation.{Operation}
use Rattle.lra_front.specs.declared.api_error.ApiError.{ApiError}
use Rattle.lra_front.specs.declared.api_error.ApiError.TheVariants.{NoSuchPath, BadMethod}
use Rattle.lra_front.specs.Operations.{resources, path_of, operation_at}
use Rattle.lra_front.specs.Paths.{served_at}

-- ---- paths

-- whether a target has a query, which its first question mark begins (RFC 3986, section 3.4)
abbrev pub has_query : List ℕ → Bool
has_query target = list_any (λ b. b == 63) target

-- the resource that a target names: the one whose path `matchit` finds for it. A target names nothing where it has a
-- query, wherever that stands, or is in absolute form.
unfoldable pub place_of : List ℕ → Option Resource
place_of target = if has_query target then None else served_at path_of resources target

-- a slash
abbrev pub is_slash : ℕ → Bool
is_slash b = b == 47

-- the piece of a target that is the ID of its path: the text between its second and its third slash
unfoldable pub id_in : List ℕ → List ℕ
id_in target = before_first is_slash (after_first is_slash (after_first is_slash target))

-- ---- operations

-- the operation that a method asks for at a resource, or the API error where the resource doesn't accept the method
abbrev pub asked_at : List ℕ → Resource → Result Operation ApiError
asked_at method p = option_map_or Ok (operation_at method p) (Err (BadMethod p))

-- the operation that a request asks for. The path is checked first, then the method.
abbrev pub operation_of : List ℕ → List ℕ → Result Operation ApiError
operation_of method target = option_map_or (asked_at method) (place_of target) (Err NoSuchPath)
