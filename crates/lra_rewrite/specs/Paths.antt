-- Targets that begin with the path of a base.
use Rattle.std.specs.Prelude.{ℕ, Bool, ◌||◌, if◌then◌else◌, nat_eq, List, [], ◌∷◌, ◌++◌, length, drop, codes, Option}
use Rattle.std.specs.Prelude.{Some, None, is_none, option_map, option_and_then}
use Rattle.std.specs.List.{after_first, starts_with}
use Rattle.lra_front.specs.Routes.{is_slash}

-- what follows a prefix in a text, if the text begins with it
abbrev pub behind : List ℕ → List ℕ → Option (List ℕ)
behind front text = if starts_with nat_eq text front then Some (drop (length front) text) else None

-- a text begins as all paths that are served do, but for their first slash
abbrev pub is_served : List ℕ → Bool
is_served text = starts_with nat_eq text (codes "lra-coordinator") || starts_with nat_eq text (codes "lra-recovery")

-- what follows a prefix in a text, if the text begins with it and goes on as a path that is served
unfoldable pub served_behind : List ℕ → List ℕ → Option (List ℕ)
served_behind front text = option_and_then (λ rest. if is_served rest then Some rest else None) (behind front text)

-- the path of a base (RFC 3986, section 3.3) without its first slash: what follows the third slash of the base
unfoldable pub path_of : List ℕ → List ℕ
path_of base = after_first is_slash (after_first is_slash (after_first is_slash base))

-- what follows that path in a target (RFC 9112, section 3.2.1), if a proxy passed it on; a base whose path is `/` alone
-- has none to pass on
abbrev pub passed_on : List ℕ → List ℕ → Option (List ℕ)
passed_on [] target = None
passed_on (b ∷ path) target = option_and_then (served_behind (b ∷ path)) (behind (codes "/") target)

-- a target isn't under the path of the base, as a proxy passes it on
abbrev pub is_outside : List ℕ → List ℕ → Bool
is_outside base target = is_none (passed_on (path_of base) target)

-- the target that a target means, if that is another (this project's choice): the same without the path of the base,
-- but with its slash
abbrev pub other_target : List ℕ → List ℕ → Option (List ℕ)
other_target base target = option_map (λ rest. codes "/" ++ rest) (passed_on (path_of base) target)
