-- The addresses of a member, as texts.
use Rattle.std.specs.Prelude.{ℕ, Bool, List, Option, String, option_map, is_some}
use Rattle.std.specs.Global.{Global}
use Rattle.std.specs.String.{string_bytes}

-- the bytes of an address, where there is one (this project's choice)
abbrev pub text_of : Option (String Global) → Option (List ℕ)
text_of o = option_map string_bytes o

-- the addresses that a member may have, each the bytes of a URL (MicroProfile LRA 2.0, the participant's callbacks)
pub record Addresses : Type 0 where
  pub compensate : Option (List ℕ)
  pub complete : Option (List ℕ)
  pub status : Option (List ℕ)
  pub forget : Option (List ℕ)
  pub after : Option (List ℕ)

-- which of its five addresses a member has (MicroProfile LRA 2.0, the participant's callbacks)
pub record Presence : Type 0 where
  pub compensate : Bool
  pub complete : Bool
  pub status : Bool
  pub forget : Bool
  pub after : Bool

-- which of these addresses there are
abbrev pub presence_of : Addresses → Presence
presence_of u = record {
  compensate = is_some u.compensate;
  complete = is_some u.complete;
  status = is_some u.status;
  forget = is_some u.forget;
  after = is_some u.after;
}
