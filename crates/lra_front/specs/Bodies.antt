-- The body of a request, and what can be read from it.
use Rattle.std.specs.Prelude.{◌≡◌, ◌≢◌, ℕ, ◌≤◌, Bool, true, false, ◌&&◌, is_some, if◌then◌else◌, List, [], ◌∷◌, codes}
use Rattle.std.specs.Prelude.{bytes_eq, Option, Some, None, option_and_then, Result, Ok, Err}
use Rattle.std.specs.Option.{option_map_or}
use Rattle.std.specs.List.{find}
use Rattle.std.specs.Str.{is_utf8}
use Rattle.serde_json.specs.Data.{Data, Members, no_members, member, depth}
use Rattle.serde_json.specs.Read.{read, max_depth}
use Rattle.serde_json.specs.Find.{get_member, as_object, as_str, as_number, as_u64}
use Rattle.lra_model.specs.declared.status.Ending.{Ending}
use Rattle.lra_model.specs.declared.status.Ending.TheVariants as ending
use Rattle.lra_model.specs.Names.{ending_name}
use Rattle.lra_model.specs.Addresses.{Addresses}
use Rattle.lra_model.specs.Words.{when}
use Rattle.lra_front.specs.declared.operation.Operation.{Operation}
use Rattle.lra_front.specs.declared.operation.Operation.TheVariants as operation
use Rattle.lra_front.specs.declared.api_error.ApiError.{ApiError}
use Rattle.lra_front.specs.declared.body.Kind.{Kind}
use Rattle.lra_front.specs.declared.body.Kind.TheVariants.{Text, Number}

-- the keys that an operation's body may have, each with the kind of its value (this project's own)
abbrev pub keys : Operation → List (List ℕ × Kind)
keys operation.Start = (codes "parent", Text) ∷ (codes "limit", Number) ∷ []
keys operation.Join =
    (codes "compensate", Text) ∷ (codes "complete", Text) ∷ (codes "status", Text) ∷ (codes "forget", Text)
    ∷ (codes "after", Text) ∷ []
keys operation.Remove = (codes "recovery", Text) ∷ []
keys operation.Renew = (codes "limit", Number) ∷ []
keys operation.Report = (codes "status", Text) ∷ []
keys _ = []

-- the key under which an operation's body has an identifier: the parent of a new action, and the member that leaves
abbrev pub identifier_key : Operation → Option (List ℕ)
identifier_key operation.Start = Some (codes "parent")
identifier_key operation.Remove = Some (codes "recovery")
identifier_key _ = None

-- the kind of a key's value, if it is among these keys
abbrev pub kind_in : List ℕ → List (List ℕ × Kind) → Option Kind
kind_in key [] = None
kind_in key (k ∷ rest) = if bytes_eq key k.0 then Some k.1 else kind_in key rest

-- a value is of a kind: a text, or a number of digits alone, below 2^64
abbrev pub is_kind : Data → Kind → Bool
is_kind value Text = is_some (as_str value)
is_kind value Number = is_some (option_and_then as_u64 (as_number value))

-- an operation's body may have that value under that key
abbrev pub member_fits : Operation → List ℕ → Data → Bool
member_fits r key value = option_map_or (is_kind value) (kind_in key (keys r)) false

-- an operation's body may have these members
abbrev pub members_fit : Operation → Members → Bool
members_fit r no_members = true
members_fit r (member key value rest) = member_fits r key value && members_fit r rest

-- the text under a key, if there is one
abbrev pub text_under : List ℕ → Members → Option (List ℕ)
text_under key members = option_and_then as_str (get_member key members)

-- the number under a key, if there is one that 64 bits hold
abbrev pub number_under : List ℕ → Members → Option ℕ
number_under key members = option_and_then as_u64 (option_and_then as_number (get_member key members))

-- the ends of a member
abbrev pub endings : List Ending
endings = ending.Completed ∷ ending.FailedToComplete ∷ ending.Compensated ∷ ending.FailedToCompensate ∷ []

-- the end of a member by its name
abbrev pub ending_named : List ℕ → Option Ending
ending_named text = find (λ e. bytes_eq text (ending_name e)) endings

-- the end that a member reports
abbrev pub ending_told : Members → Option Ending
ending_told members = option_and_then ending_named (text_under (codes "status") members)

-- the addresses that a member gives
abbrev pub addresses_given : Members → Addresses
addresses_given members = record {
  compensate = text_under (codes "compensate") members;
  complete = text_under (codes "complete") members;
  status = text_under (codes "status") members;
  forget = text_under (codes "forget") members;
  after = text_under (codes "after") members;
}

-- the members that an operation's body has to have are there
abbrev pub has_needed : Operation → Members → Bool
has_needed operation.Remove m = is_some (text_under (codes "recovery") m)
has_needed operation.Renew m = is_some (number_under (codes "limit") m)
has_needed operation.Report m = is_some (ending_told m)
has_needed _ m = true

-- the object that a body is: an empty body is an object without members
abbrev pub object_in : List ℕ → Option Members
object_in [] = Some no_members
object_in (b ∷ rest) = if is_utf8 (b ∷ rest) then option_and_then as_object (read (b ∷ rest)) else None

-- whether an operation reads its body: those that a GET asks for don't
abbrev pub reads_body : Operation → Bool
reads_body operation.Status = false
reads_body operation.MemberStatus = false
reads_body _ = true

-- the object of the body that an operation reads: one without members where it doesn't read its body
abbrev pub object_for : Operation → List ℕ → Option Members
object_for r body = if reads_body r then object_in body else Some no_members

-- the members, where they make a body that the operation reads
abbrev pub fitting : Operation → Members → Option Members
fitting r members = when (members_fit r members && has_needed r members) members

-- the members of a body, where it is one that the operation reads
unfoldable pub body_of : Operation → List ℕ → Option Members
body_of r body = option_and_then (fitting r) (object_for r body)

-- ---- the value of a body, which is read once for the operation that the router found

-- What is read of a body: a value with the object that it is for the operation, which nests no deeper than can be read;
-- or nothing, where it isn't JSON. Without an operation no body is read.
abbrev pub IsValueOf : Result Operation ApiError → List ℕ → Option Data → Type 0
IsValueOf (Ok r) body None = object_for r body ≡ None
IsValueOf (Ok r) body (Some value) = (object_for r body ≡ as_object value) × (depth value ≤ max_depth)
IsValueOf (Err d) body value = value ≡ None

-- memory may be refused for the value: there is an operation that reads its body, and the body isn't empty
abbrev pub NeedsMemory : Result Operation ApiError → List ℕ → Type 0
NeedsMemory (Ok r) body = (reads_body r ≡ true) × (body ≢ [])
NeedsMemory (Err d) body = ⊥
