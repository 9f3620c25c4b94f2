-- Whether a request may be made.
use Rattle.std.specs.Prelude.{ℕ, ◌==◌, Bool, true, false, not, ◌&&◌, ◌||◌, if◌then◌else◌, List, [], length, take, codes}
use Rattle.std.specs.Prelude.{bytes_eq, Option, Some, is_some, option_map, Result, Ok, Err}
use Rattle.std.specs.List.{before_first, after_first, list_all}
use Rattle.std.specs.Option.{option_map_or}
use Rattle.std.specs.Str.{str_eq_ignore_ascii_case, is_utf8}
use Rattle.std.specs.Char.{is_ascii_digit}
use Rattle.base64.specs.Engines.{standard}
use Rattle.base64.specs.GeneralPurpose.{decode_of}
use Rattle.base64.specs.declared.decode.DecodeError.{DecodeError}
use Rattle.lra_operators.specs.declared.access.Access.{Access}
use Rattle.lra_operators.specs.declared.access.Admission.{Admission}
use Rattle.lra_operators.specs.declared.access.Admission.TheVariants as admission
use Rattle.lra_operators.specs.declared.access.Seen.{Seen}
use Rattle.lra_wire.specs.Request.{Fields, Request}
use Rattle.lra_operators.specs.declared.operation.Operation.{Operation}
use Rattle.lra_operators.specs.declared.operation.Operation.TheVariants as operation
use Rattle.lra_operators.specs.Operations.{is_order}
use Rattle.lra_operators.specs.declared.route.Unserved.{Unserved}
use Rattle.lra_operators.specs.Routes.{operation_of}
use Rattle.lra_operators.specs.Forms.{form_value}

-- whether there is a given text and a wanted one, and they are the same
abbrev pub gives : Option (List ℕ) → Option (List ℕ) → Bool
gives (Some given) (Some wanted) = bytes_eq given wanted
gives _ _ = false

-- whether there is a given text that isn't empty and a wanted one, and they differ
abbrev pub mistakes : Option (List ℕ) → Option (List ℕ) → Bool
mistakes (Some given) (Some wanted) = not (length given == 0) && not (bytes_eq given wanted)
mistakes _ _ = false

-- ---- heads

-- whether a text begins with another
abbrev pub begins : List ℕ → List ℕ → Bool
begins front text = bytes_eq front (take (length front) text)

-- a space
abbrev pub is_space : ℕ → Bool
is_space b = b == 32

-- a colon
abbrev pub is_colon : ℕ → Bool
is_colon b = b == 58

-- the key that a value of Authorization gives as Bearer: what follows the word and a space, or nothing (RFC 6750,
-- section 2.1)
abbrev pub bearer_in : List ℕ → List ℕ
bearer_in value = if str_eq_ignore_ascii_case (before_first is_space value) (codes "bearer") then after_first is_space
    value else []

-- what a value of Authorization has as Basic: what follows the word and a space, or nothing (RFC 7617, section 2)
abbrev pub basic_in : List ℕ → List ℕ
basic_in value = if str_eq_ignore_ascii_case (before_first is_space value) (codes "basic") then after_first is_space
    value else []

-- what was decoded, or nothing
abbrev pub decoded_or_none : Result (List ℕ) DecodeError → List ℕ
decoded_or_none (Ok bytes) = bytes
decoded_or_none (Err error) = []

-- the bytes that base64 encodes (RFC 4648, section 4), or nothing if a text isn't base64
abbrev pub decoded : List ℕ → List ℕ
decoded spelled = decoded_or_none (decode_of standard spelled)

-- the text that bytes are, or nothing if they aren't UTF-8
abbrev pub text_of : List ℕ → List ℕ
text_of bytes = if is_utf8 bytes then bytes else []

-- the key that a value of Authorization gives as the password of Basic, whatever the name before it is
abbrev pub password_in : List ℕ → List ℕ
password_in value = after_first is_colon (text_of (decoded (basic_in value)))

-- a digit or a point
abbrev pub is_numeric : ℕ → Bool
is_numeric b = is_ascii_digit b || b == 46

-- an address of the machine's own: it begins with 127., and no other name has only digits and points (RFC 1122, section
-- 3.2.1.3)
abbrev pub is_loopback : List ℕ → Bool
is_loopback name = begins (codes "127.") name && list_all is_numeric name

-- a host name of the machine's own, without its port (this project's choice)
abbrev pub is_own_host : List ℕ → Bool
is_own_host name = bytes_eq name (codes "localhost") || is_loopback name

-- a host that is the machine's own, as clients on it name it: such a name with any port, or the address ::1 of IPv6
-- with or without one
abbrev pub is_own_name : List ℕ → Bool
is_own_name host = is_own_host (before_first is_colon host) || bytes_eq host (codes "[::1]")
    || begins (codes "[::1]:") host

-- whether a request came by a name of the machine's own: one with no Host, or with a Host that is no UTF-8, didn't
abbrev pub is_own : Option (List ℕ) → Bool
is_own host = option_map_or (λ value. is_own_name (text_of value)) host false

-- the key that the head of a request gives as Bearer, if it has an Authorization: one that is no UTF-8 gives an empty
-- key
abbrev pub bearer_of : Fields → Option (List ℕ)
bearer_of fields = option_map (λ value. bearer_in (text_of value)) fields.authorization

-- the password that the head of a request gives as Basic (RFC 7617), if it has an Authorization
abbrev pub password_of : Fields → Option (List ℕ)
password_of fields = option_map (λ value. password_in (text_of value)) fields.authorization

-- whether a request says that its body is JSON, which no form of another site can say (Fetch Standard, safelisted
-- values of Content-Type)
abbrev pub is_json : Option (List ℕ) → Bool
is_json kind = option_map_or (λ value. begins (codes "application/json") value) kind false

-- ---- the facts of a request, and its admission

-- the operation that gives a member up
abbrev pub is_give_up : Operation → Bool
is_give_up operation.GiveUp = true
is_give_up _ = false

-- the key that each request has to give, if there is one
abbrev pub key_of : Access → Option (List ℕ)
key_of access = option_map (λ key. key.now) access.key

-- the facts of a request for an operation that decide whether it may be made
abbrev pub seen : Access → Request → Operation → Seen
seen access request p = record {
  wants_key = is_some access.key;
  is_own = is_own request.fields.host;
  is_order = is_order p;
  is_give_up = is_give_up p;
  head_has_key = gives (bearer_of request.fields) (key_of access) || gives (password_of request.fields) (key_of access);
  bearer_has_key = gives (bearer_of request.fields) (key_of access);
  form_has_key = gives (form_value (codes "key") request.body) (key_of access);
  form_mistakes_key = mistakes (form_value (codes "key") request.body) (key_of access);
  form_has_token = gives (form_value (codes "token") request.body) (Some access.token.now);
  is_json = is_json request.fields.content_type;
}

-- whether an order may be given (this project's choice). With the key as Bearer it may. Otherwise its form must have no
-- other key; if a key is wanted, its head or its form has to give it; and the order has to be a form with the token, or
-- say that it is JSON. A browser sends the password of Basic with the form of any other site too, so that the password
-- alone isn't enough
abbrev pub order_admission : Seen → Admission
order_admission s =
    if s.is_give_up && not s.wants_key then admission.NeedsKey
    else if s.bearer_has_key then admission.Admitted
    else if s.form_mistakes_key then admission.MistypedKey
    else if s.wants_key && not s.head_has_key && not s.form_has_key then admission.WrongKey
    else if s.form_has_token || s.is_json then admission.Admitted
    else admission.Forged

-- whether a request may be made (this project's choice). If no key is wanted, it has to come by a name of the machine's
-- own. If a key is wanted, a request that gives no order has to give it in its head
abbrev pub admission_of : Seen → Admission
admission_of s =
    if not s.wants_key && not s.is_own then admission.WrongHost
    else if s.is_order then order_admission s
    else if s.wants_key && not s.head_has_key then admission.WrongKey
    else admission.Admitted

-- the operation that is served, or else a query
abbrev pub served_or_query : Result Operation Unserved → Operation
served_or_query (Ok o) = o
served_or_query (Err unserved) = operation.Health

-- the operation that a request is admitted for: the one of its route, or else a query, so that nobody who may ask
-- nothing is told what isn't served (this project's choice)
abbrev pub asked_for : Request → Operation
asked_for request = served_or_query (operation_of request.method request.target)

-- the code of the reply to a request by its admission, if it may not be made (RFC 9110, sections 15.5.2 and 15.5.4)
abbrev pub denied_code : Admission → ℕ
denied_code admission.Admitted = 200
denied_code admission.WrongKey = 401
denied_code admission.WrongHost = 403
denied_code admission.Forged = 403
denied_code admission.NeedsKey = 403
denied_code admission.MistypedKey = 403
