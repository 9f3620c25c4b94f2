-- The request of a callback (MicroProfile LRA 2.0, participant methods and context headers; RFC 9112, sections 3 to 6).
use Rattle.std.specs.Prelude.{ℕ, List, [], ◌∷◌, ◌++◌, length, map, codes, decimal, Option, Some, None, option_map}
use Rattle.std.specs.Option.{option_map_or}
use Rattle.std.specs.Borrow.{Bor}
use Rattle.lra_model.specs.declared.status.ActionStatus.{ActionStatus}
use Rattle.lra_model.specs.declared.asks.AskKind.{AskKind}
use Rattle.lra_model.specs.declared.asks.AskKind.TheVariants as ask
use Rattle.lra_model.specs.declared.asks.Direction.{Direction}
use Rattle.lra_model.specs.Names.{action_status_name}
use Rattle.lra_ids.specs.Addresses.{authority_of, target_of}
use Rattle.lra_commands.specs.Errands.{Asking}
use Rattle.lra_wire.specs.declared.write.RequestWrite.{RequestWrite}
use Rattle.lra_wire.specs.Writing.{request_text}
use Rattle.lra_courier.specs.declared.extra_fields.ExtraFields.{ExtraFields}

-- what a request has besides the callback's own fields: the credentials of a token, and a trace, where there are such
pub record Extra : Type 0 where
  pub token : Option (List ℕ)
  pub traceparent : Option (List ℕ)

-- nothing besides those
abbrev pub no_extra : Extra
no_extra = record { token = None; traceparent = None }

-- the texts of extra fields, wherever these lie in memory
abbrev pub extra_of : ExtraFields → Extra
extra_of e = record {
  token = option_map (λ token. token.now) e.token;
  traceparent = option_map (λ traceparent. traceparent.now) e.traceparent;
}

-- what a callback says to its member, and in which direction: an errand without the coordinator's own numbers
pub record Calling : Type 0 where
  pub kind : AskKind
  pub direction : Direction
  pub address : List ℕ
  pub action_uri : List ℕ
  pub parent_uri : Option (List ℕ)
  pub recovery_uri : List ℕ
  pub ended : Option ActionStatus
  pub extra : Extra

-- the callback of an errand, with no extra fields
abbrev pub calling_of : Asking → Calling
calling_of e = record {
  kind = e.kind;
  direction = e.direction;
  address = e.address;
  action_uri = e.action_uri;
  parent_uri = e.parent_uri;
  recovery_uri = e.recovery_uri;
  ended = e.ended;
  extra = no_extra;
}

-- the same callback with these extra fields
abbrev pub calling_with : Extra → Calling → Calling
calling_with extra c = record c { extra = extra }

-- the method by kind (MicroProfile LRA 2.0: GET asks for a status, and DELETE lets a member forget)
abbrev pub method_of : AskKind → List ℕ
method_of ask.Complete = codes "PUT"
method_of ask.Compensate = codes "PUT"
method_of ask.Status = codes "GET"
method_of ask.Forget = codes "DELETE"
method_of ask.After = codes "PUT"

-- the body: an after notice has the name of the action's final state, the others have none (MicroProfile LRA 2.0,
-- AfterLRA)
abbrev pub body_of : AskKind → Option ActionStatus → List ℕ
body_of ask.After ended = option_map_or action_status_name ended []
body_of _ ended = []

-- a field: its name and its value
abbrev pub Field : Type 0
Field = List ℕ × List ℕ

-- the name of the field with the action's URI (MicroProfile LRA 2.0, context headers)
abbrev pub context_name : AskKind → List ℕ
context_name ask.After = codes "Long-Running-Action-Ended"
context_name _ = codes "Long-Running-Action"

-- the field with the parent's URI, where there is a parent (MicroProfile LRA 2.0, context headers)
abbrev pub parent_fields : Option (List ℕ) → List Field
parent_fields None = []
parent_fields (Some uri) = (codes "Long-Running-Action-Parent", uri) ∷ []

-- the fields that describe a body of that length: a request by PUT has a body, which may be empty (RFC 9110, section
-- 8.6)
abbrev pub content_fields : AskKind → List ℕ → List Field
content_fields ask.After size = (codes "Content-Type", codes "text/plain") ∷ (codes "Content-Length", size) ∷ []
content_fields ask.Complete size = (codes "Content-Length", size) ∷ []
content_fields ask.Compensate size = (codes "Content-Length", size) ∷ []
content_fields _ size = []

-- the field with a token, where there is one (RFC 6750, section 2.1)
abbrev pub token_fields : Option (List ℕ) → List Field
token_fields None = []
token_fields (Some credentials) = (codes "Authorization", credentials) ∷ []

-- the field with a trace, where there is one (Trace Context, level 1, section 3.2)
abbrev pub trace_fields : Option (List ℕ) → List Field
trace_fields None = []
trace_fields (Some value) = (codes "traceparent", value) ∷ []

-- the extra fields, in order
abbrev pub extra_fields : Extra → List Field
extra_fields e = token_fields e.token ++ trace_fields e.traceparent

-- the fields, in order; each request has a connection of its own (RFC 9112, sections 3.2 and 9.6)
abbrev pub fields_of : Calling → List Field
fields_of c =
    ((codes "Host", authority_of c.address) ∷ (context_name c.kind, c.action_uri) ∷ [])
    ++ (parent_fields c.parent_uri
    ++ (((codes "Long-Running-Action-Recovery", c.recovery_uri) ∷ [])
    ++ (content_fields c.kind (decimal (length (body_of c.kind c.ended)))
    ++ (extra_fields c.extra
    ++ ((codes "Connection", codes "close") ∷ [])))))

-- a value as a writer borrows it, wherever it lies in memory
abbrev pub lent : {X : Type 0} → X → Bor X
lent x = record { ref_ptr = (0, 0); now = x }

-- the request of a callback
abbrev pub request_of : Calling → RequestWrite
request_of c = record {
  method = lent (method_of c.kind);
  target = lent (target_of c.address);
  fields = lent (map (λ (field : Field). (lent field.0, lent field.1)) (fields_of c));
  body = lent (body_of c.kind c.ended);
}

-- the bytes of that request
unfoldable pub request_bytes : Calling → List ℕ
request_bytes c = request_text (request_of c)
