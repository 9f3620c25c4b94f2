-- What a request of the dialect means: one request of the coordinator's own interface, or a refusal.
use Rattle.std.specs.Prelude.{◌≡◌, ℕ, ◌==◌, ◌≤◌, ◌&&◌, ◌||◌, not, Bool, if◌then◌else◌, List, [], ◌∷◌, ◌++◌, length}
use Rattle.std.specs.Prelude.{codes, bytes_eq, false, Option, Some, None, unwrap_or, Result, Ok, Err}
use Rattle.std.specs.List.{before_first, after_first}
use Rattle.std.specs.Option.{option_map_or}
use Rattle.serde_json.specs.Data.{Members, no_members, put, string, number, unsigned, object, depth}
use Rattle.serde_json.specs.Read.{max_depth}
use Rattle.lra_wire.specs.Request.{Request}
use Rattle.lra_front.specs.Bodies.{object_in}
use Rattle.lra_front.specs.Routes.{id_in}
use Rattle.lra_front.specs.declared.dialect_answer.DialectRefusal.{DialectRefusal}
use Rattle.lra_front.specs.declared.dialect_answer.DialectRefusal.TheVariants as refusal
use Rattle.lra_narayana.specs.declared.operation.DialectOperation.{DialectOperation}
use Rattle.lra_narayana.specs.declared.operation.DialectOperation.TheVariants as operation
use Rattle.lra_narayana.specs.declared.links.Relation.{Relation}
use Rattle.lra_narayana.specs.declared.links.Relation.TheVariants as relation
use Rattle.lra_narayana.specs.Links.{uri_of, is_links, begins_links}
use Rattle.lra_narayana.specs.Queries.{takes_all, limit_in, parent_in, has_other_version, decoded}
use Rattle.lra_narayana.specs.Routes.{operation_of}
use Rattle.lra_narayana.specs.Texts.{is_mark, text_of, last_part}

-- the query of a target (RFC 3986, section 3.4)
abbrev pub query_in : List ℕ → List ℕ
query_in target = after_first is_mark target

-- ---- refusals

-- the links of a join: those of its field, or else its body
unfoldable pub links_of : Request → List ℕ
links_of request = text_of (unwrap_or request.fields.link request.body)

-- a body is beside the links of a field, and isn't the same
unfoldable pub is_beside : List ℕ → List ℕ → Bool
is_beside body link = not (length body == 0) && not (bytes_eq body link)

-- a join brings data of the member's own: in a field, or as a body beside its links
unfoldable pub brings_data : Request → Bool
brings_data request = request.fields.has_data || option_map_or (is_beside request.body) request.fields.link false

-- a text tells where a member is: links of known relations, or one URI
unfoldable pub is_told : List ℕ → Bool
is_told text = if begins_links text then is_links text else not (length text == 0)

-- why a limit isn't taken: it is no number
abbrev pub limit_refusal : Option ℕ → Option DialectRefusal
limit_refusal None = Some refusal.BadQuery
limit_refusal (Some limit) = None

-- why a join's limit isn't taken: it is no number, or it is one
abbrev pub join_limit_refusal : Option ℕ → Option DialectRefusal
join_limit_refusal None = Some refusal.BadQuery
join_limit_refusal (Some limit) = if limit == 0 then None else Some refusal.MemberLimit

-- why what a join brings isn't taken
unfoldable pub join_body_refusal : Request → Option DialectRefusal
join_body_refusal request =
    if brings_data request then Some refusal.MemberData
    else (if is_told (links_of request) then None else Some refusal.BadLinks)

-- the first refusal of two
abbrev pub first_refusal : Option DialectRefusal → Option DialectRefusal → Option DialectRefusal
first_refusal None other = other
first_refusal (Some r) other = Some r

-- why a leave isn't taken: it names its member by links
unfoldable pub leave_refusal : Request → Option DialectRefusal
leave_refusal request = if begins_links (text_of request.body) then Some refusal.LeaveByLinks else None

-- why an operation isn't asked for by a request with that query; what the coordinator doesn't have is refused by name
unfoldable pub operation_refusal : DialectOperation → List ℕ → Request → Option DialectRefusal
operation_refusal operation.Start query request = limit_refusal (limit_in query)
operation_refusal operation.Renew query request = limit_refusal (limit_in query)
operation_refusal operation.Join query request =
    first_refusal (join_limit_refusal (limit_in query)) (join_body_refusal request)
operation_refusal operation.Leave query request = leave_refusal request
operation_refusal operation.Close query request = None
operation_refusal operation.Cancel query request = None
operation_refusal operation.Status query request = None
operation_refusal operation.List query request = Some refusal.Lists
operation_refusal operation.Details query request = Some refusal.Lists
operation_refusal operation.Recovering query request = Some refusal.Lists
operation_refusal operation.Failed query request = Some refusal.Lists
operation_refusal operation.Links query request = Some refusal.MemberLinks
operation_refusal operation.LinksByUri query request = Some refusal.MemberLinks
operation_refusal operation.Move query request = Some refusal.Moves
operation_refusal operation.MoveByUri query request = Some refusal.Moves
operation_refusal operation.NestedStatus query request = Some refusal.Nested
operation_refusal operation.NestedComplete query request = Some refusal.Nested
operation_refusal operation.NestedCompensate query request = Some refusal.Nested
operation_refusal operation.NestedForget query request = Some refusal.Nested

-- why a request isn't taken: by its version, then by its query, then by its operation
unfoldable pub refusal_of : DialectOperation → List ℕ → Request → Option DialectRefusal
refusal_of o query request =
    if has_other_version request.fields then Some refusal.BadVersion
    else (if takes_all o query then operation_refusal o query request else Some refusal.BadQuery)

-- the operation of an own request that a request with that target means, or why it means none
unfoldable pub meant_at : List ℕ → Request → DialectOperation → Result DialectOperation DialectRefusal
meant_at target request o = option_map_or Err (refusal_of o (query_in target) request) (Ok o)

-- the same, where an operation was found, or none
abbrev pub meant_by : List ℕ → Request → Result DialectOperation DialectRefusal
    → Result DialectOperation DialectRefusal
meant_by target request (Ok o) = meant_at target request o
meant_by target request (Err r) = Err r

-- the same, for a request with that target
unfoldable pub meant : List ℕ → Request → Result DialectOperation DialectRefusal
meant target request = meant_by target request (operation_of request.method target)

-- ---- the own request

-- the method of the own request
abbrev pub own_method : DialectOperation → List ℕ
own_method operation.Start = codes "POST"
own_method operation.Status = codes "GET"
own_method _ = codes "PUT"

-- the last piece of its path
abbrev pub suffix : DialectOperation → List ℕ
suffix operation.Close = codes "/close"
suffix operation.Cancel = codes "/cancel"
suffix operation.Leave = codes "/remove"
suffix operation.Renew = codes "/renew"
suffix _ = []

-- the ID in a path: the last part of an identifier, or the whole identifier percent-encoded
unfoldable pub id_of : List ℕ → List ℕ → List ℕ
id_of base target = last_part base (decoded (id_in (before_first is_mark target)))

-- its target
unfoldable pub own_target : List ℕ → DialectOperation → List ℕ → List ℕ
own_target base operation.Start target = codes "/lra-coordinator"
own_target base o target = codes "/lra-coordinator/" ++ id_of base target ++ suffix o

-- a text under a key, if there is one
abbrev pub put_some : List ℕ → Option (List ℕ) → Members → Members
put_some key None ms = ms
put_some key (Some text) ms = put key (string text) ms

-- a limit, if there is one
abbrev pub put_limit : ℕ → Members → Members
put_limit limit ms = if limit == 0 then ms else put (codes "limit") (number (unsigned limit)) ms

-- the key of an address
abbrev pub key_of : Relation → List ℕ
key_of relation.Compensate = codes "compensate"
key_of relation.Complete = codes "complete"
key_of relation.Status = codes "status"
key_of relation.Forget = codes "forget"
key_of relation.Leave = codes "leave"
key_of relation.After = codes "after"

-- the address that a member's links give for a relation
abbrev pub put_uri : List ℕ → Relation → Members → Members
put_uri links r ms = put_some (key_of r) (uri_of r links) ms

-- the addresses that links give; nobody calls the address at which a member is told to leave
unfoldable pub linked : List ℕ → Members
linked links =
    put_uri links relation.After (put_uri links relation.Forget (put_uri links relation.Status
    (put_uri links relation.Complete (put_uri links relation.Compensate no_members))))

-- the addresses of a member at one URI
unfoldable pub located : List ℕ → Members
located uri =
    put (codes "forget") (string uri) (put (codes "status") (string uri)
    (put (codes "complete") (string (uri ++ codes "/complete"))
    (put (codes "compensate") (string (uri ++ codes "/compensate")) no_members)))

-- the addresses that a text tells
unfoldable pub addresses_in : List ℕ → Members
addresses_in text = if begins_links text then linked text else located text

-- the members of its body
unfoldable pub own_members : DialectOperation → List ℕ → Request → Members
own_members operation.Start query request =
    put_some (codes "parent") (parent_in query) (put_limit (unwrap_or (limit_in query) 0) no_members)
own_members operation.Renew query request =
    put (codes "limit") (number (unsigned (unwrap_or (limit_in query) 0))) no_members
own_members operation.Join query request = addresses_in (links_of request)
own_members operation.Leave query request = put (codes "recovery") (string (text_of request.body)) no_members
own_members _ query request = no_members

-- The own request that a request with that target means. It isn't said how its body is written, but what is read of it
-- (RFC 8259).
pub record IsOwn (base wanted : List ℕ) (o : DialectOperation) (request own : Request) : Type 0 where
  pub method : own.method ≡ own_method o
  pub target : own.target ≡ own_target base o wanted
  pub minor : own.minor ≡ request.minor
  pub close : own.close ≡ request.close
  pub fields : own.fields ≡ request.fields
  pub body : depth (object (own_members o (query_in wanted) request)) ≤ max_depth
      → object_in own.body ≡ Some (own_members o (query_in wanted) request)
