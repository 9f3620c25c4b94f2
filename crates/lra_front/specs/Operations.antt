-- The operations: what a request may ask for, in one table (this project's own).
use Rattle.std.specs.Prelude.{ℕ, List, [], ◌∷◌, ◌&&◌, Bool, codes, bytes_eq, Option, map}
use Rattle.std.specs.List.{find, filter, join_by}
use Rattle.lra_front.specs.declared.operation.Resource.{Resource}
use Rattle.lra_front.specs.declared.operation.Resource.TheVariants as resource
use Rattle.lra_front.specs.declared.operation.Operation.{Operation}
use Rattle.lra_front.specs.declared.operation.Operation.TheVariants as operation

-- the operations, in the order in which they are listed
abbrev pub operations : List Operation
operations =
    operation.Start ∷ operation.Status ∷ operation.Join ∷ operation.Close ∷ operation.Cancel ∷ operation.Remove
    ∷ operation.Renew
    ∷ operation.MemberStatus ∷ operation.Report ∷ []

-- the resource that an operation's path names
abbrev pub named_resource : Operation → Resource
named_resource operation.Start = resource.Actions
named_resource operation.Status = resource.Action
named_resource operation.Join = resource.Action
named_resource operation.Close = resource.Close
named_resource operation.Cancel = resource.Cancel
named_resource operation.Remove = resource.Remove
named_resource operation.Renew = resource.Renew
named_resource operation.MemberStatus = resource.Member
named_resource operation.Report = resource.Member

-- an operation's method
abbrev pub method : Operation → List ℕ
method operation.Start = codes "POST"
method operation.Status = codes "GET"
method operation.Join = codes "PUT"
method operation.Close = codes "PUT"
method operation.Cancel = codes "PUT"
method operation.Remove = codes "PUT"
method operation.Renew = codes "PUT"
method operation.MemberStatus = codes "GET"
method operation.Report = codes "PUT"

-- an operation's label in metrics
abbrev pub label : Operation → List ℕ
label operation.Start = codes "start"
label operation.Status = codes "status"
label operation.Join = codes "join"
label operation.Close = codes "close"
label operation.Cancel = codes "cancel"
label operation.Remove = codes "remove"
label operation.Renew = codes "renew"
label operation.MemberStatus = codes "member"
label operation.Report = codes "report"

-- a sentence that says what an operation does
abbrev pub summary : Operation → List ℕ
summary operation.Start = codes "Starts an action, at the top or nested in another"
summary operation.Status = codes "Returns an action's status"
summary operation.Join = codes "Lets a member join an action"
summary operation.Close = codes "Closes an action, so that its members complete"
summary operation.Cancel = codes "Cancels an action, so that its members compensate"
summary operation.Remove = codes "Lets a member leave its action"
summary operation.Renew = codes "Sets an action's limit anew, from now"
summary operation.MemberStatus = codes "Returns a member's status"
summary operation.Report = codes "Takes down how a member ended"

-- the codes of an operation's replies where it is done
abbrev pub success : Operation → List ℕ
success operation.Start = 201 ∷ []
success operation.Status = 200 ∷ []
success operation.Join = 200 ∷ []
success operation.Close = 200 ∷ 202 ∷ []
success operation.Cancel = 200 ∷ 202 ∷ []
success operation.Remove = 200 ∷ []
success operation.Renew = 200 ∷ []
success operation.MemberStatus = 200 ∷ []
success operation.Report = 200 ∷ []

-- the codes by which a request for an operation is refused once it was read, admitted and routed
abbrev pub refusals : Operation → List ℕ
refusals operation.Start = 400 ∷ 404 ∷ 409 ∷ 412 ∷ 500 ∷ 503 ∷ []
refusals operation.Status = 404 ∷ 500 ∷ 503 ∷ []
refusals operation.Join = 400 ∷ 404 ∷ 412 ∷ 500 ∷ 503 ∷ []
refusals operation.Close = 400 ∷ 404 ∷ 412 ∷ 500 ∷ 503 ∷ []
refusals operation.Cancel = 400 ∷ 404 ∷ 412 ∷ 500 ∷ 503 ∷ []
refusals operation.Remove = 400 ∷ 404 ∷ 409 ∷ 410 ∷ 412 ∷ 500 ∷ 503 ∷ []
refusals operation.Renew = 400 ∷ 404 ∷ 409 ∷ 412 ∷ 500 ∷ 503 ∷ []
refusals operation.MemberStatus = 404 ∷ 500 ∷ 503 ∷ []
refusals operation.Report = 400 ∷ 404 ∷ 410 ∷ 412 ∷ 500 ∷ 503 ∷ []

-- ---- resources

-- the resources, in the order of their first operations
abbrev pub resources : List Resource
resources = resource.Actions ∷ resource.Action ∷ resource.Close ∷ resource.Cancel ∷ resource.Remove ∷ resource.Renew ∷
    resource.Member ∷ []

-- a resource's path; `{id}` is a piece between slashes that isn't empty
abbrev pub path_of : Resource → List ℕ
path_of resource.Actions = codes "/lra-coordinator"
path_of resource.Action = codes "/lra-coordinator/{id}"
path_of resource.Close = codes "/lra-coordinator/{id}/close"
path_of resource.Cancel = codes "/lra-coordinator/{id}/cancel"
path_of resource.Remove = codes "/lra-coordinator/{id}/remove"
path_of resource.Renew = codes "/lra-coordinator/{id}/renew"
path_of resource.Member = codes "/lra-recovery/{id}"

-- an operation's path
abbrev pub path : Operation → List ℕ
path o = path_of (named_resource o)

-- an operation has the path of a resource
abbrev pub is_at : Resource → Operation → Bool
is_at p o = bytes_eq (path o) (path_of p)

-- a method asks for an operation at a resource; methods are case-sensitive (RFC 9110, section 9.1)
abbrev pub is_asked : List ℕ → Resource → Operation → Bool
is_asked m p o = is_at p o && bytes_eq m (method o)

-- the operation that a method asks for at a resource, if there is one
abbrev pub operation_at : List ℕ → Resource → Option Operation
operation_at m p = find (is_asked m p) operations

-- the value of `Allow` at a resource: the methods of its operations (RFC 9110, section 10.2.1)
abbrev pub allowed : Resource → List ℕ
allowed p = join_by (λ m. m) (codes ", ") (map method (filter (is_at p) operations))
