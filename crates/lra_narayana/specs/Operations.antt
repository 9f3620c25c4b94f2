-- The operations of the dialect: what a request may ask for, in one table (after Narayana's interface).
use Rattle.std.specs.Prelude.{ℕ, List, [], ◌∷◌, ◌&&◌, ◌||◌, Bool, false, codes, bytes_eq, Option}
use Rattle.std.specs.List.{find}
use Rattle.lra_front.specs.declared.dialect_answer.DialectMethods.{DialectMethods}
use Rattle.lra_front.specs.declared.dialect_answer.DialectMethods.TheVariants as methods
use Rattle.lra_narayana.specs.declared.operation.DialectResource.{DialectResource}
use Rattle.lra_narayana.specs.declared.operation.DialectResource.TheVariants as resource
use Rattle.lra_narayana.specs.declared.operation.DialectOperation.{DialectOperation}
use Rattle.lra_narayana.specs.declared.operation.DialectOperation.TheVariants as operation

-- the operations, in the order in which they are listed
abbrev pub operations : List DialectOperation
operations =
    operation.Start ∷ operation.List ∷ operation.Details ∷ operation.Join ∷ operation.Close ∷ operation.Cancel
    ∷ operation.Leave ∷ operation.Renew ∷ operation.Status ∷ operation.Recovering ∷ operation.Failed ∷ operation.Links
    ∷ operation.Move ∷ operation.LinksByUri ∷ operation.MoveByUri ∷ operation.NestedStatus ∷ operation.NestedComplete
    ∷ operation.NestedCompensate ∷ operation.NestedForget ∷ []

-- the resource that an operation's path names
abbrev pub named_resource : DialectOperation → DialectResource
named_resource operation.Start = resource.Start
named_resource operation.List = resource.Actions
named_resource operation.Details = resource.Action
named_resource operation.Join = resource.Action
named_resource operation.Close = resource.Close
named_resource operation.Cancel = resource.Cancel
named_resource operation.Leave = resource.Remove
named_resource operation.Renew = resource.Renew
named_resource operation.Status = resource.Status
named_resource operation.Recovering = resource.Recovery
named_resource operation.Failed = resource.Failed
named_resource operation.Links = resource.Member
named_resource operation.Move = resource.Member
named_resource operation.LinksByUri = resource.RecoveryUri
named_resource operation.MoveByUri = resource.RecoveryUri
named_resource operation.NestedStatus = resource.NestedStatus
named_resource operation.NestedComplete = resource.NestedComplete
named_resource operation.NestedCompensate = resource.NestedCompensate
named_resource operation.NestedForget = resource.NestedForget

-- an operation's method
abbrev pub method : DialectOperation → List ℕ
method operation.Start = codes "POST"
method operation.List = codes "GET"
method operation.Details = codes "GET"
method operation.Join = codes "PUT"
method operation.Close = codes "PUT"
method operation.Cancel = codes "PUT"
method operation.Leave = codes "PUT"
method operation.Renew = codes "PUT"
method operation.Status = codes "GET"
method operation.Recovering = codes "GET"
method operation.Failed = codes "GET"
method operation.Links = codes "GET"
method operation.Move = codes "PUT"
method operation.LinksByUri = codes "GET"
method operation.MoveByUri = codes "PUT"
method operation.NestedStatus = codes "GET"
method operation.NestedComplete = codes "PUT"
method operation.NestedCompensate = codes "PUT"
method operation.NestedForget = codes "PUT"

-- the words that an operation takes in its query
abbrev pub takes : DialectOperation → List ℕ → Bool
takes operation.Start word = bytes_eq word (codes "ClientID") || bytes_eq word (codes "TimeLimit")
    || bytes_eq word (codes "ParentLRA")
takes operation.List word = bytes_eq word (codes "Status")
takes operation.Join word = bytes_eq word (codes "TimeLimit")
takes operation.Renew word = bytes_eq word (codes "TimeLimit")
takes _ word = false

-- a sentence that says what an operation does
abbrev pub summary : DialectOperation → List ℕ
summary operation.Start = codes "Starts an action, at the top or nested in another"
summary operation.List = codes "Lists actions"
summary operation.Details = codes "Returns an action's details"
summary operation.Join = codes "Lets a member join an action"
summary operation.Close = codes "Closes an action, so that its members complete"
summary operation.Cancel = codes "Cancels an action, so that its members compensate"
summary operation.Leave = codes "Lets a member leave its action"
summary operation.Renew = codes "Sets an action's limit anew, from now"
summary operation.Status = codes "Returns an action's status"
summary operation.Recovering = codes "Lists the actions that are ending"
summary operation.Failed = codes "Lists the actions that failed"
summary operation.Links = codes "Returns a member's links"
summary operation.Move = codes "Moves a member to other links"
summary operation.LinksByUri = codes "Returns a member's links, by its recovery URI"
summary operation.MoveByUri = codes "Moves a member to other links, by its recovery URI"
summary operation.NestedStatus = codes "Returns a nested action's status as a member's"
summary operation.NestedComplete = codes "Completes a nested action as a member"
summary operation.NestedCompensate = codes "Compensates a nested action as a member"
summary operation.NestedForget = codes "Forgets a nested action as a member"

-- the codes of the replies where an operation is done
abbrev pub success : DialectOperation → List ℕ
success operation.Start = 201 ∷ []
success operation.List = []
success operation.Details = []
success operation.Join = 200 ∷ []
success operation.Close = 200 ∷ 202 ∷ []
success operation.Cancel = 200 ∷ 202 ∷ []
success operation.Leave = 200 ∷ []
success operation.Renew = 200 ∷ []
success operation.Status = 200 ∷ []
success operation.Recovering = []
success operation.Failed = []
success operation.Links = []
success operation.Move = []
success operation.LinksByUri = []
success operation.MoveByUri = []
success operation.NestedStatus = []
success operation.NestedComplete = []
success operation.NestedCompensate = []
success operation.NestedForget = []

-- the codes by which a request for an operation is refused once it was read, admitted and routed
abbrev pub refusals : DialectOperation → List ℕ
refusals operation.Start = 400 ∷ 404 ∷ 409 ∷ 412 ∷ 417 ∷ 500 ∷ 503 ∷ []
refusals operation.List = 400 ∷ 417 ∷ 501 ∷ []
refusals operation.Details = 400 ∷ 417 ∷ 501 ∷ []
refusals operation.Join = 400 ∷ 404 ∷ 412 ∷ 417 ∷ 500 ∷ 503 ∷ []
refusals operation.Close = 400 ∷ 404 ∷ 412 ∷ 417 ∷ 500 ∷ 503 ∷ []
refusals operation.Cancel = 400 ∷ 404 ∷ 412 ∷ 417 ∷ 500 ∷ 503 ∷ []
refusals operation.Leave = 400 ∷ 404 ∷ 412 ∷ 417 ∷ 500 ∷ 501 ∷ 503 ∷ []
refusals operation.Renew = 400 ∷ 404 ∷ 409 ∷ 412 ∷ 417 ∷ 500 ∷ 503 ∷ []
refusals operation.Status = 400 ∷ 404 ∷ 417 ∷ 500 ∷ 503 ∷ []
refusals operation.Recovering = 400 ∷ 417 ∷ 501 ∷ []
refusals operation.Failed = 400 ∷ 417 ∷ 501 ∷ []
refusals operation.Links = 400 ∷ 417 ∷ 501 ∷ []
refusals operation.Move = 400 ∷ 417 ∷ 501 ∷ []
refusals operation.LinksByUri = 400 ∷ 417 ∷ 501 ∷ []
refusals operation.MoveByUri = 400 ∷ 417 ∷ 501 ∷ []
refusals operation.NestedStatus = 400 ∷ 417 ∷ 501 ∷ []
refusals operation.NestedComplete = 400 ∷ 417 ∷ 501 ∷ []
refusals operation.NestedCompensate = 400 ∷ 417 ∷ 501 ∷ []
refusals operation.NestedForget = 400 ∷ 417 ∷ 501 ∷ []

-- ---- resources

-- the resources, in the order of their first operations
abbrev pub resources : List DialectResource
resources =
    resource.Start ∷ resource.Actions ∷ resource.Action ∷ resource.Close ∷ resource.Cancel ∷ resource.Remove
    ∷ resource.Renew ∷ resource.Status ∷ resource.Recovery ∷ resource.Failed ∷ resource.Member ∷ resource.RecoveryUri
    ∷ resource.NestedStatus ∷ resource.NestedComplete ∷ resource.NestedCompensate ∷ resource.NestedForget ∷ []

-- a resource's path; `{id}` is a piece between slashes that isn't empty
abbrev pub path_of : DialectResource → List ℕ
path_of resource.Start = codes "/lra-coordinator/start"
path_of resource.Actions = codes "/lra-coordinator"
path_of resource.Action = codes "/lra-coordinator/{id}"
path_of resource.Close = codes "/lra-coordinator/{id}/close"
path_of resource.Cancel = codes "/lra-coordinator/{id}/cancel"
path_of resource.Remove = codes "/lra-coordinator/{id}/remove"
path_of resource.Renew = codes "/lra-coordinator/{id}/renew"
path_of resource.Status = codes "/lra-coordinator/{id}/status"
path_of resource.Recovery = codes "/lra-coordinator/recovery"
path_of resource.Failed = codes "/lra-coordinator/recovery/failed"
path_of resource.Member = codes "/lra-coordinator/recovery/{id}/{member}"
path_of resource.RecoveryUri = codes "/lra-recovery/{id}"
path_of resource.NestedStatus = codes "/lra-coordinator/nested/{id}/status"
path_of resource.NestedComplete = codes "/lra-coordinator/nested/{id}/complete"
path_of resource.NestedCompensate = codes "/lra-coordinator/nested/{id}/compensate"
path_of resource.NestedForget = codes "/lra-coordinator/nested/{id}/forget"

-- an operation's path
abbrev pub path : DialectOperation → List ℕ
path o = path_of (named_resource o)

-- an operation is at a resource
abbrev pub is_at : DialectResource → DialectOperation → Bool
is_at p o = bytes_eq (path o) (path_of p)

-- a method asks for an operation at a resource; methods are case-sensitive (RFC 9110, section 9.1)
abbrev pub is_asked : List ℕ → DialectResource → DialectOperation → Bool
is_asked m p o = is_at p o && bytes_eq m (method o)

-- the operation that a method asks for at a resource, if there is one
unfoldable pub operation_at : List ℕ → DialectResource → Option DialectOperation
operation_at m p = find (is_asked m p) operations

-- the methods that a resource accepts: those of its operations
abbrev pub methods_of : DialectResource → DialectMethods
methods_of resource.Start = methods.Post
methods_of resource.Actions = methods.Get
methods_of resource.Action = methods.GetPut
methods_of resource.Close = methods.Put
methods_of resource.Cancel = methods.Put
methods_of resource.Remove = methods.Put
methods_of resource.Renew = methods.Put
methods_of resource.Status = methods.Get
methods_of resource.Recovery = methods.Get
methods_of resource.Failed = methods.Get
methods_of resource.Member = methods.GetPut
methods_of resource.RecoveryUri = methods.GetPut
methods_of resource.NestedStatus = methods.Get
methods_of resource.NestedComplete = methods.Put
methods_of resource.NestedCompensate = methods.Put
methods_of resource.NestedForget = methods.Put
