-- The operations of the operators' port, in one table (this project's own).
use Rattle.std.specs.Prelude.{ℕ, List, [], ◌∷◌, Bool, true, false, codes}
use Rattle.lra_operators.specs.declared.operation.Operation.{Operation}
use Rattle.lra_operators.specs.declared.operation.Operation.TheVariants as operation

-- the operations, in the order in which they are listed
abbrev pub operations : List Operation
operations =
    operation.Health ∷ operation.Live ∷ operation.Ready ∷ operation.Started ∷ operation.Metrics ∷ operation.Actions
    ∷ operation.Action ∷ operation.Close ∷ operation.Cancel ∷ operation.GiveUp ∷ operation.Home ∷ operation.Tree ∷ []

-- an operation's path; `{id}` is a piece between slashes that isn't empty
abbrev pub path : Operation → List ℕ
path operation.Health = codes "/health"
path operation.Live = codes "/health/live"
path operation.Ready = codes "/health/ready"
path operation.Started = codes "/health/started"
path operation.Metrics = codes "/metrics"
path operation.Actions = codes "/actions"
path operation.Action = codes "/actions/{id}"
path operation.Close = codes "/actions/{id}/close"
path operation.Cancel = codes "/actions/{id}/cancel"
path operation.GiveUp = codes "/members/{id}/give-up"
path operation.Home = codes "/"
path operation.Tree = codes "/page/actions/{id}"

-- an operation's method: the only one that its path accepts
abbrev pub method : Operation → List ℕ
method operation.Health = codes "GET"
method operation.Live = codes "GET"
method operation.Ready = codes "GET"
method operation.Started = codes "GET"
method operation.Metrics = codes "GET"
method operation.Actions = codes "GET"
method operation.Action = codes "GET"
method operation.Close = codes "POST"
method operation.Cancel = codes "POST"
method operation.GiveUp = codes "POST"
method operation.Home = codes "GET"
method operation.Tree = codes "GET"

-- whether an operation gives an order
abbrev pub is_order : Operation → Bool
is_order operation.Close = true
is_order operation.Cancel = true
is_order operation.GiveUp = true
is_order _ = false

-- a sentence that says what an operation does
abbrev pub summary : Operation → List ℕ
summary operation.Health =
    codes "Returns whether it takes requests and keeps what it answers, by MicroProfile Health 4.0"
summary operation.Live = codes "Returns whether it has to be started anew"
summary operation.Ready = codes "Returns whether it takes what is begun"
summary operation.Started = codes "Returns whether it has started"
summary operation.Metrics = codes "Returns the measures, in Prometheus' text format 0.0.4"
summary operation.Actions = codes "Lists the actions of a journal, page by page"
summary operation.Action = codes "Returns an action, with its members and the actions nested in it"
summary operation.Close = codes "Closes an action, as a service does"
summary operation.Cancel = codes "Cancels an action, as a service does"
summary operation.GiveUp =
    codes "Makes a member's report that it has failed, on its behalf; or ends what a member that has ended is asked"
summary operation.Home = codes "Shows counts, and what hasn't ended or has a status"
summary operation.Tree = codes "Shows an action"

-- the status codes of an operation's replies when it is done: for health also 503, if the service is down; for an order
-- also 303, if a form gave it
abbrev pub success : Operation → List ℕ
success operation.Health = 200 ∷ 503 ∷ []
success operation.Live = 200 ∷ 503 ∷ []
success operation.Ready = 200 ∷ 503 ∷ []
success operation.Started = 200 ∷ 503 ∷ []
success operation.Metrics = 200 ∷ []
success operation.Actions = 200 ∷ []
success operation.Action = 200 ∷ []
success operation.Close = 200 ∷ 303 ∷ []
success operation.Cancel = 200 ∷ 303 ∷ []
success operation.GiveUp = 200 ∷ 303 ∷ []
success operation.Home = 200 ∷ []
success operation.Tree = 200 ∷ []
