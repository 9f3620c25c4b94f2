-- Paths, operations and replies worked out by hand.
use Rattle.std.proofs.Common.{◌≡◌, ◌++◌, ℕ, List, [], ◌∷◌, map, length, codes, Option, Some, None, true, false, refl}
use Rattle.std.specs.Prelude.{filter}
use Rattle.std.specs.Fmt.{digits}
use Rattle.matchit.proofs.OnLiterals.{matchit_on_literals}
use Rattle.serde_json.proofs.OnLiterals.{serde_json_on_literals}
use denote.Ref.{Bor}
use Rattle.lra_model.specs.declared.status.ActionStatus.TheVariants as action
use Rattle.lra_model.specs.declared.status.Ending.{Ending}
use Rattle.lra_model.specs.Addresses.{Addresses}
use Rattle.lra_model.specs.History.{History}
use Rattle.lra_commands.specs.declared.counter.Order.TheVariants as order
use Rattle.lra_commands.specs.declared.limits.Terms.{Terms}
use Rattle.lra_commands.specs.Calls.{Call}
use Rattle.lra_commands.specs.Refusals.{Ground, grounds}
use Rattle.lra_commands.specs.Counters.{call_of}
use Rattle.lra_front.specs.declared.operation.Operation.TheVariants as operation
use Rattle.lra_front.specs.declared.operation.Resource.TheVariants as resource
use Rattle.lra_front.specs.declared.api_error.ApiError.TheVariants as api_error
use Rattle.lra_front.specs.declared.answer.Answer.TheVariants as answer
use Rattle.std.specs.List.{list_any}
use Rattle.lra_front.specs.Operations.{operations, resources, named_resource, method, is_at, operation_at, allowed}
use Rattle.lra_front.specs.Operations.{success, refusals}
use Rattle.lra_front.specs.Routes.{place_of, id_in}
use Rattle.lra_front.specs.Replies.{refusal_code, api_error_code, turned_code, reply_bytes, line_end}
use Rattle.lra_front.specs.Listed.{has_code}

-- ---- paths

unfoldable targets : List (List ℕ)
targets =
    codes "/lra-coordinator" ∷ codes "/lra-coordinator/close" ∷ codes "/lra-coordinator/x/close"
    ∷ codes "/lra-recovery/x"
    ∷ codes "/lra-coordinator/" ∷ codes "/lra-coordinator?x=1" ∷ codes "/lra-recovery/x?"
    ∷ codes "/lra-coordinator/x?y/close" ∷ []

-- no ID, and a query at the end, after the ID, and amid the path
named : map place_of targets
    ≡ Some resource.Actions ∷ Some resource.Action ∷ Some resource.Close ∷ Some resource.Member ∷ None ∷ None ∷ None ∷
    None ∷ []
unfolding targets place_of matchit_on_literals
named = refl

id_of_close : id_in (codes "/lra-coordinator/x-y/close") ≡ codes "x-y"
unfolding id_in
id_of_close = refl

-- ---- operations

-- each operation is the one that its method asks for at its resource, and each resource has an operation
own : map (λ o. operation_at (method o) (named_resource o)) operations ≡ map Some operations
own = refl

firsts : map (λ p. list_any (is_at p) operations) resources ≡ true ∷ true ∷ true ∷ true ∷ true ∷ true ∷ true ∷ []
firsts = refl

allows : map allowed resources
    ≡ codes "POST" ∷ codes "GET, PUT" ∷ codes "PUT" ∷ codes "PUT" ∷ codes "PUT" ∷ codes "PUT" ∷ codes "GET, PUT" ∷ []
allows = refl

-- ---- codes

-- the table has no code more: those of success are of answers
reached : map turned_code (action.Closed ∷ action.Closing ∷ []) ≡ success operation.Close
reached = refl

single : map (λ o. length (success o)) operations ≡ 1 ∷ 1 ∷ 1 ∷ 2 ∷ 2 ∷ 1 ∷ 1 ∷ 1 ∷ 1 ∷ []
single = refl

-- the codes of refusals, in their order
abbrev all_codes : List ℕ
all_codes = 400 ∷ 404 ∷ 409 ∷ 410 ∷ 412 ∷ 500 ∷ 503 ∷ []

-- the codes of the grounds on which a call may be refused
abbrev ground_codes : Terms → History → Call → List ℕ
ground_codes s J c = map (λ (g : Ground). refusal_code g.0) (grounds s J c)

-- those codes, and that of a body that isn't read
abbrev codes_had : List ℕ → Terms → History → Call → List ℕ
codes_had more s J c = filter (λ code. has_code code (more ++ ground_codes s J c)) all_codes

abbrev bad_body : List ℕ
bad_body = api_error_code api_error.BadBody ∷ []

start_codes : (s : Terms) (J : History) (by m l : ℕ) (p : Option ℕ)
    → codes_had bad_body s J (call_of by m (order.Start p l)) ≡ refusals operation.Start
start_codes s J by m l p = refl

status_codes : (s : Terms) (J : History) (by m a : ℕ)
    → codes_had [] s J (call_of by m (order.Status a)) ≡ refusals operation.Status
status_codes s J by m a = refl

join_codes : (s : Terms) (J : History) (by m a : ℕ) (given : Bor Addresses)
    → codes_had bad_body s J (call_of by m (order.Join a given)) ≡ refusals operation.Join
join_codes s J by m a given = refl

close_codes : (s : Terms) (J : History) (by m a : ℕ)
    → codes_had bad_body s J (call_of by m (order.Close a)) ≡ refusals operation.Close
close_codes s J by m a = refl

cancel_codes : (s : Terms) (J : History) (by m a : ℕ)
    → codes_had bad_body s J (call_of by m (order.Cancel a)) ≡ refusals operation.Cancel
cancel_codes s J by m a = refl

remove_codes : (s : Terms) (J : History) (by m a p : ℕ)
    → codes_had bad_body s J (call_of by m (order.Leave a p)) ≡ refusals operation.Remove
remove_codes s J by m a p = refl

renew_codes : (s : Terms) (J : History) (by m a l : ℕ)
    → codes_had bad_body s J (call_of by m (order.Renew a l)) ≡ refusals operation.Renew
renew_codes s J by m a l = refl

member_codes : (s : Terms) (J : History) (by m p : ℕ)
    → codes_had [] s J (call_of by m (order.MemberStatus p)) ≡ refusals operation.MemberStatus
member_codes s J by m p = refl

report_codes : (s : Terms) (J : History) (by m p : ℕ) (e : Ending)
    → codes_had bad_body s J (call_of by m (order.Report p e)) ≡ refusals operation.Report
report_codes s J by m p e = refl

-- ---- replies

not_found : reply_bytes 7 (codes "http://h/") (answer.Denied api_error.NoSuchPath) false false
    ≡ codes "HTTP/1.1 404 Not Found" ++ line_end ++ codes "Content-Type: application/json" ++ line_end
    ++ codes "Content-Length: 22" ++ line_end
    ++ line_end ++ codes "{\"error\":\"NoSuchPath\"}"
unfolding reply_bytes digits serde_json_on_literals
not_found = refl
