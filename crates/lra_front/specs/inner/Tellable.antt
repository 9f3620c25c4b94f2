-- What a counter can return for an API request.
use Rattle.std.specs.Prelude.{Result, Ok, Err, ⊤}
use Rattle.lra_commands.specs.declared.command.Told.{Told}
use Rattle.lra_commands.specs.declared.command.Told.TheVariants as told
use Rattle.lra_commands.specs.declared.counter.CounterFault.{CounterFault}
use Rattle.lra_commands.specs.Counters.{IsIdentifiable}
use Rattle.lra_front.specs.declared.api_request.ApiRequest.{ApiRequest}
use Rattle.lra_front.specs.declared.api_request.ApiRequest.TheVariants as api_request

-- one kind of result for each API request, with numbers that identifiers can have
abbrev pub IsTellable : ApiRequest → Told → Type 0
IsTellable (api_request.Start parent limit) (told.Action n) = IsIdentifiable n
IsTellable (api_request.Join action uris) (told.Member n) = IsIdentifiable n
IsTellable (api_request.Join action uris) (told.AlreadyMember n) = IsIdentifiable n
IsTellable (api_request.Leave action m) told.Left = ⊤
IsTellable (api_request.Close action) (told.Now status) = ⊤
IsTellable (api_request.Close action) (told.Already status) = ⊤
IsTellable (api_request.Cancel action) (told.Now status) = ⊤
IsTellable (api_request.Cancel action) (told.Already status) = ⊤
IsTellable (api_request.Renew action limit) told.Renewed = ⊤
IsTellable (api_request.Status action) (told.ActionIs status) = IsIdentifiable action
IsTellable (api_request.Report m e) (told.MemberNow status) = ⊤
IsTellable (api_request.Report m e) (told.MemberAlready status) = ⊤
IsTellable (api_request.MemberStatus m) (told.MemberIs status) = ⊤
IsTellable _ _ = ⊥

-- a reply that can be answered
abbrev pub IsAnswerable : ApiRequest → Result Told CounterFault → Type 0
IsAnswerable w (Ok t) = IsTellable w t
IsAnswerable w (Err fault) = ⊤
