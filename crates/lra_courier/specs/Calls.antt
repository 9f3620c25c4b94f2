-- The result of a call over the connections that a dialler opens.
use Rattle.std.specs.Prelude.{◌≡◌, ◌⊎◌, ℕ, true, false, List, Option, Some, None, Result, Err, ⊤}
use Rattle.lra_model.specs.declared.asks.AskKind.{AskKind}
use Rattle.lra_model.specs.declared.asks.Outcome.{Outcome}
use Rattle.lra_model.specs.Words.{outcome_suits}
use Rattle.lra_ids.specs.Addresses.{is_address}
use Rattle.lra_commands.specs.Errands.{Asking}
use Rattle.lra_courier.specs.declared.fault.SendFault.TheVariants.{BadAddress, Io, Memory}
use Rattle.lra_courier.specs.declared.fault.CallFault.{CallFault}
use Rattle.lra_courier.specs.declared.fault.CallFault.TheVariants.{Unreached, Send, Reply}
use Rattle.lra_courier.specs.Callbacks.{Calling, calling_of}
use Rattle.lra_courier.specs.Exchanges.{Converses, ComesOf}
use Rattle.lra_courier.specs.Sockets.{socket_text}

-- the relation of a dialler: what it returns for a socket's text, a stream or none
abbrev pub Giving : Type 0 → Type 0 → Type 1
Giving D S = D → List ℕ → Option S → Type 0

-- the connection that was opened to the socket of an address
abbrev pub Reaches : {D S : Type 0} → Giving D S → D → List ℕ → S → Type 0
Reaches gives d address stream = (is_address address ≡ true) × gives d (socket_text address) (Some stream)

-- why there is no connection to the socket of an address: none could be opened, or the text is no address, or memory
-- was refused
abbrev pub Lacks : {D S : Type 0} → Giving D S → D → List ℕ → CallFault → Type 0
Lacks gives d address Unreached = (is_address address ≡ true) × gives d (socket_text address) None
Lacks gives d address (Send BadAddress) = is_address address ≡ false
Lacks gives d address (Send Memory) = ⊤
Lacks gives d address (Send Io) = ⊥
Lacks gives d address (Reply fault) = ⊥

-- the result of a request and its response over the connection that was opened: the bytes of the response are those
-- that come after the request was sent
pub record CallsOver {D S : Type 0} (gives : Giving D S) (contents remaining : S → Option (List ℕ)) (d : D)
    (c : Calling) (told : Result Outcome CallFault) : Type 0 where
  pub stream : S
  pub sent : S
  pub reached : Reaches gives d c.address stream
  pub converses : Converses (contents stream) (contents sent) (remaining sent) c told

-- the result of a call: why there was no connection, or the result over the one that was opened
abbrev pub Calls : {D S : Type 0} → Giving D S → (S → Option (List ℕ)) → (S → Option (List ℕ)) → D → Calling
    → Result Outcome CallFault → Type 0
Calls gives contents remaining d c told =
    ((fault : CallFault) × (told ≡ Err fault) × Lacks gives d c.address fault)
    ⊎ CallsOver gives contents remaining d c told

-- an outcome for an ask of this number and kind: it suits the kind, and is that of a call for an errand of that ask
pub record Carries {D S : Type 0} (gives : Giving D S) (contents remaining : S → Option (List ℕ)) (ask : ℕ)
    (kind : AskKind) (outcome : Outcome) : Type 0 where
  pub suits : outcome_suits kind outcome ≡ true
  pub dialler : D
  pub errand : Asking
  pub of_ask : errand.ask ≡ ask
  pub of_kind : errand.kind ≡ kind
  pub came : ComesOf (Calls gives contents remaining dialler (calling_of errand)) outcome
