-- What a callback does to its streams.
use Rattle.std.specs.Prelude.{◌≡◌, ◌≢◌, ℕ, false, List, ◌++◌, Option, IfSome, Result, Ok, Err}
use Rattle.std.specs.Result.{result_unwrap_or}
use Rattle.std.specs.Io.KnownBytes.{Appends, Keeps}
use Rattle.lra_model.specs.declared.asks.Outcome.{Outcome}
use Rattle.lra_model.specs.declared.asks.Outcome.TheVariants.{Silent}
use Rattle.lra_ids.specs.Addresses.{is_address}
use Rattle.lra_wire.specs.Response.{IsResponse, RefusesResponse}
use Rattle.lra_wire.specs.Writing.{AppendsFront}
use Rattle.lra_courier.specs.declared.fault.SendFault.{SendFault}
use Rattle.lra_courier.specs.declared.fault.SendFault.TheVariants.{BadAddress, Io, Memory}
use Rattle.lra_courier.specs.declared.fault.CallFault.{CallFault}
use Rattle.lra_courier.specs.declared.fault.CallFault.TheVariants.{Unreached, Send, Reply}
use Rattle.lra_courier.specs.Replies.{classify}
use Rattle.lra_courier.specs.Callbacks.{Calling, request_bytes}

-- All of the request was written. Or none of it, since the text is no address or memory was refused. Or a proper
-- prefix, since the writer failed or accepted nothing.
abbrev pub Posts : Option (List ℕ) → Option (List ℕ) → Calling → Result (Unit {0}) SendFault → Type 0
Posts old new c (Ok u) = Appends old new (request_bytes c)
Posts old new c (Err BadAddress) = Keeps old new × (is_address c.address ≡ false)
Posts old new c (Err Memory) = Keeps old new
Posts old new c (Err Io) = AppendsFront old new (request_bytes c)

-- the bytes are a response and then the rest, and this is the outcome of the response
pub record IsAnswer (c : Calling) (bytes rest : List ℕ) (outcome : Outcome) : Type 0 where
  pub code : ℕ
  pub body : List ℕ
  pub response : IsResponse bytes code body rest
  pub class : outcome ≡ classify c.kind c.direction code body

-- the text was written, or a prefix of it
abbrev pub AppendsSome : Option (List ℕ) → Option (List ℕ) → List ℕ → Type 0
AppendsSome old new text = (front : List ℕ) × (rest : List ℕ) × (text ≡ front ++ rest) × Appends old new front

-- A request and its response, over streams that may be known. A prefix of the request was written. The outcome is
-- Silent, or all of the request was written, and the outcome is that of the response which the bytes begin with.
pub record Exchanges (old new stream : Option (List ℕ)) (c : Calling) (outcome : Outcome) : Type 0 where
  pub front : AppendsSome old new (request_bytes c)
  pub whole : outcome ≢ Silent → Appends old new (request_bytes c)
  pub answer : outcome ≢ Silent → IfSome stream (λ bytes. (rest : List ℕ) × IsAnswer c bytes rest outcome)

-- the result of the bytes after a request: the outcome of the response that they begin with, or why they are no
-- response
abbrev pub Answers : Option (List ℕ) → Calling → Result Outcome CallFault → Type 0
Answers stream c (Ok outcome) = IfSome stream (λ bytes. (rest : List ℕ) × IsAnswer c bytes rest outcome)
Answers stream c (Err (Reply fault)) = IfSome stream (λ bytes. RefusesResponse bytes fault)
Answers stream c (Err (Send fault)) = ⊥
Answers stream c (Err Unreached) = ⊥

-- The result of a request and its response, over streams that may be known: why the request wasn't sent, or once all of
-- it was written, the result of the bytes after it.
abbrev pub Converses : Option (List ℕ) → Option (List ℕ) → Option (List ℕ) → Calling → Result Outcome CallFault → Type 0
Converses old new stream c (Ok outcome) = Appends old new (request_bytes c) × Answers stream c (Ok outcome)
Converses old new stream c (Err (Reply fault)) = Appends old new (request_bytes c)
    × Answers stream c (Err (Reply fault))
Converses old new stream c (Err (Send fault)) = Posts old new c (Err fault)
Converses old new stream c (Err Unreached) = ⊥

-- the outcome is that of the result, and Silent stands for each fault (this project's choice)
abbrev pub ComesOf : (Result Outcome CallFault → Type 0) → Outcome → Type 0
ComesOf Told outcome = (told : Result Outcome CallFault) × Told told × (outcome ≡ result_unwrap_or told Silent)
