-- What was exchanged of a callback so far, and what is true of it.
use Rattle.std.specs.Prelude.{◌≡◌, ℕ, ◌+◌, ◌-◌, ◌≤◌, Bool, true, false, ◌||◌, List, [], ◌++◌, length, Option, Some}
use Rattle.std.specs.Prelude.{None, is_some, IfSome, Result, Ok, Err, IsTrue, if◌then◌else◌}
use Rattle.lra_model.specs.declared.asks.AskKind.{AskKind}
use Rattle.lra_model.specs.declared.asks.Direction.{Direction}
use Rattle.lra_model.specs.declared.asks.Outcome.{Outcome}
use Rattle.lra_model.specs.Words.{outcome_suits}
use Rattle.lra_wire.specs.declared.fault.WireFault.{WireFault}
use Rattle.lra_wire.specs.declared.fault.WireFault.TheVariants.{BadHead, Chunked, BadLength, TooLarge, Cut, Io, Memory}
use Rattle.lra_wire.specs.Response.{IsResponse, RefusesResponse}
use Rattle.lra_courier.specs.declared.fault.SendFault.TheVariants as send
use Rattle.lra_courier.specs.declared.fault.CallFault.{CallFault}
use Rattle.lra_courier.specs.declared.fault.CallFault.TheVariants.{Unreached, Send, Reply}
use Rattle.lra_courier.specs.Callbacks.{Calling, request_bytes}
use Rattle.lra_courier.specs.Replies.{classify}

-- all that was exchanged
pub record Carried : Type 0 where
  -- what the member is asked, and in which direction
  pub kind : AskKind
  pub direction : Direction
  pub request : List ℕ
  -- the number of bytes of the request that were sent
  pub advance_by : ℕ
  -- all bytes that were accepted, whether no more come, and whether the stream has failed
  pub taken : List ℕ
  pub closed : Bool
  pub failed : Bool
  -- the result, once there is one
  pub came : Option (Result Outcome CallFault)

-- the bytes are a response and then the rest, and this is the outcome of the response
pub record IsReply (kind : AskKind) (direction : Direction) (bytes rest : List ℕ) (outcome : Outcome) : Type 0 where
  pub code : ℕ
  pub body : List ℕ
  pub response : IsResponse bytes code body rest
  pub class : outcome ≡ classify kind direction code body
  pub suits : IsTrue (outcome_suits kind outcome)

-- P holds of each stream that begins with these bytes. Where no more come, it holds of the one that ends with them.
abbrev pub OfStream : Bool → List ℕ → (List ℕ → Type 0) → Type 0
OfStream closed bytes P = (more : List ℕ) → (IsTrue closed → more ≡ []) → P (bytes ++ more)

-- The result of the stream after a request: the outcome of the response that it begins with, or why it begins with
-- none, or that it has failed.
abbrev pub Replies : Bool → Bool → AskKind → Direction → List ℕ → Result Outcome WireFault → Type 0
Replies closed failed kind direction bytes (Ok outcome) = OfStream closed bytes
    (λ stream. (rest : List ℕ) × IsReply kind direction stream rest outcome)
Replies closed failed kind direction bytes (Err BadHead) = OfStream closed bytes
    (λ stream. RefusesResponse stream BadHead)
Replies closed failed kind direction bytes (Err Chunked) = OfStream closed bytes
    (λ stream. RefusesResponse stream Chunked)
Replies closed failed kind direction bytes (Err BadLength) = OfStream closed bytes
    (λ stream. RefusesResponse stream BadLength)
Replies closed failed kind direction bytes (Err TooLarge) = OfStream closed bytes
    (λ stream. RefusesResponse stream TooLarge)
Replies closed failed kind direction bytes (Err Cut) = OfStream closed bytes (λ stream. RefusesResponse stream Cut)
Replies closed failed kind direction bytes (Err Io) = IsTrue failed
Replies closed failed kind direction bytes (Err Memory) = ⊥

-- all of the request was sent
abbrev pub IsSent : Carried → Type 0
IsSent h = h.advance_by ≡ length h.request

-- The result, as `Converses` defines it for a request and its response: the response counts only where all of the
-- request was sent.
abbrev pub Comes : Carried → Result Outcome CallFault → Type 0
Comes h (Ok outcome) = IsSent h × Replies h.closed h.failed h.kind h.direction h.taken (Ok outcome)
Comes h (Err (Reply fault)) = IsSent h × Replies h.closed h.failed h.kind h.direction h.taken (Err fault)
Comes h (Err (Send fault)) = (fault ≡ send.Io) × IsTrue h.failed
Comes h (Err Unreached) = ⊥

-- What is true of every callback exchange, after any calls.
pub record IsCarried (h : Carried) : Type 0 where
  pub within : h.advance_by ≤ length h.request
  pub bound : length h.taken ≤ 1048576
  pub came : IfSome h.came (Comes h)

-- a callback of which nothing was exchanged yet
abbrev pub begun : Calling → Carried
begun calling = record {
  kind = calling.kind;
  direction = calling.direction;
  request = request_bytes calling;
  advance_by = 0;
  taken = [];
  closed = false;
  failed = false;
  came = None;
}

-- how many more bytes are accepted: no more are kept than the largest response has (this project's choice)
abbrev pub room_of : Carried → ℕ
room_of h = if h.closed || h.failed || is_some h.came then 0 else 1048576 - length h.taken

-- so many more bytes of the request were sent
abbrev pub went : Carried → ℕ → Carried
went h count = record h { advance_by = h.advance_by + count }

-- these bytes were accepted
abbrev pub took : Carried → List ℕ → Carried
took h more = record h { taken = h.taken ++ more }

-- no more bytes come
abbrev pub finished : Carried → Carried
finished h = record h { closed = true }

-- the stream has failed
abbrev pub broken : Carried → Carried
broken h = record h { failed = true }

-- the exchange has that result
abbrev pub tells : Carried → Result Outcome CallFault → Carried
tells h told = record h { came = Some told }
