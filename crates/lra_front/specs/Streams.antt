-- What a stream of requests does: they are answered one after another, until the stream is closed.
use Rattle.std.specs.Prelude.{◌≡◌, ◌⊎◌, ℕ, zero, suc, Bool, true, false, ◌||◌, List, [], bytes_eq, codes, Option, Some}
use Rattle.std.specs.Prelude.{None, IfSome, Result}
use Rattle.std.specs.Option.{option_map_or}
use Rattle.std.specs.Io.KnownBytes.{Appends, Keeps}
use Rattle.lra_wire.specs.declared.fault.WireFault.{WireFault}
use Rattle.lra_wire.specs.declared.fault.WireFault.TheVariants as wire
use Rattle.lra_wire.specs.Request.{Request, IsRequest, RefusesRequest}
use Rattle.lra_wire.specs.Streams.{IfBothKnown}
use Rattle.lra_wire.specs.Writing.{AppendsFront}
use Rattle.lra_commands.specs.declared.command.Told.{Told}
use Rattle.lra_commands.specs.declared.counter.Order.{Order}
use Rattle.lra_commands.specs.declared.counter.CounterFault.{CounterFault}
use Rattle.lra_commands.specs.declared.refusal.Refusal.TheVariants as refusal
use Rattle.lra_commands.specs.Counters.{Sight}
use Rattle.lra_front.specs.declared.api_error.ApiError.TheVariants as api_error
use Rattle.lra_front.specs.declared.answer.Answer.{Answer}
use Rattle.lra_front.specs.declared.answer.Answer.TheVariants.{Denied}
use Rattle.lra_front.specs.declared.stream.StreamEnd.{StreamEnd}
use Rattle.lra_front.specs.declared.stream.StreamEnd.TheVariants.{Done, Refused, WriteFault}
use Rattle.lra_front.specs.declared.stream.Served.{Served}
use Rattle.lra_front.specs.declared.stream.Served.TheVariants.{Going, Ended}
use Rattle.lra_front.specs.Replies.{reply_bytes}
use Rattle.lra_front.specs.Serving.{Responds}

-- the state of a stream: the bytes to come and those that were written, where they are known, what is known of the
-- counter, and the clock
pub record Standing (K : Type 0) : Type 0 where
  pub bytes : Option (List ℕ)
  pub sight : Sight
  pub clock : K
  pub out : Option (List ℕ)

-- the state of a stream, from its parts
abbrev pub standing : {K : Type 0} → Option (List ℕ) → Sight → K → Option (List ℕ) → Standing K
standing bytes sight clock out = record { bytes = bytes; sight = sight; clock = clock; out = out }

-- the answer to a fault of reading: none where the stream was cut or failed
abbrev pub fault_answer : WireFault → Option Answer
fault_answer wire.BadHead = Some (Denied api_error.BadHead)
fault_answer wire.Chunked = Some (Denied api_error.Chunked)
fault_answer wire.BadLength = Some (Denied api_error.BadLength)
fault_answer wire.TooLarge = Some (Denied api_error.TooLarge)
fault_answer wire.Cut = None
fault_answer wire.Io = None
fault_answer wire.Memory = Some (Denied (api_error.Refused refusal.Memory))

-- the reply to a fault of reading, which closes the stream, or nothing where there is none
abbrev pub fault_text : Sight → WireFault → List ℕ
fault_text v fault = option_map_or (λ a. reply_bytes v.setting.instance v.setting.base a false true)
    (fault_answer fault) []

-- only the head of a reply is asked for (RFC 9110, section 9.3.2)
abbrev pub is_head : Request → Bool
is_head request = bytes_eq request.method (codes "HEAD")

-- the stream is closed after a request: it asks for that, or it is the last that is accepted (this project's limit)
abbrev pub closes_after : Bool → Request → Bool
closes_after last request = request.close || last

-- the reply to a request
abbrev pub reply_to : Sight → Bool → Request → Answer → List ℕ
reply_to v last request a = reply_bytes v.setting.instance v.setting.base a (is_head request)
    (closes_after last request)

module _ {K : Type 0} (gives : Sight → ℕ → Order → Result Told CounterFault → Sight → Type 0)
    (tells : K → ℕ → K → Type 0) where
  -- a request is read, the clock returns the moment, and at most one order is given, whatever becomes of the reply
  pub record Exchange (s t : Standing K) (request : Request) (a : Answer) : Type 0 where
    pub read : IfBothKnown s.bytes t.bytes (λ xs ys. IsRequest xs request ys)
    pub moment : ℕ
    pub clocked : tells s.clock moment t.clock
    pub responds : Responds gives s.sight moment request t.sight a

  -- a request is answered, and the stream goes on or is closed
  pub record Replied (last closed : Bool) (s t : Standing K) : Type 0 where
    pub request : Request
    pub answer : Answer
    pub exchange : Exchange s t request answer
    pub closes : closes_after last request ≡ closed
    pub wrote : Appends s.out t.out (reply_to t.sight last request answer)

  -- a request is done, and a proper prefix of its reply was written
  pub record ReplyFailed (last : Bool) (s t : Standing K) : Type 0 where
    pub request : Request
    pub answer : Answer
    pub exchange : Exchange s t request answer
    pub wrote : AppendsFront s.out t.out (reply_to t.sight last request answer)

  -- nothing is done
  pub record Rests (s t : Standing K) : Type 0 where
    pub sight : t.sight ≡ s.sight
    pub clock : t.clock ≡ s.clock

  -- there is no further request
  pub record Finished (s t : Standing K) : Type 0 where
    pub read : IfBothKnown s.bytes t.bytes (λ xs ys. (xs ≡ []) × (ys ≡ []))
    pub rests : Rests s t
    pub wrote : Keeps s.out t.out

  -- no request is read, because of that fault, and this much of the reply to it was written
  pub record Faulted (Wrote : Option (List ℕ) → Option (List ℕ) → List ℕ → Type 0) (s t : Standing K)
      (fault : WireFault) : Type 0 where
    pub read : IfSome s.bytes (λ bytes. RefusesRequest bytes fault)
    pub rests : Rests s t
    pub wrote : Wrote s.out t.out (fault_text s.sight fault)

  -- how the stream ends at a request
  abbrev pub EndsAt : Bool → Standing K → StreamEnd → Standing K → Type 0
  EndsAt last s Done t = Finished s t ⊎ Replied last true s t
  EndsAt last s (Refused fault) t = Faulted Appends s t fault
  EndsAt last s WriteFault t = ReplyFailed last s t ⊎ ((fault : WireFault) × Faulted AppendsFront s t fault)

  -- what the next request of a stream does
  abbrev pub Serves : Bool → Standing K → Served → Standing K → Type 0
  Serves last s Going t = Replied last false s t
  Serves last s (Ended end) t = EndsAt last s end t

  -- What a stream does of which so many requests are accepted and one more: the next one, and then the rest.
  unfoldable pub ServesUpTo : ℕ → Standing K → StreamEnd → Standing K → Type 0
  ServesUpTo zero s end t = EndsAt true s end t
  ServesUpTo (suc n) s end t = EndsAt false s end t ⊎ ((u : Standing K) × Replied false false s u
      × ServesUpTo n u end t)

  -- Memory was refused before anything was read, so that nothing is done.
  pub record NotBegun (s : Standing K) (end : StreamEnd) (t : Standing K) : Type 0 where
    pub memory : end ≡ Refused wire.Memory
    pub rests : Rests s t
    pub wrote : Keeps s.out t.out

  -- what a stream does: at most 1,000 requests of it are accepted (this project's limit)
  abbrev pub ServesStream : Standing K → StreamEnd → Standing K → Type 0
  ServesStream s end t = NotBegun s end t ⊎ ServesUpTo 999 s end t
