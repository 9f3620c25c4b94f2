-- A request that was sent, and the response to it.
use Rattle.std.proofs.Common.{◌≡◌, ℕ, List, [], Option, Some, None, IfSome, Result, Ok, Err, refl, sym, subst, ◌∙◌}
use Rattle.std.specs.Result.{result_unwrap_or}
use Rattle.std.specs.Io.KnownBytes.{Appends, Keeps}
use Rattle.std.proofs.lemmas.List.{append-nil}
use Rattle.lra_model.specs.declared.asks.Outcome.{Outcome}
use Rattle.lra_model.specs.declared.asks.Outcome.TheVariants.{Silent}
use Rattle.lra_wire.specs.Streams.{IfBothKnown}
use Rattle.lra_courier.specs.declared.fault.SendFault.TheVariants.{BadAddress, Io, Memory}
use Rattle.lra_courier.specs.declared.fault.CallFault.{CallFault}
use Rattle.lra_courier.specs.declared.fault.CallFault.TheVariants.{Unreached, Send, Reply}
use Rattle.lra_courier.specs.Callbacks.{Calling, request_bytes}
use Rattle.lra_courier.specs.Exchanges.{IsAnswer, AppendsSome, Exchanges, Answers, Converses}

-- the answer is that of the bytes that had to come, whatever is left of them
pub answered : (c : Calling) (outcome : Outcome) (kept after : Option (List ℕ))
    → IfBothKnown kept after (λ bytes rest. IsAnswer c bytes rest outcome)
    → IfSome kept (λ bytes. (rest : List ℕ) × IsAnswer c bytes rest outcome)
answered c outcome None after h = tt
answered c outcome (Some bytes) None h = absurd h
answered c outcome (Some bytes) (Some rest) h = (rest, h)

-- a request that was sent, and the result of the bytes of an inbox over the stream
pub conversed : (old new stream kept : Option (List ℕ)) (c : Calling) (told : Result Outcome CallFault)
    → Appends old new (request_bytes c) → kept ≡ stream
    → Answers kept c told → Converses old new stream c told
conversed old new stream kept c (Ok outcome) sent e h =
    (sent, subst (λ (known : Option (List ℕ)). Answers known c (Ok outcome)) e h)
conversed old new stream kept c (Err (Reply fault)) sent e h = (
  sent,
  subst
      (λ (known : Option (List ℕ)). Answers known c (Err (Reply fault))) e h,
)
conversed old new stream kept c (Err (Send fault)) sent e h = absurd h
conversed old new stream kept c (Err Unreached) sent e h = absurd h

-- what stays as it was grew by nothing
grown_by_none : (old new : Option (List ℕ)) → Keeps old new → Appends old new []
grown_by_none None new h = tt
grown_by_none (Some bytes) None h = absurd h
grown_by_none (Some bytes) (Some after) h = h ∙ sym (append-nil bytes)

-- all of a text is a prefix of it
all_of : (old new : Option (List ℕ)) (text : List ℕ) → Appends old new text → AppendsSome old new text
all_of old new text sent = (text, [], sym (append-nil text), sent)

-- and so is none of it
none_of : (old new : Option (List ℕ)) (text : List ℕ) → Keeps old new → AppendsSome old new text
none_of old new text kept = ([], text, refl, grown_by_none old new kept)

silent : (old new stream : Option (List ℕ)) (c : Calling) → AppendsSome old new (request_bytes c)
    → Exchanges old new stream c Silent
silent old new stream c front = record {
  front = front;
  whole = λ loud. absurd (loud refl);
  answer = λ loud. absurd (loud refl);
}

-- where a fault counts as Silent: a prefix of the request was written, and any other outcome needs all of it
pub exchanged : (old new stream : Option (List ℕ)) (c : Calling) (told : Result Outcome CallFault)
    → Converses old new stream c told
    → Exchanges old new stream c (result_unwrap_or told Silent)
exchanged old new stream c (Ok outcome) h = record {
  front = all_of old new (request_bytes c) h.0;
  whole = λ _. h.0;
  answer = λ _. h.1;
}
exchanged old new stream c (Err (Reply fault)) h = silent old new stream c (all_of old new (request_bytes c) h.0)
exchanged old new stream c (Err (Send BadAddress)) h = silent old new stream c (none_of old new (request_bytes c) h.0)
exchanged old new stream c (Err (Send Memory)) h = silent old new stream c (none_of old new (request_bytes c) h)
exchanged old new stream c (Err (Send Io)) h = silent old new stream c (h.0, h.1, h.2, h.4)
exchanged old new stream c (Err Unreached) h = absurd h
