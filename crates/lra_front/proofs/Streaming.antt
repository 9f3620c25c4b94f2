-- What a stream does, put together.
use Rattle.std.proofs.Common.{◌≡◌, ℕ, zero, suc, ◌-◌, ◌<◌, Bool, true, false, List, ◌++◌, length, Option, Result, Err}
use Rattle.std.proofs.Common.{inl, inr, ap, subst, arith}
use Rattle.std.specs.Prelude.{unwrap_or}
use Rattle.std.specs.Result.{result_err}
use Rattle.std.proofs.lemmas.List.{length-append}
use Rattle.lra_wire.specs.declared.fault.WireFault.{WireFault}
use Rattle.lra_wire.specs.declared.fault.WireFault.TheVariants.{Cut}
use Rattle.lra_wire.specs.declared.request.RequestRead.{RequestRead}
use Rattle.lra_wire.specs.Request.{Request, IsRequest}
use Rattle.lra_wire.specs.Streams.{IfBothKnown}
use Rattle.lra_commands.specs.declared.command.Told.{Told}
use Rattle.lra_commands.specs.declared.counter.Order.{Order}
use Rattle.lra_commands.specs.declared.counter.CounterFault.{CounterFault}
use Rattle.lra_commands.specs.Counters.{Sight}
use Rattle.lra_front.specs.declared.stream.StreamEnd.{StreamEnd}
use Rattle.lra_front.specs.declared.stream.StreamEnd.TheVariants.{Done, Refused, WriteFault}
use Rattle.lra_front.specs.declared.stream.Served.{Served}
use Rattle.lra_front.specs.declared.stream.Served.TheVariants.{Going, Ended}
use Rattle.lra_front.specs.Streams.{Standing, standing, Serves, Replied, EndsAt, ServesUpTo}
use Rattle.lra_front.specs.inner.Sending.{Denies, Exchanges}

-- ---- one request

pub exchanged : {K : Type 0} (gives : Sight → ℕ → Order → Result Told CounterFault → Sight → Type 0)
    (tells : K → ℕ → K → Type 0) (last : Bool) (request : Request)
    (xs ys : Option (List ℕ)) (before after : Sight) (k l : K) (old new : Option (List ℕ)) (served : Served)
    → IfBothKnown xs ys (λ bytes rest. IsRequest bytes request rest) → Exchanges gives tells last request before after k
    l old new served
    → Serves gives tells last (standing xs before k old) served (standing ys after l new)
exchanged gives tells last request xs ys before after k l old new Going read h =
    record {
      request = request;
      answer = h.answer;
      exchange = record {
        read = read;
        moment = h.moment;
        clocked =
            h.clocked;
        responds = h.responds;
      };
      closes = h.sent.0;
      wrote = h.sent.1;
    }
exchanged gives tells last request xs ys before after k l old new (Ended Done) read h =
    inr (record {
      request = request;
      answer = h.answer;
      exchange = record {
        read = read;
        moment = h.moment;
        clocked =
            h.clocked;
        responds = h.responds;
      };
      closes = h.sent.0;
      wrote = h.sent.1;
    })
exchanged gives tells last request xs ys before after k l old new (Ended WriteFault) read h =
    inl (record {
      request = request;
      answer = h.answer;
      exchange = record {
        read = read;
        moment = h.moment;
        clocked =
            h.clocked;
        responds = h.responds;
      };
      wrote = h.sent;
    })
exchanged gives tells last request xs ys before after k l old new (Ended (Refused fault)) read h = absurd h.sent

-- a stream that was cut is left without a reply
cut_by : (v : Sight) (old new : Option (List ℕ)) (end : StreamEnd) → Denies v Cut old new end → end ≡ Refused Cut
cut_by v old new Done h = absurd h
cut_by v old new (Refused fault) h = ap Refused h.0
cut_by v old new WriteFault (front, rest, whole, long, wrote) =
    absurd (let len = length-append front rest in let e : 0 ≡ length (front ++ rest) = ap length whole in
    omega (arith, len, e, long))

-- two results of reading are one
abbrev Same : Result (Option RequestRead) WireFault → Result (Option RequestRead) WireFault → Type 0
Same x y = x ≡ y

pub cut_ends : (v : Sight) (old new : Option (List ℕ)) (end : StreamEnd) (fault : WireFault)
    → Same (Err fault) (Err Cut) → Denies v fault old new end
    → Ended end ≡ Ended (Refused Cut)
cut_ends v old new end fault e h =
    let same : fault ≡ Cut = ap (λ r. unwrap_or (result_err r) Cut) e in
    let P : WireFault → Type 0 = λ f. Denies v f old new end in
    ap Ended (cut_by v old new end (subst P same h))

-- ---- one request after another

module _ {K : Type 0} (gives : Sight → ℕ → Order → Result Told CounterFault → Sight → Type 0)
    (tells : K → ℕ → K → Type 0) where
  pub ends_now : (n : ℕ) (s t : Standing K) (end : StreamEnd) → 0 < n → EndsAt gives tells false s end t
      → ServesUpTo gives tells n s end t
  unfolding ServesUpTo
  ends_now zero s t end some h = absurd (omega arith)
  ends_now (suc n) s t end some h = inl h

  pub goes_on : (n : ℕ) (s u t : Standing K) (end : StreamEnd) → 0 < n → Replied gives tells false false s u
      → ServesUpTo gives tells (n - 1) u end t
      → ServesUpTo gives tells n s end t
  unfolding ServesUpTo
  goes_on zero s u t end some h rest = absurd (omega arith)
  goes_on (suc n) s u t end some h rest =
      let e : suc n - 1 ≡ n = omega arith in
      let P : ℕ → Type 0 = λ m. ServesUpTo gives tells m u end t in
      inr (u, h, subst P e rest)

  pub ends_last : (n : ℕ) (s t : Standing K) (end : StreamEnd) → n ≡ 0 → EndsAt gives tells true s end t
      → ServesUpTo gives tells n s end t
  unfolding ServesUpTo
  ends_last zero s t end none h = h
  ends_last (suc n) s t end none h = absurd (omega (arith, none))
