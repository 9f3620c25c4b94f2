-- What is written of replies.
use Rattle.std.specs.Prelude.{◌≡◌, ℕ, Bool, true, false, List, Option, Result}
use Rattle.std.specs.Io.KnownBytes.{Appends}
use Rattle.lra_wire.specs.declared.fault.WireFault.{WireFault}
use Rattle.lra_wire.specs.Writing.{AppendsFront}
use Rattle.lra_wire.specs.Request.{Request}
use Rattle.lra_commands.specs.declared.command.Told.{Told}
use Rattle.lra_commands.specs.declared.counter.Order.{Order}
use Rattle.lra_commands.specs.declared.counter.CounterFault.{CounterFault}
use Rattle.lra_commands.specs.Counters.{Sight}
use Rattle.lra_front.specs.declared.stream.StreamEnd.{StreamEnd}
use Rattle.lra_front.specs.declared.stream.StreamEnd.TheVariants.{Done, Refused, WriteFault}
use Rattle.lra_front.specs.declared.stream.Served.{Served}
use Rattle.lra_front.specs.declared.stream.Served.TheVariants.{Going, Ended}
use Rattle.lra_front.specs.declared.answer.Answer.{Answer}
use Rattle.lra_front.specs.Serving.{Responds}
use Rattle.lra_front.specs.Streams.{fault_text, closes_after, reply_to}

-- a fault is answered, and the stream ends with it or with the writer's fault
abbrev pub Denies : Sight → WireFault → Option (List ℕ) → Option (List ℕ) → StreamEnd → Type 0
Denies v fault old new Done = ⊥
Denies v fault old new (Refused f) = (f ≡ fault) × Appends old new (fault_text v fault)
Denies v fault old new WriteFault = AppendsFront old new (fault_text v fault)

-- what was written of the reply to a request, and whether the stream goes on
abbrev pub Sent : Sight → Bool → Request → Answer → Option (List ℕ) → Option (List ℕ) → Served → Type 0
Sent v last request a old new Going = (closes_after last request ≡ false) × Appends old new (reply_to v last request a)
Sent v last request a old new (Ended Done) = (closes_after last request ≡ true)
    × Appends old new (reply_to v last request a)
Sent v last request a old new (Ended WriteFault) = AppendsFront old new (reply_to v last request a)
Sent v last request a old new (Ended (Refused fault)) = ⊥

module _ {K : Type 0} (gives : Sight → ℕ → Order → Result Told CounterFault → Sight → Type 0)
    (tells : K → ℕ → K → Type 0) where
  -- a request is answered
  pub record Exchanges (last : Bool) (request : Request) (before after : Sight) (k l : K) (old new : Option (List ℕ))
      (served : Served) : Type 0 where
    pub answer : Answer
    pub moment : ℕ
    pub clocked : tells k moment l
    pub responds : Responds gives before moment request after answer
    pub sent : Sent after last request answer old new served
