-- What a connection worker does at an office.
use Rattle.std.specs.Prelude.{◌≡◌, ℕ, zero, suc, ◌<◌, List, Option, Result}
use Rattle.lra_ticket.specs.declared.kept.Kept.{Ghosts}
use Rattle.lra_commands.specs.declared.command.Told.{Told}
use Rattle.lra_commands.specs.declared.counter.Order.{Order}
use Rattle.lra_commands.specs.declared.counter.CounterFault.{CounterFault}
use Rattle.lra_commands.specs.Counters.{Setting, Sight}
use Rattle.lra_front.specs.declared.stream.StreamEnd.{StreamEnd}
use Rattle.lra_front.specs.Streams.{standing, ServesStream}
use Rattle.lra_office.specs.declared.clerk.Clerk.{Clerk}
use Rattle.lra_office.specs.Clerks.{clerk_view}
use Rattle.lra_workers.specs.declared.connections.ServeEnd.{ServeEnd}
use Rattle.lra_workers.specs.declared.connections.ServeEnd.TheVariants.{Done, Io}

-- the sight of a counter at which a clerk gives its orders
abbrev pub clerk_sight : {X O : Type 0} {g : Ghosts X O} → (O → Setting) → Clerk X O g → Sight
clerk_sight setting c = record {
  setting = setting (clerk_view c).origin;
  number = c.number;
  seen =
      (clerk_view c).seen;
}

module _ {K : Type 0} (gives : Sight → ℕ → Order → Result Told CounterFault → Sight → Type 0)
    (tells : K → ℕ → K → Type 0) where
  -- a connection is answered: a stream of whatever bytes came, which leads from one state of the counter and the clock
  -- to another
  pub record Connection (v : Sight) (k : K) (w : Sight) (l : K) : Type 0 where
    pub bytes : Option (List ℕ)
    pub rest : Option (List ℕ)
    pub before : Option (List ℕ)
    pub after : Option (List ℕ)
    pub end : StreamEnd
    pub serves : ServesStream gives tells (standing bytes v k before) end (standing rest w l after)

  -- so many connections are answered, one after another
  unfoldable pub ConnectionsIn : ℕ → Sight → K → Sight → K → Type 0
  ConnectionsIn zero v k w l = (w ≡ v) × (l ≡ k)
  ConnectionsIn (suc n) v k w l = (u : Sight) × (m : K) × ConnectionsIn n v k u m × Connection u m w l

  -- all connections that were asked for are answered, or fewer, if no more could be accepted
  abbrev pub EndsServing : ℕ → Sight → K → ServeEnd → Sight → K → Type 0
  EndsServing count v k Done w l = ConnectionsIn count v k w l
  EndsServing count v k Io w l = (n : ℕ) × (n < count) × ConnectionsIn n v k w l
