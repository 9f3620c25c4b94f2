-- A coordinator of its own is a counter.
use Rattle.std.proofs.Common.{◌≡◌, ℕ, true, refl, subst}
use Rattle.std.specs.Prelude.{◌≢◌, Result, Ok, Err}
use Rattle.lra_commands.specs.declared.command.Told.{Told}
use Rattle.lra_commands.specs.declared.counter.Order.{Order}
use Rattle.lra_commands.specs.declared.counter.Order.TheVariants as order
use Rattle.lra_commands.specs.declared.counter.CounterFault.TheVariants.{Worn}
use Rattle.lra_commands.specs.declared.refusal.Refusal.{Refusal}
use Rattle.lra_commands.specs.Calls.{Call}
use Rattle.lra_commands.specs.Counters.{Setting, terms_of, command_of, call_of, IsToldAt, OwnsHistory}
use Rattle.lra_commands.specs.Runs.{IsLawful}
use Rattle.lra_commands.proofs.Stopping.{refused_at}
use Rattle.lra_core.specs.Shape.{Shape, IsCoordinator}
use Rattle.lra_core.specs.Performs.{Performs}
use Rattle.lra_core.specs.Prepares.{is_suited}
use Rattle.lra_core.specs.Benches.{Benched, sight_of}
use Rattle.lra_core.specs.inner.Replied.{replied}

-- an order carries no errand, and so no outcome that doesn't suit
pub order_suited : (o : Order) → is_suited (command_of o) ≡ true
order_suited (order.Start parent limit) = refl
order_suited (order.Join action uris) = refl
order_suited (order.Leave action member) = refl
order_suited (order.Close action) = refl
order_suited (order.Cancel action) = refl
order_suited order.Tick = refl
order_suited (order.Report member ending) = refl
order_suited order.Restart = refl
order_suited (order.Renew action limit) = refl
order_suited (order.Status action) = refl
order_suited (order.MemberStatus member) = refl

-- ---- what is given

given : (before after : Shape) (c : Call) (result : Result Told Refusal) → Performs before c after result
    → IsToldAt (terms_of before.setting) before.history c (replied result) after.history
given before after c (Ok told) h = (h.answered, h.grown.history)
given before after c (Err r) h = (refused_at (terms_of before.setting) before.history c r h.refusal, h.same.history)

same_setting : (before after : Shape) (c : Call) (result : Result Told Refusal) → Performs before c after result
    → after.setting ≡ before.setting
same_setting before after c (Ok told) h = h.grown.setting
same_setting before after c (Err r) h = h.same.setting

not_worn : (result : Result Told Refusal) → replied result ≢ Err Worn
not_worn (Ok told) h = absurd cc
not_worn (Err r) h = absurd cc

pub bench_gives : (before after : Benched) (moment : ℕ) (o : Order) (result : Result Told Refusal) → after.number
    ≡ before.number → IsCoordinator before.coordinator → IsCoordinator after.coordinator
    → Performs before.coordinator (call_of before.number moment o) after.coordinator result
    → OwnsHistory (sight_of before) moment o (replied result) (sight_of after)
bench_gives before after moment o result number k l h =
    let same = same_setting before.coordinator after.coordinator (call_of before.number moment o) result h in
    record {
      same = record { setting = same; number = number };
      given = record {
        keepable = k.limits;
        lawful = k.history;
        told = given before.coordinator after.coordinator (call_of before.number moment o) result h;
        left = subst (λ (g : Setting). IsLawful (terms_of g) after.coordinator.history) same l.history;
      };
      fresh = not_worn result;
    }
