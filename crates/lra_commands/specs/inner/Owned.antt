-- A counter of its own keeps what each counter keeps: what others wrote meanwhile is nothing.
use Rattle.std.specs.Prelude.{ℕ, [], Result, Ok, Err}
use Rattle.std.proofs.Common.{append-nil, refl, sym, subst}
use Rattle.lra_model.specs.History.{History}
use Rattle.lra_commands.specs.declared.command.Told.{Told}
use Rattle.lra_commands.specs.declared.counter.Order.{Order}
use Rattle.lra_commands.specs.declared.counter.CounterFault.{CounterFault}
use Rattle.lra_commands.specs.declared.counter.CounterFault.TheVariants.{Refused, Worn}
use Rattle.lra_commands.specs.Calls.{Call}
use Rattle.lra_commands.specs.Counters.{Setting, Sight, call_of, IsGivenAt, IsGivenSince, IsSeenAfter, OwnsHistory}
use Rattle.lra_commands.specs.Counters.{KeepsHistory}

pub given_since : (s : Setting) (J : History) (c : Call) (reply : Result Told CounterFault) (K : History)
    → IsGivenAt s J c reply K → IsGivenSince s J c reply K
given_since s J c reply K h = (
  [],
  refl,
  let P : History → Type 0 = λ L. IsGivenAt s L c reply K in
      subst P (sym (append-nil J)) h,
)

pub seen_after : (s : Setting) (J : History) (c : Call) (reply : Result Told CounterFault) (K : History)
    → IsGivenAt s J c reply K → IsSeenAfter s J c reply K
seen_after s J c (Ok told) K h = given_since s J c (Ok told) K h
seen_after s J c (Err (Refused r)) K h = given_since s J c (Err (Refused r)) K h
seen_after s J c (Err Worn) K h = h.told

pub owns_keeps : (before after : Sight) (moment : ℕ) (o : Order) (reply : Result Told CounterFault)
    → OwnsHistory before moment o reply after → KeepsHistory before moment o reply after
owns_keeps before after moment o reply h =
    record {
      same = h.same;
      seen = seen_after before.setting before.seen (call_of before.number moment o) reply
          after.seen h.given;
    }
