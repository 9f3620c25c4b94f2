-- Under whose number a call writes, and that an order is written once.
use Rattle.std.proofs.Common.{◌≡◌, ℕ, zero, suc, List, [], ◌∷◌, ◌++◌, Option, Some, None, Result, Ok, Err, refl, sym}
use Rattle.std.proofs.Common.{ap, ◌∙◌, subst, append-nil, cond, eq-eqb}
use Rattle.std.specs.Prelude.{is_some, option_map, ◌==◌}
use Rattle.std.specs.Option.{option_map_or}
use Rattle.std.specs.List.{AllByRecursion}
use Rattle.std.proofs.lemmas.List.Elements.{filter-append}
use Rattle.lra_model.specs.declared.entry.Deed.{Deed}
use Rattle.lra_model.specs.declared.entry.Entry.{Entry}
use Rattle.lra_model.specs.History.{History}
use Rattle.lra_model.specs.Settling.{next_settling, settling_within, most_settling, with_settling}
use Rattle.lra_commands.specs.declared.limits.Terms.{Terms}
use Rattle.lra_commands.specs.declared.refusal.Refusal.{Refusal}
use Rattle.lra_commands.specs.declared.command.Told.{Told}
use Rattle.lra_commands.specs.declared.counter.Order.{Order}
use Rattle.lra_commands.specs.declared.counter.Order.TheVariants as order
use Rattle.lra_commands.specs.declared.counter.CounterFault.{CounterFault}
use Rattle.lra_commands.specs.declared.counter.CounterFault.TheVariants.{Refused, Worn}
use Rattle.lra_commands.specs.Calls.{Call, moment_of}
use Rattle.lra_commands.specs.Deeds.{own_deed, writer_of, entry_of}
use Rattle.lra_commands.specs.Blocks.{block}
use Rattle.lra_commands.specs.Refusals.{refused}
use Rattle.lra_commands.specs.Answers.{growth}
use Rattle.lra_commands.specs.Counters.{Sight, terms_of, call_of, entries_under, IsSeenAfter, IsGivenSince}
use Rattle.lra_commands.specs.Counters.{KeepsHistory, WritesOnce}

-- each entry is under the number
abbrev pub AreBy : ℕ → List Entry → Type 0
AreBy n es = AllByRecursion (λ (e : Entry). e.by ≡ n) es

-- what settles is by the number that it is written under
settling_by : (n by m : ℕ) (J : History) → AreBy by (settling_within n by m J)
settling_by zero by m J = tt
settling_by (suc n) by m J = next (next_settling J) (λ K. settling_by n by m K)
  where
    next : (o : Option Deed) → ((K : History) → AreBy by (settling_within n by m K))
        → AreBy by (option_map_or (λ (d : Deed). (let e : Entry = record { by = by; moment = m; deed = d } in e)
        ∷ settling_within n by m (J ++ (let e : Entry = record { by = by; moment = m; deed = d } in e) ∷ [])) o [])
    next None rest = tt
    next (Some d) rest = (refl, rest (J ++ (let e : Entry = record { by = by; moment = m; deed = d } in e) ∷ []))

-- a block is by its writer
block_by : (s : Terms) (J : History) (c : Call) → AreBy (writer_of J c) (block s J c)
unfolding block
block_by s J c = own (own_deed s J (moment_of J c) c.command)
  where
    own : (o : Option Deed) → AreBy (writer_of J c) (option_map_or (with_settling J) (option_map (entry_of J c) o) [])
    own None = tt
    own (Some d) = (
      refl,
      settling_by (most_settling (J ++ entry_of J c d ∷ [])) (writer_of J c) (moment_of J c)
          (J ++ entry_of J c d ∷ []),
    )

-- so is what a call appends
pub growth_by : (s : Terms) (J : History) (c : Call) → AreBy (writer_of J c) (growth s J c)
unfolding growth
growth_by s J c = either (refused s J c)
  where
    either : (o : Option Refusal) → AreBy (writer_of J c) (cond (is_some o) [] (block s J c))
    either None = block_by s J c
    either (Some r) = tt

-- an order is written by its clerk
order_by : (J : History) (n m : ℕ) (o : Order) → writer_of J (call_of n m o) ≡ n
order_by J n m (order.Start parent limit) = refl
order_by J n m (order.Join action uris) = refl
order_by J n m (order.Leave action member) = refl
order_by J n m (order.Close action) = refl
order_by J n m (order.Cancel action) = refl
order_by J n m order.Tick = refl
order_by J n m (order.Report member ending) = refl
order_by J n m order.Restart = refl
order_by J n m (order.Renew action limit) = refl
order_by J n m (order.Status action) = refl
order_by J n m (order.MemberStatus member) = refl

-- ---- the entries under a number

entries_under-append : (n : ℕ) (a b : History) → entries_under n (a ++ b) ≡ entries_under n a ++ entries_under n b
entries_under-append n a b = filter-append (λ (e : Entry). e.by == n) a b

all_under : (n : ℕ) (es : History) → AreBy n es → entries_under n es ≡ es
all_under n [] h = refl
all_under n (e ∷ es) h = ap (λ b. cond b (e ∷ entries_under n es) (entries_under n es)) (eq-eqb e.by n h.0)
    ∙ ap (λ (l : History). e ∷ l) (all_under n es h.1)

-- where others wrote nothing under the number, what is added comes right after what was there
after_others : (n : ℕ) (seen since added : History) → entries_under n since ≡ [] → AreBy n added
    → entries_under n ((seen ++ since) ++ added) ≡ entries_under n seen ++ added
after_others n seen since added none all =
    entries_under-append n (seen ++ since) added
    ∙ (λ i. entries_under-append n seen since i ++ all_under n added all i)
    ∙ ap (λ (l : History). (entries_under n seen ++ l) ++ added) none
    ∙ ap (λ (l : History). l ++ added) (append-nil (entries_under n seen))

-- ---- an order

given_once : (v : Sight) (m : ℕ) (o : Order) (w : Sight) (t : Told) → IsGivenSince v.setting v.seen
    (call_of v.number m o) (Ok t) w.seen → WritesOnce v m o (Ok t) w
given_once v m o w t (since, none, given) =
    let c : Call = call_of v.number m o in
    let all = subst (λ (n : ℕ). AreBy n (growth (terms_of v.setting) (v.seen ++ since) c))
    (order_by (v.seen ++ since) v.number m o) (growth_by (terms_of v.setting) (v.seen ++ since) c) in
    record {
      met = v.seen ++ since;
      begins = (since, refl);
      written = ap (entries_under v.number) given.told.1 ∙ after_others v.number v.seen since
          (growth (terms_of v.setting) (v.seen ++ since) c) none all;
    }

refused_once : (v : Sight) (m : ℕ) (o : Order) (w : Sight) (r : Refusal)
    → IsGivenSince v.setting v.seen (call_of v.number m o) (Err (Refused r)) w.seen
    → WritesOnce v m o (Err (Refused r)) w
refused_once v m o w r (since, none, given) = record {
  met = v.seen ++ since;
  begins = (since, refl);
  written = ap (entries_under v.number) (given.told.1 ∙ sym (append-nil (v.seen ++ since)))
      ∙ after_others v.number v.seen since [] none tt;
}

seen_once : (v : Sight) (m : ℕ) (o : Order) (reply : Result Told CounterFault) (w : Sight)
    → IsSeenAfter v.setting v.seen (call_of v.number m o) reply w.seen → WritesOnce v m o reply w
seen_once v m o (Ok t) w h = given_once v m o w t h
seen_once v m o (Err (Refused r)) w h = refused_once v m o w r h
seen_once v m o (Err Worn) w h = record {
  met = v.seen;
  begins = ([], append-nil v.seen);
  written =
      ap (entries_under v.number) h ∙ sym (append-nil (entries_under v.number v.seen));
}

pub counters_write : (v w : Sight) (m : ℕ) (o : Order) (reply : Result Told CounterFault) → KeepsHistory v m o reply w
    → WritesOnce v m o reply w
counters_write v w m o reply h = seen_once v m o reply w h.seen
