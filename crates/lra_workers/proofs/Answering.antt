-- Properties that answering connections keeps: the counter, and what its clerk has seen.
use Rattle.std.proofs.Common.{◌≡◌, ℕ, zero, suc, ◌++◌, Result, Ok, Err, Bool, true, false, inl, inr, refl, sym, ◌∙◌}
use Rattle.std.proofs.Common.{subst, append_assoc}
use mathlib.Core.List.{IsPrefix}
use Rattle.lra_model.specs.History.{History}
use Rattle.lra_ticket.proofs.Histories.{prefix_refl, prefix_trans}
use Rattle.lra_commands.specs.declared.command.Told.{Told}
use Rattle.lra_commands.specs.declared.counter.Order.{Order}
use Rattle.lra_commands.specs.declared.counter.CounterFault.{CounterFault}
use Rattle.lra_commands.specs.declared.counter.CounterFault.TheVariants.{Refused, Worn}
use Rattle.lra_commands.specs.Answers.{growth}
use Rattle.lra_commands.specs.Calls.{Call}
use Rattle.lra_commands.specs.Counters.{Setting, Sight, terms_of, call_of, IsGivenSince, IsSeenAfter, IsSameCounter}
use Rattle.lra_commands.specs.Counters.{KeepsHistory}
use Rattle.lra_front.specs.declared.answer.Answer.{Answer}
use Rattle.lra_front.specs.declared.stream.StreamEnd.{StreamEnd}
use Rattle.lra_front.specs.declared.stream.StreamEnd.TheVariants.{Done, Refused as StreamRefused, WriteFault}
use Rattle.lra_front.specs.Serving.{Responds}
use Rattle.lra_front.specs.Streams.{Standing, EndsAt, ServesUpTo, ServesStream}
use Rattle.lra_office.specs.Stops.{KeepsInTurn}
use Rattle.lra_workers.specs.Connections.{Connection, ConnectionsIn}

-- the counter is the same, and has seen all that it had seen before
pub record Keeps (v w : Sight) : Type 0 where
  pub same : IsSameCounter v w
  pub seen : IsPrefix v.seen w.seen

keeps_none : (v : Sight) → Keeps v v
keeps_none v = record { same = record { setting = refl; number = refl }; seen = prefix_refl v.seen }

keeps_still : (v w : Sight) → w ≡ v → Keeps v w
keeps_still v w e = subst (λ (x : Sight). Keeps v x) (sym e) (keeps_none v)

keeps_on : (u v w : Sight) → Keeps u v → Keeps v w → Keeps u w
keeps_on u v w h k = record {
  same = record { setting = k.same.setting ∙ h.same.setting; number = k.same.number ∙ h.same.number };
  seen = prefix_trans u.seen v.seen w.seen h.seen k.seen;
}

-- ---- one order

-- an order's history begins with what was seen
since_seen : (g : Setting) (seen : History) (c : Call) (reply : Result Told CounterFault) (K : History)
    → IsGivenSince g seen c reply K → IsPrefix seen K
since_seen g seen c (Ok t) K (more, none, given) = (
  more ++ growth (terms_of g) (seen ++ more) c,
  sym (append_assoc seen more (growth (terms_of g) (seen ++ more) c)) ∙ sym given.told.1,
)
since_seen g seen c (Err (Refused r)) K (more, none, given) = (more, sym given.told.1)
since_seen g seen c (Err Worn) K (more, none, given) = (more, sym given.told)

after_seen : (g : Setting) (seen : History) (c : Call) (reply : Result Told CounterFault) (K : History)
    → IsSeenAfter g seen c reply K → IsPrefix seen K
after_seen g seen c (Ok t) K h = since_seen g seen c (Ok t) K h
after_seen g seen c (Err (Refused r)) K h = since_seen g seen c (Err (Refused r)) K h
after_seen g seen c (Err Worn) K h = subst (IsPrefix seen) (sym h) (prefix_refl seen)

keeps_given : (v w : Sight) (moment : ℕ) (o : Order) (reply : Result Told CounterFault)
    → KeepsHistory v moment o reply w → Keeps v w
keeps_given v w moment o reply h = record {
  same = h.same;
  seen = after_seen v.setting v.seen
      (call_of v.number moment o) reply w.seen h.seen;
}

module _ {K : Type 0} (gives : Sight → ℕ → Order → Result Told CounterFault → Sight → Type 0)
    (tells : K → ℕ → K → Type 0)
    (law : (v w : Sight) (moment : ℕ) (o : Order) (reply : Result Told CounterFault) → gives v moment o reply w
    → KeepsHistory v moment o reply w) where
  -- ---- one request

  keeps_responding : (v w : Sight) (moment : ℕ) (r : _) (a : Answer) → Responds gives v moment r w a → Keeps v w
  keeps_responding v w moment r a (Ok api_request, asks, h) = keeps_given v w moment h.order h.reply
      (law v w moment h.order h.reply h.given)
  keeps_responding v w moment r a (Err d, asks, h) = keeps_still v w h.1

  -- ---- one stream

  keeps_ending : (last : Bool) (s t : Standing K) (end : StreamEnd) → EndsAt gives tells last s end t
      → Keeps s.sight t.sight
  keeps_ending last s t Done (inl f) = keeps_still s.sight t.sight f.rests.sight
  keeps_ending last s t Done (inr r) = keeps_responding s.sight t.sight r.exchange.moment r.request r.answer
      r.exchange.responds
  keeps_ending last s t (StreamRefused fault) f = keeps_still s.sight t.sight f.rests.sight
  keeps_ending last s t WriteFault (inl r) = keeps_responding s.sight t.sight r.exchange.moment r.request r.answer
      r.exchange.responds
  keeps_ending last s t WriteFault (inr (fault, f)) = keeps_still s.sight t.sight f.rests.sight

  keeps_serving : (n : ℕ) (s t : Standing K) (end : StreamEnd) → ServesUpTo gives tells n s end t
      → Keeps s.sight t.sight
  unfolding ServesUpTo
  keeps_serving zero s t end h = keeps_ending true s t end h
  keeps_serving (suc n) s t end (inl h) = keeps_ending false s t end h
  keeps_serving (suc n) s t end (inr (u, r, rest)) =
      keeps_on s.sight u.sight t.sight (keeps_responding s.sight u.sight r.exchange.moment r.request r.answer
      r.exchange.responds) (keeps_serving n u t end rest)

  keeps_stream : (s t : Standing K) (end : StreamEnd) → ServesStream gives tells s end t → Keeps s.sight t.sight
  keeps_stream s t end (inl h) = keeps_still s.sight t.sight h.rests.sight
  keeps_stream s t end (inr h) = keeps_serving 999 s t end h

  -- ---- one connection after another

  keeps_connection : (v w : Sight) (k l : K) → Connection gives tells v k w l → Keeps v w
  keeps_connection v w k l h = keeps_stream _ _ h.end h.serves

  pub keeps_connections : (n : ℕ) (v w : Sight) (k l : K) → ConnectionsIn gives tells n v k w l → Keeps v w
  unfolding ConnectionsIn
  keeps_connections zero v w k l h = keeps_still v w h.0
  keeps_connections (suc n) v w k l (u, m, before, last) = keeps_on v u w (keeps_connections n v u k m before)
      (keeps_connection u w m l last)

module _ {K : Type 0} (gives : Sight → ℕ → Order → Result Told CounterFault → Sight → Type 0)
    (tells : K → ℕ → K → Type 0) where
  pub none_answered : (v : Sight) (k : K) → ConnectionsIn gives tells 0 v k v k
  unfolding ConnectionsIn
  none_answered v k = (refl, refl)

  pub one_more : (n : ℕ) (v u w : Sight) (k m l : K) → ConnectionsIn gives tells n v k u m
      → Connection gives tells u m w l → ConnectionsIn gives tells (suc n) v k w l
  unfolding ConnectionsIn
  one_more n v u w k m l before last = (u, m, before, last)

-- connections that an office answers keep so
pub keeps_served : {X O K : Type 0} (set : O → Setting) (origin : X → O) (history : X → History) (lawful : X → Type 0)
    (has_stopped : X → Bool) (tells : K → ℕ → K → Type 0) (n : ℕ) (v w : Sight) (k l : K)
    → ConnectionsIn (KeepsInTurn set origin history lawful has_stopped) tells n v k w l → Keeps v w
keeps_served set origin history lawful has_stopped tells n v w k l h =
    keeps_connections (KeepsInTurn set origin history lawful has_stopped) tells
    (λ before after moment o reply given. given.keeps) n v w k l h
