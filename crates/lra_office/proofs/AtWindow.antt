-- A window keeps what a counter keeps.
use Rattle.std.proofs.Common.{◌≡◌, ℕ, Bool, [], Ok, Err, inl, inr, Result, refl, sym, ap, ◌∙◌, subst}
use Rattle.std.proofs.lemmas.List.{append_cancel_left, append-nil}
use mathlib.Core.List.{IsPrefix}
use Rattle.lra_model.specs.History.{History}
use Rattle.lra_ticket.specs.declared.view.View.{View}
use Rattle.lra_ticket.specs.History.{entries_by}
use Rattle.lra_ticket.proofs.Histories.{entries_by-append}
use Rattle.lra_commands.specs.declared.command.Told.{Told}
use Rattle.lra_commands.specs.declared.counter.Order.{Order}
use Rattle.lra_commands.specs.declared.counter.CounterFault.{CounterFault}
use Rattle.lra_commands.specs.declared.counter.CounterFault.TheVariants as counter
use Rattle.lra_commands.specs.declared.refusal.Refusal.{Refusal}
use Rattle.lra_commands.specs.declared.refusal.Refusal.TheVariants.{Stopped}
use Rattle.lra_commands.specs.declared.limits.Terms.{Terms}
use Rattle.lra_commands.specs.Calls.{Call}
use Rattle.lra_commands.specs.Counters.{Setting, Sight, terms_of, call_of, IsRefusedAt, IsGivenAt, IsGivenSince}
use Rattle.lra_commands.specs.Counters.{IsSeenAfter, KeepsHistory}
use Rattle.lra_commands.proofs.Stopping.{refused_at}
use Rattle.lra_office.specs.declared.fault.OfficeRefusal.{OfficeRefusal}
use Rattle.lra_office.specs.declared.fault.OfficeRefusal.TheVariants as office
use Rattle.lra_office.specs.Serves.{IsHeldBack}
use Rattle.lra_office.specs.Stops.{HasStopped, KeepsInTurn}
use Rattle.lra_office.specs.Orders.{IsMet, IsGrown, IsNotGiven}
use Rattle.lra_office.specs.inner.Given.{fault_of}

-- what holds a command back is a refusal of a counter
held_at : (s : Terms) (J : History) (c : Call) (r : Refusal) → IsHeldBack s J c r → IsRefusedAt s J c r
held_at s J c r (inl h) = refused_at s J c r h
held_at s J c r (inr h) = subst (λ (x : Refusal). IsRefusedAt s J c x) (sym h.0) (h.1.told, h.1.writes)

-- of what others wrote since, nothing is under the clerk's number
none_since : (n : ℕ) (seen J : History) (p : IsPrefix seen J) → entries_by n J ≡ entries_by n seen → entries_by n p.0
    ≡ []
none_since n seen J p same =
    append_cancel_left (entries_by n seen) (entries_by n p.0) [] (sym (entries_by-append n seen p.0)
    ∙ (ap (entries_by n) p.1 ∙ (same ∙ sym (append-nil (entries_by n seen)))))

-- since what was seen, others may have written
since : {O : Type 0} (g : Setting) (v : View O) (J : History) (c : Call) (reply : Result Told CounterFault)
    (K : History) → c.by ≡ v.number → IsMet g v J → IsGivenAt g J c reply K
    → IsGivenSince g v.seen c reply K
since g v J c reply K by met h =
    let p = met.begins in (
      p.0,
      subst (λ (n : ℕ). entries_by n p.0 ≡ []) (sym by) (none_since v.number v.seen J p
          (met.own ∙ sym met.seen_own)),
      subst (λ (L : History). IsGivenAt g L c reply K) (sym p.1) h,
    )

told_seen : {O : Type 0} (g : Setting) (v w : View O) (c : Call) (t : Told) (e : _) → c.by ≡ v.number
    → IsGrown g v c t e w → IsGivenSince g v.seen c (Ok t) w.seen
told_seen g v w c t e by h =
    let seen = ap (λ (x : View _). x.seen) h.after in
    subst (λ (K : History). IsGivenSince g v.seen c (Ok t) K) (sym seen)
    (since g v h.history c (Ok t) _ by h.met
    (record {
      keepable = h.met.kept.limits;
      lawful = h.met.kept.lawful;
      told = (h.done.answered, h.done.grown);
      left = h.kept.lawful;
    }))

refused_seen : {O : Type 0} (g : Setting) (v w : View O) (c : Call) (r : OfficeRefusal) → c.by ≡ v.number
    → IsNotGiven g v c r w → IsSeenAfter g v.seen c (Err (fault_of r)) w.seen
refused_seen g v w c (office.Refused r) by h =
    let seen = ap (λ (x : View _). x.seen) h.3 in
    subst (λ (K : History). IsGivenSince g v.seen c (Err (counter.Refused r)) K) (sym seen)
    (since g v h.0 c (Err (counter.Refused r)) h.0 by h.1
    (record {
      keepable = h.1.kept.limits;
      lawful = h.1.kept.lawful;
      told = (held_at (terms_of g) h.0 c r h.2, refl);
      left = h.1.kept.lawful;
    }))
refused_seen g v w c office.Worn by h = ap (λ (x : View _). x.seen) h

-- commands keep the origin
pub told_origin : {O : Type 0} (g : Setting) (v w : View O) (c : Call) (t : Told) (e : _) → IsGrown g v c t e w
    → w.origin ≡ v.origin
told_origin g v w c t e h = ap (λ (x : View _). x.origin) h.after

pub refused_origin : {O : Type 0} (g : Setting) (v w : View O) (c : Call) (r : OfficeRefusal) → IsNotGiven g v c r w
    → w.origin ≡ v.origin
refused_origin g v w c (office.Refused r) h = ap (λ (x : View _). x.origin) h.3
refused_origin g v w c office.Worn h = ap (λ (x : View _). x.origin) h

abbrev sight : Setting → ℕ → History → Sight
sight g n seen = record { setting = g; number = n; seen = seen }

pub window_told : {O : Type 0} (set : O → Setting) (v w : View O) (n k m : ℕ) (o : Order) (t : Told) (e : _) → v.number
    ≡ n → k ≡ n → IsGrown (set v.origin) v (call_of n m o) t e w
    → KeepsHistory (sight (set v.origin) n v.seen) m o (Ok t) (sight (set w.origin) k w.seen)
window_told set v w n k m o t e own number h = record {
  same = record { setting = ap set (told_origin (set v.origin) v w (call_of n m o) t e h); number = number };
  seen = told_seen (set v.origin) v w (call_of n m o) t e (sym own) h;
}

pub window_refused : {O : Type 0} (set : O → Setting) (v w : View O) (n k m : ℕ) (o : Order) (r : OfficeRefusal)
    → v.number ≡ n → k ≡ n → IsNotGiven (set v.origin) v (call_of n m o) r w
    → KeepsHistory (sight (set v.origin) n v.seen) m o (Err (fault_of r)) (sight (set w.origin) k w.seen)
window_refused set v w n k m o r own number h = record {
  same = record { setting = ap set (refused_origin (set v.origin) v w (call_of n m o) r h); number = number };
  seen = refused_seen (set v.origin) v w (call_of n m o) r (sym own) h;
}

-- ---- where it says that the scribe has stopped

fault_stopped : (r : OfficeRefusal) → fault_of r ≡ counter.Refused Stopped → r ≡ office.Refused Stopped
fault_stopped (office.Refused q) e = let same : q ≡ Stopped = cc in ap office.Refused same
fault_stopped office.Worn e = absurd cc

module _ {X O : Type 0} (set : O → Setting) (origin : X → O) (history : X → History) (lawful : X → Type 0)
    (has_stopped : X → Bool) where
  pub keeps_done : (before after : Sight) (m : ℕ) (o : Order) (t : Told) → KeepsHistory before m o (Ok t) after
      → KeepsInTurn set origin history lawful has_stopped before m o (Ok t) after
  keeps_done before after m o t h = record { keeps = h; stops = λ e. absurd cc }

  pub keeps_refused : (before : Sight) (m k : ℕ) (o : Order) (r : OfficeRefusal) (f : CounterFault) (w : View O)
      → KeepsHistory before m o (Err (fault_of r)) (sight (set w.origin) k w.seen)
      → (r ≡ office.Refused Stopped → HasStopped origin history lawful has_stopped w) → f ≡ fault_of r
      → KeepsInTurn set origin history lawful has_stopped before m o (Err f) (sight (set w.origin) k w.seen)
  keeps_refused before m k o r f w h stopped is = record {
    keeps = subst (λ (x : CounterFault). KeepsHistory before m o (Err x) (sight (set w.origin) k w.seen)) (sym is) h;
    stops = λ e. let same : f ≡ counter.Refused Stopped = cc in
        (w, refl, refl, stopped (fault_stopped r (sym is ∙ same)));
  }
