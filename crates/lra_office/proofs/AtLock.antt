-- A command under the lock: what the one that gave it knows afterwards.
use Rattle.std.specs.Prelude.{◌==◌}
use Rattle.std.proofs.Common.{◌≡◌, ℕ, Bool, true, false, cond, eqb-true, List, [], ◌++◌, Option, Ok, Err, Result, refl}
use Rattle.std.proofs.Common.{sym, ap, ◌∙◌, subst, append-nil}
use mathlib.Core.List.{IsPrefix}
use Rattle.lra_model.specs.declared.entry.Entry.{Entry}
use Rattle.lra_model.specs.History.{History}
use Rattle.lra_ticket.specs.declared.view.Place.TheVariants.{Idle}
use Rattle.lra_ticket.specs.declared.view.View.{View}
use Rattle.lra_ticket.specs.History.{block_after, number_after, MayAdd}
use Rattle.lra_ticket.specs.Views.{view, taking, given}
use Rattle.lra_ticket.specs.Locks.{HasTaken}
use Rattle.lra_ticket.proofs.Histories.{block_after-append}
use Rattle.lra_commands.specs.declared.query.Query.{Query}
use Rattle.lra_commands.specs.declared.query.QueryResult.{QueryResult}
use Rattle.lra_commands.specs.declared.refusal.Refusal.{Refusal}
use Rattle.lra_commands.specs.Calls.{Command, Call}
use Rattle.lra_commands.specs.Answers.{growth}
use Rattle.lra_commands.specs.Counters.{Setting, terms_of}
use Rattle.lra_commands.specs.Queries.{tell}
use Rattle.lra_schedule.specs.Schedules.{IsFirstMoment}
use Rattle.lra_core.specs.declared.block.Committed.{Committed}
use Rattle.lra_office.specs.declared.fault.OfficeRefusal.TheVariants.{Refused}
use Rattle.lra_office.specs.Serves.{IsServed, IsDone, IsKeptBy}
use Rattle.lra_office.specs.Stops.{HasStopped}
use Rattle.lra_office.specs.inner.Given.{IsNumberOf}
use Rattle.lra_office.specs.Orders.{IsMet, grown_view, met_view, IsGrown, IsAnswered, IsForetold, IsNotGiven}
use Rattle.lra_office.proofs.Written.{add_nothing, add_served}

-- a call only adds to the history
growing : (g : Setting) (J K : History) (c : Call) (r : Result Committed Refusal) → IsServed g J c r K → IsPrefix J K
growing g J K c (Ok x) s = (growth (terms_of g) J c, sym s.grown)
growing g J K c (Err x) s = ([], append-nil J ∙ sym s.1)

pub extends : {O : Type 0} (v w : View O) (g : Setting) (J K : History) (c : Call) (r : Result Committed Refusal)
    → HasTaken v J w → IsServed g J c r K → IsPrefix w.seen K
extends v w g J K c r h s =
    let p = growing g J K c r s in
    (p.0, ap (λ (u : View _). u.seen ++ p.0) h.2 ∙ p.1)

pub may_add : {O : Type 0} (v w : View O) (g : Setting) (J K : History) (by m : ℕ) (c : Command)
    (r : Result Committed Refusal) → HasTaken v J w → IsKeptBy g J → IsNumberOf c by v.number
    → IsServed g J (record { by = by; moment = m; command = c }) r K → MayAdd w.number w.seen (block_after w.seen K)
may_add v w g J K by m c r h k n s = subst (λ (u : View _). MayAdd u.number u.seen (block_after u.seen K)) (sym h.2)
    (add_served g J K by m v.number c r k n s)

-- what is known once the lock is given back
given_after : {O : Type 0} (v w u : View O) (J K B : History) → HasTaken v J w → u ≡ given w K → K ≡ J ++ B → u
    ≡ grown_view v J B
given_after v w u J K B h e k =
    e ∙ ap (λ (x : View _). given x K) h.2 ∙ ap (λ (L : History). given (taking v h.0 J) L) k
    ∙ ap (λ (x : List Entry). view (number_after v.number x) v.origin (J ++ B) (v.mine ++ x) v.tries Idle)
    (block_after-append J B)

number_none : (n : ℕ) → number_after n [] ≡ n
number_none n = decide (n == 0) refl
  where
    decide : (b : Bool) → (n == 0) ≡ b → cond b 0 n ≡ n
    decide true e = sym (eqb-true n 0 e)
    decide false e = refl

nothing_added : {O : Type 0} (v : View O) (J : History) → grown_view v J [] ≡ met_view v J
nothing_added v J = λ i. view (number_none v.number i) v.origin (append-nil J i) (append-nil v.mine i) v.tries Idle

-- the call was done
pub grown : {O : Type 0} (set : O → Setting) (v w u : View O) (o : O) (J K : History) (c : Call) (r : Committed) → o
    ≡ v.origin → IsMet (set o) v J → HasTaken v J w
    → IsServed (set o) J c (Ok r) K → IsKeptBy (set o) K → u ≡ given w K → IsGrown (set v.origin) v c r.told r.errand u
grown set v w u o J K c r same met h s k e = subst (λ x. IsGrown (set x) v c r.told r.errand u) same (record {
  history = J;
  met = met;
  done = subst (λ (L : History). IsDone (set o) J c r.told r.errand L) s.grown s;
  kept = subst (IsKeptBy (set o)) s.grown k;
  after = given_after v w u J K (growth (terms_of (set o)) J c) h e s.grown;
})

-- it wasn't
pub not_grown : {O : Type 0} (set : O → Setting) (v w u : View O) (o : O) (J K : History) (c : Call) (r : Refusal) → o
    ≡ v.origin → IsMet (set o) v J → HasTaken v J w
    → IsServed (set o) J c (Err r) K → u ≡ given w K → IsNotGiven (set v.origin) v c (Refused r) u
not_grown set v w u o J K c r same met h s e = subst (λ x. IsNotGiven (set x) v c (Refused r) u) same
    (J, met, s.0, given_after v w u J K [] h e (s.1 ∙ sym (append-nil J)) ∙ nothing_added v J)

-- ---- a value whose scribe has stopped

-- it was given back as it is: so it is of the origin, and has the history, that are known since
pub stopped_at : {X O : Type 0} (origin : X → O) (history : X → History) (lawful : X → Type 0) (has_stopped : X → Bool)
    (x y : X) (v w u : View O) → origin x ≡ v.origin → HasTaken v (history x) w
    → lawful y → origin y ≡ origin x → u ≡ given w (history y) → has_stopped y ≡ true
    → HasStopped origin history lawful has_stopped u
stopped_at origin history lawful has_stopped x y v w u same h kept still e s = record {
  value = y;
  lawful_now = kept;
  same_origin = still ∙ same ∙ sym (ap (λ (z : View _). z.origin) e ∙ ap (λ (z : View _). z.origin) h.2);
  same_history = sym (ap (λ (z : View _). z.seen) e);
  stopped = s;
}

-- ---- a query under the lock

pub extends_same : {O : Type 0} (v w : View O) (J : History) → HasTaken v J w → IsPrefix w.seen J
extends_same v w J h = ([], append-nil w.seen ∙ ap (λ (u : View _). u.seen) h.2)

pub may_add_nothing : {O : Type 0} (v w : View O) (J : History) → HasTaken v J w
    → MayAdd w.number w.seen (block_after w.seen J)
may_add_nothing v w J h = subst (λ (u : View _). MayAdd u.number u.seen (block_after u.seen J)) (sym h.2)
    (add_nothing v.number J)

-- the lock was given back as it was taken
unchanged : {O : Type 0} (v w u : View O) (J : History) → HasTaken v J w → u ≡ given w J → u ≡ met_view v J
unchanged v w u J h e = given_after v w u J J [] h e (sym (append-nil J)) ∙ nothing_added v J

-- it was answered
pub answered : {O : Type 0} (set : O → Setting) (v w u : View O) (o : O) (J : History) (q : Query)
    (r : Result QueryResult Refusal) → o ≡ v.origin → IsMet (set o) v J → HasTaken v J w → r ≡ tell (set o).limits J q
    → u
    ≡ given w J
    → IsAnswered (set v.origin) v q r u
answered set v w u o J q r same met h s e =
    subst (λ x. IsAnswered (set x) v q r u) same
    (record { history = J; met = met; told = s; after = unchanged v w u J h e })

-- the first moment was told
pub foretold : {O : Type 0} (set : O → Setting) (v w u : View O) (o : O) (J : History) (next : Option ℕ) → o ≡ v.origin
    → IsMet (set o) v J → HasTaken v J w → IsFirstMoment (set o).limits J next → u ≡ given w J
    → IsForetold (set v.origin) v next u
foretold set v w u o J next same met h s e = subst (λ x. IsForetold (set x) v next u) same
    (record { history = J; met = met; told = s; after = unchanged v w u J h e })
