-- Whose entries a call writes, and that the lock takes them.
use Rattle.std.proofs.Common.{◌≡◌, ◌≢◌, ℕ, ◌+◌, Bool, List, [], ◌∷◌, length, Result, Ok, Err, refl, sym, ap, ◌∙◌, subst}
use Rattle.std.proofs.Common.{append-nil, cond, arith, ne_eqb}
use Rattle.std.specs.List.{All}
use Rattle.std.proofs.lemmas.List.Elements.{All-from_recursion, All-nil}
use Rattle.lra_model.specs.declared.entry.Entry.{Entry}
use Rattle.lra_model.specs.History.{History, clerks}
use Rattle.lra_ids.specs.Addresses.{is_address}
use Rattle.lra_laws.proofs.Clerks.{none_by_next}
use Rattle.lra_ticket.specs.History.{entries_by, block_after, first_by, number_after, MayAdd}
use Rattle.lra_ticket.proofs.Histories.{block_after-append}
use Rattle.lra_commands.specs.declared.command.Command.TheVariants as command
use Rattle.lra_commands.specs.declared.refusal.Refusal.{Refusal}
use Rattle.lra_commands.specs.Calls.{Command}
use Rattle.lra_commands.specs.Answers.{growth}
use Rattle.lra_commands.specs.Counters.{Setting, terms_of}
use Rattle.lra_commands.proofs.Writers.{AreBy, growth_by}
use Rattle.lra_core.specs.declared.block.Committed.{Committed}
use Rattle.lra_office.specs.Serves.{IsServed, IsKeptBy}
use Rattle.lra_office.specs.inner.Given.{IsNumberOf}

-- ---- what the lock takes

-- one with a number may add what is by it
add_own : (n : ℕ) (J B : List Entry) → n ≢ 0 → AreBy n B → MayAdd n J B
add_own n J B h all =
    let after : number_after n B ≡ n = ap (λ (b : Bool). cond b (first_by B) n) (ne_eqb n 0 h) in
    record {
      own = subst (λ (k : ℕ). All (λ (e : Entry). e.by ≡ k) B) (sym after)
          (All-from_recursion (λ (e : Entry). e.by ≡ n) B all);
      numbered = λ _ z. h (sym after ∙ z);
      fresh = λ z _. absurd (h z);
    }

-- nothing may be added by whomever
add_none : (n : ℕ) (J : List Entry) → MayAdd n J []
add_none n J = record {
  own = All-nil (λ (e : Entry). e.by ≡ number_after n []);
  numbered = λ f. absurd (f refl);
  fresh = λ _ f. absurd (f refl);
}

-- a history as it was handed over has nothing added
pub add_nothing : (n : ℕ) (J : List Entry) → MayAdd n J (block_after J J)
add_nothing n J = subst (λ (B : List Entry). MayAdd n J B) (sym (ap (block_after J) (sym (append-nil J))
    ∙ block_after-append J [])) (add_none n J)

-- one without a number may add what is by a new one
add_new : (k : ℕ) (J B : List Entry) → k ≢ 0 → AreBy k B → entries_by k J ≡ [] → MayAdd 0 J B
add_new k J [] h all none = add_none 0 J
add_new k J (e ∷ es) h all none = record {
  own = subst (λ (n : ℕ). All (λ (x : Entry). x.by ≡ n) (e ∷ es)) (sym all.0)
      (All-from_recursion (λ (x : Entry). x.by ≡ k) (e ∷ es) all);
  numbered = λ _ z. h (sym all.0 ∙ z);
  fresh = λ _ _. ap (λ (n : ℕ). entries_by n J) all.0 ∙ none;
}

-- a call adds what its giver may
add_growth : (g : Setting) (J : History) (by m n : ℕ) (c : Command) → IsKeptBy g J → IsNumberOf c by n
    → MayAdd n J (growth (terms_of g) J (record { by = by; moment = m; command = c }))
add_growth g J by m n command.Enrol k h =
    subst (λ (x : ℕ). MayAdd x J (growth (terms_of g) J (record { by = by; moment = m; command = command.Enrol })))
    (sym h)
    (add_new (length (clerks J) + 1) J (growth (terms_of g) J (record { by = by; moment = m; command = command.Enrol }))
    (λ z. absurd (omega arith))
    (growth_by (terms_of g) J (record { by = by; moment = m; command = command.Enrol }))
    (none_by_next g.version is_address J k.lawful.legal))
add_growth g J by m n c k h =
    add_own n J (growth (terms_of g) J (record { by = by; moment = m; command = c })) h.1
    (subst (λ (x : ℕ). AreBy x (growth (terms_of g) J (record { by = by; moment = m; command = c }))) h.0
    (growth_by (terms_of g) J (record { by = by; moment = m; command = c })))

-- a call that was served added what its giver may
pub add_served : (g : Setting) (J K : History) (by m n : ℕ) (c : Command) (r : Result Committed Refusal) → IsKeptBy g J
    → IsNumberOf c by n
    → IsServed g J (record { by = by; moment = m; command = c }) r K → MayAdd n J (block_after J K)
add_served g J K by m n c (Ok x) k h s =
    subst (λ (B : List Entry). MayAdd n J B) (sym (ap (block_after J) s.grown
    ∙ block_after-append J (growth (terms_of g) J (record { by = by; moment = m; command = c }))))
    (add_growth g J by m n c k h)
add_served g J K by m n c (Err x) k h s =
    subst (λ (B : List Entry). MayAdd n J B) (sym (ap (block_after J) (s.1 ∙ sym (append-nil J))
    ∙ block_after-append J [])) (add_none n J)
