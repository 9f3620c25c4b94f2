-- What the one that enrolled knows.
use Rattle.std.proofs.Common.{◌≡◌, ◌≢◌, ℕ, ◌+◌, List, length, Option, Ok, refl, sym, ap, ◌∙◌, arith}
use Rattle.lra_model.specs.declared.entry.Entry.{Entry}
use Rattle.lra_model.specs.History.{History, clerks}
use Rattle.lra_ids.specs.Addresses.{is_address}
use Rattle.lra_laws.proofs.Clerks.{none_by_next}
use Rattle.lra_ticket.specs.declared.view.View.{View}
use Rattle.lra_ticket.specs.History.{entries_by, number_after}
use Rattle.lra_commands.specs.declared.command.Told.{Told}
use Rattle.lra_commands.specs.declared.command.Told.TheVariants as told
use Rattle.lra_commands.specs.Errands.{Asking}
use Rattle.lra_commands.specs.Answers.{growth}
use Rattle.lra_commands.specs.Counters.{Setting, terms_of}
use Rattle.lra_office.specs.Orders.{IsGrown}
use Rattle.lra_office.specs.Enrolled.{enrolment, IsEnrolled}
use Rattle.lra_office.proofs.Enrols.{enrolled_number}

-- a number was told
pub told_some : {O : Type 0} (g : Setting) (v w : View O) (m : ℕ) (t : Told) (e : Option Asking)
    → IsGrown g v (enrolment m) t e w → (n : ℕ) × (t ≡ told.Clerk n)
told_some g v w m t e h =
    (length (clerks h.history) + 1, (enrolled_number (terms_of g) h.history m t h.done.answered).told)

abbrev pub number_told : Told → ℕ → ℕ
number_told (told.Clerk n) d = n
number_told _ d = d

pub record Knows {O : Type 0} (g : Setting) (v w : View O) (m n : ℕ) : Type 0 where
  pub same : w.number ≡ n
  pub positive : n ≢ 0
  pub enrolled : IsEnrolled g v m n w

pub knows : {O : Type 0} (g : Setting) (v w : View O) (m n : ℕ) (t : Told) (e : Option Asking) → v.number ≡ 0
    → IsGrown g v (enrolment m) t e w → t ≡ told.Clerk n → Knows g v w m n
knows g v w m n t e blank h is =
    let J : History = h.history in
    let k = enrolled_number (terms_of g) J m t h.done.answered in
    let B : List Entry = growth (terms_of g) J (enrolment m) in
    let number : n ≡ length (clerks J) + 1 = ap (λ (x : Told). number_told x n) (sym is ∙ k.told) in
    record {
      same = ap (λ (x : View _). x.number) h.after ∙ ap (λ (x : ℕ). number_after x B) blank ∙ k.first ∙ sym number;
      positive = λ z. let p : length (clerks J) + 1 ≡ 0 = sym number ∙ z in absurd (omega arith);
      enrolled = record {
        grown = record {
          history = J;
          met = h.met;
          done = record {
            answered = h.done.answered
                ∙ ap (λ (x : Told). Ok x) is;
            errand = refl;
            grown = h.done.grown;
          };
          kept = h.kept;
          after = h.after;
        };
        fresh = ap (λ (x : ℕ). entries_by x J) number ∙ none_by_next g.version is_address J h.met.kept.lawful.legal;
      };
    }
