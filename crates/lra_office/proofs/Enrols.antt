-- What enrolling adds: one clerk, under the next number.
use Rattle.std.proofs.Common.{◌≡◌, ◌≢◌, ℕ, zero, suc, ◌+◌, Bool, true, false, List, [], ◌∷◌, ◌++◌, length, Option, Some}
use Rattle.std.proofs.Common.{None, Ok, Err, refl, ap, ◌∙◌, cond, eq-eqb}
use Rattle.std.specs.Prelude.{◌==◌, is_some, max}
use Rattle.std.specs.Option.{option_map_or}
use Rattle.std.specs.List.{filter_map}
use Rattle.std.proofs.lemmas.List.Elements.{filter_map-append}
use Rattle.std.proofs.lemmas.List.{length-append}
use Rattle.lra_model.specs.declared.entry.Deed.{Deed}
use Rattle.lra_model.specs.declared.entry.Deed.TheVariants as deed
use Rattle.lra_model.specs.declared.asks.Cause.TheVariants as cause
use Rattle.lra_model.specs.declared.entry.Entry.{Entry}
use Rattle.lra_model.specs.History.{History, clerks, enrolled_by, last_moment}
use Rattle.lra_model.specs.Settling.{is_settling, next_settling, settling_within, most_settling}
use Rattle.lra_laws.proofs.Rests.{next_settles}
use Rattle.lra_ticket.specs.History.{first_by, entries_by}
use Rattle.lra_commands.specs.declared.command.Told.{Told}
use Rattle.lra_commands.specs.declared.command.Told.TheVariants as told
use Rattle.lra_commands.specs.declared.limits.Terms.{Terms}
use Rattle.lra_commands.specs.declared.refusal.Refusal.{Refusal}
use Rattle.lra_office.specs.Enrolled.{enrolment}
use Rattle.lra_commands.specs.Blocks.{block}
use Rattle.lra_commands.specs.Refusals.{refused}
use Rattle.lra_commands.specs.Answers.{told_of, answer, growth}

-- what settles enrols no clerk
enrols_none : (by m : ℕ) (d : Deed) → is_settling d ≡ true → enrolled_by (record { by = by; moment = m; deed = d })
    ≡ None
enrols_none by m (deed.Close a cause.Parent) h = refl
enrols_none by m (deed.Cancel a cause.Parent) h = refl
enrols_none by m (deed.Skip p) h = refl
enrols_none by m (deed.End a status) h = refl
enrols_none by m _ h = absurd cc

settling_enrols_none : (n by m : ℕ) (J : History) → filter_map enrolled_by (settling_within n by m J) ≡ []
settling_enrols_none zero by m J = refl
settling_enrols_none (suc n) by m J = next (next_settling J) refl (λ K. settling_enrols_none n by m K)
  where
    next : (o : Option Deed) → next_settling J ≡ o → ((K : History) → filter_map enrolled_by (settling_within n by m K)
        ≡ [])
        → filter_map enrolled_by (option_map_or
        (λ (d : Deed). (let e : Entry = record { by = by; moment = m; deed = d } in e) ∷ settling_within n by m
        (J ++ (let e : Entry = record { by = by; moment = m; deed = d } in e) ∷ [])) o []) ≡ []
    next None g rest = refl
    next (Some d) g rest = rw (enrols_none by m d (next_settles J d g))
        (rest (J ++ (let e : Entry = record { by = by; moment = m; deed = d } in e) ∷ []))

-- the clerks after it
pub enrolled_clerks : (s : Terms) (J : History) (m : ℕ) → clerks (J ++ block s J (enrolment m)) ≡ clerks J
    ++ (length (clerks J) + 1) ∷ []
unfolding clerks block
enrolled_clerks s J m =
    let n : ℕ = length (filter_map enrolled_by J) + 1 in
    let e : Entry = record { by = n; moment = max m (last_moment J); deed = deed.Enrol } in
    filter_map-append enrolled_by J (e ∷ settling_within (most_settling (J ++ e ∷ [])) n e.moment (J ++ e ∷ []))
    ∙ ap (λ (ns : List ℕ). filter_map enrolled_by J ++ n ∷ ns) (settling_enrols_none (most_settling (J ++ e ∷ [])) n
    e.moment (J ++ e ∷ []))

told_by : (o : Option Refusal) (x t : Told) → option_map_or Err o (Ok x) ≡ Ok t → (o ≡ None) × (t ≡ x)
told_by None x t e = (refl, cc)
told_by (Some r) x t e = absurd cc

-- what it is told, and whose block it adds
pub record IsNumbered (s : Terms) (J : History) (m : ℕ) (t : Told) : Type 0 where
  pub told : t ≡ told.Clerk (length (clerks J) + 1)
  pub grown : growth s J (enrolment m) ≡ block s J (enrolment m)
  pub first : first_by (growth s J (enrolment m)) ≡ length (clerks J) + 1

first_of_block : (s : Terms) (J : History) (m : ℕ) → first_by (block s J (enrolment m)) ≡ length (clerks J) + 1
unfolding block
first_of_block s J m = refl

grows_block : (s : Terms) (J : History) (m : ℕ) → refused s J (enrolment m) ≡ None → growth s J (enrolment m)
    ≡ block s J (enrolment m)
unfolding growth
grows_block s J m h = ap (λ (o : Option Refusal). cond (is_some o) [] (block s J (enrolment m))) h

pub enrolled_number : (s : Terms) (J : History) (m : ℕ) (t : Told) → answer s J (enrolment m) ≡ Ok t
    → IsNumbered s J m t
unfolding answer
enrolled_number s J m t h =
    let k = told_by (refused s J (enrolment m)) (told_of s J (enrolment m)) t h in
    let grown = grows_block s J m k.0 in
    record {
      told = k.1 ∙ ap (λ (ns : List ℕ). told.Clerk (length ns)) (enrolled_clerks s J m)
          ∙ ap told.Clerk (length-append (clerks J) ((length (clerks J) + 1) ∷ []));
      grown = grown;
      first = ap first_by grown ∙ first_of_block s J m;
    }

-- ---- the one that enrolled has an entry

entry_there : (n : ℕ) (J es : List Entry) (e : Entry) → e.by ≡ n → entries_by n (J ++ e ∷ es) ≢ []
entry_there n [] es e h = here (e.by == n) (eq-eqb e.by n h)
  where
    here : (b : Bool) → b ≡ true → cond b (e ∷ entries_by n es) (entries_by n es) ≢ []
    here true g k = absurd cc
    here false g k = absurd cc
entry_there n (x ∷ J) es e h = either (x.by == n) (entry_there n J es e h)
  where
    either : (b : Bool) → entries_by n (J ++ e ∷ es) ≢ [] → cond b (x ∷ entries_by n (J ++ e ∷ es))
        (entries_by n (J ++ e ∷ es)) ≢ []
    either true g k = absurd cc
    either false g k = g k

pub enrolled_entries : (s : Terms) (J : History) (m : ℕ) (more : List Entry)
    → entries_by (length (clerks J) + 1) (J ++ (block s J (enrolment m) ++ more)) ≢ []
unfolding block
enrolled_entries s J m more =
    let n : ℕ = length (clerks J) + 1 in
    let e : Entry = record { by = n; moment = max m (last_moment J); deed = deed.Enrol } in
    entry_there n J (settling_within (most_settling (J ++ e ∷ [])) n e.moment (J ++ e ∷ []) ++ more) e refl
