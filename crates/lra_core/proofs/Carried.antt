-- Each errand is of an ask in the history.
use Rattle.std.proofs.Common.{◌≡◌, ℕ, Bool, false, List, [], ◌∷◌, ◌++◌, Option, Some, None, refl, sym, ap, ◌∙◌, subst}
use Rattle.std.proofs.Common.{append_assoc, append-nil, eq-eqb}
use Rattle.std.specs.Prelude.{Ok, ◌==◌, is_some, option_map}
use Rattle.std.specs.Option.{option_or, option_and_then, option_map_or}
use Rattle.lra_model.specs.declared.entry.Deed.{Deed}
use Rattle.lra_model.specs.declared.entry.Deed.TheVariants as deed
use Rattle.lra_model.specs.declared.entry.Entry.{Entry}
use Rattle.lra_model.specs.Words.{when}
use Rattle.lra_model.specs.History.{History, asks}
use Rattle.lra_model.specs.Members.{Asked, asked_at, ask_of}
use Rattle.lra_laws.proofs.Push.{step, ask_of_push}
use Rattle.lra_laws.proofs.Legal.{Allowed, allowed, asks_numbered, numbered_fresh, asked_number}
use Rattle.lra_laws.proofs.LegalAsks.{ask_of_there}
use Rattle.lra_model.specs.Settling.{settling, with_settling}
use Rattle.lra_ids.specs.Addresses.{is_address}
use Rattle.lra_commands.specs.declared.command.Told.{Told}
use Rattle.lra_commands.specs.declared.limits.Terms.{Terms}
use Rattle.lra_commands.specs.Terms.{AreKeepable}
use Rattle.lra_commands.specs.Calls.{Call, IsCall}
use Rattle.lra_commands.specs.Counters.{Setting, terms_of}
use Rattle.lra_commands.specs.Deeds.{own_entry}
use Rattle.lra_commands.specs.Blocks.{block}
use Rattle.lra_commands.specs.Errands.{Asking, asking_of}
use Rattle.lra_commands.specs.Answers.{answer, after_call}
use Rattle.lra_commands.specs.Runs.{IsLawful}
use Rattle.lra_commands.specs.Given.{errand_for, errand_of, IsOfAsk}
use Rattle.lra_commands.proofs.Keeps.{call_keeps}
use Rattle.lra_core.proofs.Assembling.{grows, block_is}
use Rattle.lra_core.proofs.Allowing.{planned_allowed}

-- an ask stays
pub ask_of_more : (es J : List Entry) (n : ℕ) (x : Asked) → ask_of J n ≡ Some x → ask_of (J ++ es) n ≡ Some x
ask_of_more [] J n x h = ap (λ (K : History). ask_of K n) (append-nil J) ∙ h
ask_of_more (e ∷ es) J n x h =
    ap (λ (K : History). ask_of K n) (sym (append_assoc J (e ∷ []) es))
    ∙ ask_of_more es (J ++ e ∷ []) n x
    (ask_of_push J e n ∙ ap
    (λ (o : Option Asked). option_or o (option_map_or (λ (a : Asked). when (a.number == n) a) (asked_at (step J e))
    None)) h)

-- an ask that may come is there after its entry
ask_made : (s : Terms) (J : History) (by m : ℕ) (d : Deed) (a : Asked) → IsLawful s J
    → Allowed s.version is_address J (record { by = by; moment = m; deed = d })
    → asked_at (step J (record { by = by; moment = m; deed = d })) ≡ Some a
    → ask_of (J ++ record { by = by; moment = m; deed = d } ∷ []) a.number ≡ Some a
ask_made s J by m (deed.Ask n p kind) a l k h =
    let e : Entry = record { by = by; moment = m; deed = deed.Ask n p kind } in
    let number : n ≡ a.number = ap (λ (o : Option Asked). option_map_or (λ (x : Asked). x.number) o n) h in
    let fresh = numbered_fresh (asks J) (asks_numbered s.version is_address J l.legal) n
    (asked_number s.version is_address J by m (deed.Ask n p kind) k n refl) in
    let missing : ask_of J a.number ≡ None = none (ask_of J a.number) (ap (λ (i : ℕ). is_some (ask_of J i)) (sym number)
    ∙ ask_of_there J n ∙ fresh) in
    ask_of_push J e a.number
    ∙ ap (λ (o : Option Asked). option_or o (option_map_or (λ (x : Asked). when (x.number == a.number) x)
    (asked_at (step J e)) None)) missing
    ∙ ap (λ (o : Option Asked). option_map_or (λ (x : Asked). when (x.number == a.number) x) o None) h
    ∙ ap (λ (b : Bool). when b a) (eq-eqb a.number a.number refl)
  where
    none : (o : Option Asked) → is_some o ≡ false → o ≡ None
    none None g = refl
    none (Some x) g = absurd cc
ask_made s J by m _ a l k h = absurd cc

-- the errand of a call is of the ask that it makes
pub errand_carried : (g : Setting) (J : History) (c : Call) (t : Told) (x : Asking) → AreKeepable g.limits
    → IsLawful (terms_of g) J → IsCall c → answer (terms_of g) J c ≡ Ok t → errand_of g J c ≡ Some x
    → IsOfAsk (after_call (terms_of g) J c) x
errand_carried g J c t x k l call h asked = by_entry (own_entry (terms_of g) J c) refl asked
  where
    s : Terms
    s = terms_of g

    by_ask : (e : Entry) → own_entry s J c ≡ Some e → (o : Option Asked) → asked_at (step J e) ≡ o
        → option_map (asking_of g.instance g.base J) o ≡ Some x → IsOfAsk (after_call s J c) x
    by_ask e own None i j = absurd cc
    by_ask e own (Some a) i j =
        let same : asking_of g.instance g.base J a ≡ x = cc in
        let is : block s J c ≡ with_settling J e = block_is s J c e own in
        let after : after_call s J c ≡ J ++ with_settling J e = ap (λ (es : List Entry). J ++ es)
        (grows s J c t h ∙ is) in
        let may = planned_allowed s J e (with_settling J e) (subst (IsLawful s) after (call_keeps s J c k l call))
        refl in
        let made = ask_made s J e.by e.moment e.deed a l (allowed s.version is_address J e may) i in
        let whole : ask_of (after_call s J c) a.number ≡ Some a =
        ap (λ (K : History). ask_of K a.number)
        (after ∙ sym (append_assoc J (e ∷ []) (settling e.by e.moment (J ++ e ∷ []))))
        ∙ ask_of_more (settling e.by e.moment (J ++ e ∷ [])) (J ++ e ∷ []) a.number a made in
        subst (IsOfAsk (after_call s J c)) same whole

    by_entry : (o : Option Entry) → own_entry s J c ≡ o → option_and_then (errand_for g J) o ≡ Some x
        → IsOfAsk (after_call s J c) x
    by_entry None i j = absurd cc
    by_entry (Some e) i j = by_ask e i (asked_at (step J e)) refl j
