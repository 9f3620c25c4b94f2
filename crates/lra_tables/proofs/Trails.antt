-- The way back over entries that were applied.
use Rattle.std.proofs.Common.{◌≡◌, ℕ, zero, suc, ◌≤◌, ◌<◌, true, List, [], ◌∷◌, ◌++◌, length, take, Some, inl, inr, ◌⊎◌}
use Rattle.std.proofs.Common.{refl, sym, ap, ◌∙◌, subst, arith, length-append}
use Rattle.std.proofs.lemmas.List.{take_all}
use Rattle.std.specs.Prelude.{slice_get}
use Rattle.lra_model.specs.declared.entry.Entry.{Entry}
use Rattle.lra_model.specs.History.{History}
use Rattle.lra_model.specs.Rules.{allows}
use Rattle.lra_laws.specs.Snapshots.{StateSnapshot, StandsFor, Follows, snapshot_after}
use Rattle.lra_laws.proofs.SnapshotPush.{StandsFor-push}
use Rattle.lra_rows.specs.Rowed.{addresses_joined}
use Rattle.lra_rows.specs.Steps.{Step, addresses_back}
use Rattle.lra_tables.specs.inner.Boarded.{Boarded, carried, uncarried, CameBy}
use Rattle.lra_tables.specs.inner.UndoLog.{carried_all, IsUndoLog}

-- one of a list with one more is one of the list, or that one
of_more : {X : Type 0} (xs : List X) (y : X) (i : ℕ) (x : X) → slice_get (xs ++ y ∷ []) i ≡ Some x
    → ((i < length xs) × (slice_get xs i ≡ Some x)) ⊎ ((i ≡ length xs) × (y ≡ x))
of_more [] y zero x h = inr (refl, cc)
of_more [] y (suc i) x h = absurd cc
of_more (z ∷ xs) y zero x h = inl (omega arith, h)
of_more (z ∷ xs) y (suc i) x h = elim (of_more xs y i x h) [
  | inl before ↦ inl (omega (arith, before.0), before.1)
  | inr
      here ↦ inr (ap suc here.0, here.1)
]

carried_all-push : (b : Boarded) (es : List Entry) (e : Entry) → carried_all b (es ++ e ∷ [])
    ≡ carried e (carried_all b es)
carried_all-push b [] e = refl
carried_all-push b (x ∷ es) e = carried_all-push (carried x b) es e

take-push : {X : Type 0} (xs : List X) (y : X) (i : ℕ) → i ≤ length xs → take i (xs ++ y ∷ []) ≡ take i xs
take-push xs y zero h = refl
take-push [] y (suc i) h = absurd (omega arith)
take-push (x ∷ xs) y (suc i) h = ap (λ ys. x ∷ ys) (take-push xs y i (omega arith))

-- one more entry
pub trail_more : (b : Boarded) (es : List Entry) (ks : List Step) (now after : Boarded) (e : Entry) (k : Step)
    → IsUndoLog b es ks now → Follows now.rows.snapshot e → after ≡ carried e now → uncarried e k after ≡ now
    → addresses_back k after.rows ≡ addresses_joined e.deed → IsUndoLog b (es ++ e ∷ []) (ks ++ k ∷ []) after
trail_more b es ks now after e k h follows is back gives = record {
  at = is ∙ ap (carried e) h.at ∙ sym (carried_all-push b es e);
  many = length-append ks (k ∷ []) ∙ (let n = h.many in omega arith) ∙ sym (length-append es (e ∷ []));
  follows = λ i x g. elim (of_more es e i x g) [
    | inl before ↦ subst (λ (xs : List Entry). Follows (carried_all b xs).rows.snapshot x)
        (sym (take-push es e i (let l = before.0 in omega arith))) (h.follows i x before.1)
    | inr here ↦ subst (λ (y : Entry). Follows (carried_all b (take i (es ++ e ∷ []))).rows.snapshot y) here.1
        (subst (λ (c : Boarded). Follows c.rows.snapshot e) (sym (whole i here.0)) follows)
  ];
  back = λ i x q g f. elim (of_more es e i x g) [
    | inl before ↦
        let old = older i q before.0 f in
        ap (λ (xs : List Entry). uncarried x q (carried_all b xs))
        (take-push es e (suc i) (let l = before.0 in omega arith)) ∙ h.back i x q before.1 old
        ∙ ap (carried_all b) (sym (take-push es e i (let l = before.0 in omega arith)))
    | inr here ↦
        let same : k ≡ q = newest i q here.0 f in
        ap (λ (xs : List Entry). uncarried x q (carried_all b xs))
        (take_all (suc i) (es ++ e ∷ []) (let l = length-append es (e ∷ []) in let n = here.0 in omega arith))
        ∙ (λ j. uncarried (sym here.1 j) (sym same j) (now_is j))
        ∙ back ∙ sym (whole i here.0)
  ];
  given = λ i x q g f. elim (of_more es e i x g) [
    | inl before ↦
        ap (λ (xs : List Entry). addresses_back q (carried_all b xs).rows)
        (take-push es e (suc i) (let l = before.0 in omega arith)) ∙ h.given i x q before.1 (older i q before.0 f)
    | inr here ↦
        let same : k ≡ q = newest i q here.0 f in
        ap (λ (xs : List Entry). addresses_back q (carried_all b xs).rows)
        (take_all (suc i) (es ++ e ∷ []) (let l = length-append es (e ∷ []) in let n = here.0 in omega arith))
        ∙ (λ j. addresses_back (sym same j) (now_is j).rows)
        ∙ gives ∙ ap (λ (y : Entry). addresses_joined y.deed) here.1
  ];
}
  where
    whole : (i : ℕ) → i ≡ length es → carried_all b (take i (es ++ e ∷ [])) ≡ now
    whole i n = ap (carried_all b) (take-push es e i (omega arith) ∙ take_all i es (omega arith)) ∙ sym h.at

    now_is : carried_all b (es ++ e ∷ []) ≡ after
    now_is = carried_all-push b es e ∙ ap (carried e) (sym h.at) ∙ sym is

    older : (i : ℕ) (q : Step) → i < length es → slice_get (ks ++ k ∷ []) i ≡ Some q → slice_get ks i ≡ Some q
    older i q l f = elim (of_more ks k i q f) [
      | inl before ↦ before.1
      | inr here ↦ let n = h.many in let m = here.0 in
          absurd (omega arith)
    ]

    newest : (i : ℕ) (q : Step) → i ≡ length es → slice_get (ks ++ k ∷ []) i ≡ Some q → k ≡ q
    newest i q l f = elim (of_more ks k i q f) [
      | inl before ↦ let n = h.many in let m = before.0 in
          absurd (omega arith)
      | inr here ↦ here.1
    ]

take_next : {X : Type 0} (xs : List X) (i : ℕ) (x : X) → slice_get xs i ≡ Some x → take (suc i) xs ≡ take i xs ++ x ∷ []
take_next [] i x h = absurd cc
take_next {X = X} (y ∷ xs) zero x h = one y h
  where
    one : (y : X) → Some y ≡ Some x → (let ys : List X = y ∷ [] in ys) ≡ x ∷ []
    one y h = let e : y ≡ x = cc in cc
take_next (y ∷ xs) (suc i) x h = ap (λ ys. y ∷ ys) (take_next xs i x h)

-- the last one that is left can be undone
pub last_came : (b : Boarded) (es : List Entry) (ks : List Step) (last now : Boarded) (e : Entry) (k : Step) (i n : ℕ)
    → IsUndoLog b es ks last → n ≡ suc i → slice_get es i ≡ Some e → slice_get ks i ≡ Some k → now
    ≡ carried_all b (take n es) → CameBy e k now
last_came b es ks last now e k i n h number here step is =
    let before = carried_all b (take i es) in
    let at : now ≡ carried_all b (take (suc i) es) = is ∙ ap (λ m. carried_all b (take m es)) number in
    record {
      before = before.rows;
      follows = h.follows i e here;
      now = ap (λ (c : Boarded). c.rows.snapshot) (at ∙ ap (carried_all b) (take_next es i e here)
          ∙ carried_all-push b (take i es) e);
      back = ap (λ (c : Boarded). c.rows) (ap (uncarried e k) at ∙ h.back i e k here step);
    }

pub last_back : (b : Boarded) (es : List Entry) (ks : List Step) (last now : Boarded) (e : Entry) (k : Step) (i n : ℕ)
    → IsUndoLog b es ks last → n ≡ suc i → slice_get es i ≡ Some e → slice_get ks i ≡ Some k → now
    ≡ carried_all b (take n es) → uncarried e k now ≡ carried_all b (take i es)
last_back b es ks last now e k i n h number here step is = ap (uncarried e k)
    (is ∙ ap (λ m. carried_all b (take m es)) number) ∙ h.back i e k here step

-- and gives the addresses of the member that joined by it
pub last_given : (b : Boarded) (es : List Entry) (ks : List Step) (last now : Boarded) (e : Entry) (k : Step) (i n : ℕ)
    → IsUndoLog b es ks last → n ≡ suc i → slice_get es i ≡ Some e → slice_get ks i ≡ Some k → now
    ≡ carried_all b (take n es) → addresses_back k now.rows ≡ addresses_joined e.deed
last_given b es ks last now e k i n h number here step is = ap (λ (c : Boarded). addresses_back k c.rows)
    (is ∙ ap (λ m. carried_all b (take m es)) number) ∙ h.given i e k here step

-- no entry yet
pub trail_none : (b : Boarded) (es : List Entry) (ks : List Step) → es ≡ [] → ks ≡ [] → IsUndoLog b es ks b
trail_none b es ks no_entry no_step =
    subst (λ (xs : List Entry). IsUndoLog b xs ks b) (sym no_entry)
    (subst (λ (qs : List Step). IsUndoLog b [] qs b) (sym no_step) (record {
      at = refl;
      many = refl;
      follows = λ i e h. absurd cc;
      back = λ i e k h g. absurd cc;
      given =
          λ i e k h g. absurd cc;
    }))

-- the settling state after an entry stands for the longer history
pub carried_stands : (s : StateSnapshot) (b after : Boarded) (J : History) (e : Entry) (h : StandsFor s J)
    → allows h.version h.is_address J e ≡ true → b.rows.snapshot ≡ s → after ≡ carried e b
    → StandsFor after.rows.snapshot (J ++ e ∷ [])
carried_stands s b after J e h k same is =
    subst (λ (x : StateSnapshot). StandsFor x (J ++ e ∷ [])) (ap (snapshot_after e) (sym same)
    ∙ sym (ap (λ (c : Boarded). c.rows.snapshot) is)) (StandsFor-push s J e h k)
