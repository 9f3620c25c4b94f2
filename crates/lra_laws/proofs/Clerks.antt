-- Who wrote an entry: a clerk that was enrolled, by the entry itself or before it.
use Rattle.std.proofs.Common.{◌≡◌, ℕ, ◌+◌, Bool, true, false, List, [], ◌∷◌, ◌++◌, length, refl, sym, ap, ◌∙◌, cond}
use Rattle.std.proofs.Common.{arith, eqb-true}
use Rattle.std.proofs.lemmas.List.Elements.{filter-append}
use Rattle.std.specs.Prelude.{◌==◌, ◌||◌, filter}
use Rattle.std.specs.Option.{option_map_or}
use Rattle.lra_model.specs.declared.version.Version.{Version}
use Rattle.lra_model.specs.declared.entry.Entry.{Entry}
use Rattle.lra_model.specs.History.{History, enrolled_by, clerks, is_among}
use Rattle.lra_model.specs.Rules.{is_legal}
use Rattle.lra_laws.proofs.Push.{clerks_push}
use Rattle.lra_laws.proofs.Legal.{Allowed, legal_induction, among_push, clerks_numbered, numbered_among, numbered_fresh}
use Rattle.lra_laws.proofs.Ranges.{writer_there}

-- the clerks after an entry
clerk_there : (J : History) (e : Entry) (n : ℕ) → is_among (clerks (J ++ e ∷ [])) n
    ≡ (is_among (clerks J) n || option_map_or (λ m. m == n) (enrolled_by e) false)
clerk_there J e n = ap (λ (ns : List ℕ). is_among ns n) (clerks_push J e) ∙ among_push (clerks J) (enrolled_by e) n

-- no entry is by a number that is no clerk's
pub none_by : (v : Version) (t : List ℕ → Bool) (J : History) → is_legal v t J ≡ true → (n : ℕ) → is_among (clerks J) n
    ≡ false → filter (λ (e : Entry). e.by == n) J ≡ []
none_by v t = legal_induction v t (λ J. (n : ℕ) → is_among (clerks J) n ≡ false → filter (λ (e : Entry). e.by == n) J
    ≡ []) (λ n g. refl) more
  where
    neither : (b c : Bool) → (b || c) ≡ false → b ≡ false
    neither false c h = refl
    neither true c h = absurd cc

    other : (J : History) (e : Entry) → Allowed v t J e → (n : ℕ) → is_among (clerks (J ++ e ∷ [])) n ≡ false
        → (b : Bool) → (e.by == n) ≡ b → b ≡ false
    other J e k n g false h = refl
    other J e k n g true h =
        let there : is_among (clerks (J ++ e ∷ [])) n ≡ true = ap (λ (x : ℕ). is_among (clerks (J ++ e ∷ [])) x)
        (sym (eqb-true e.by n h)) ∙ writer_there v t J e.by e.moment e.deed k in
        absurd cc

    more : (J : History) (e : Entry) → is_legal v t J ≡ true → Allowed v t J e
        → ((n : ℕ) → is_among (clerks J) n ≡ false → filter (λ (x : Entry). x.by == n) J ≡ [])
        → (n : ℕ) → is_among (clerks (J ++ e ∷ [])) n ≡ false → filter (λ (x : Entry). x.by == n) (J ++ e ∷ []) ≡ []
    more J e l k h n g =
        filter-append (λ (x : Entry). x.by == n) J (e ∷ [])
        ∙ ap (λ (es : List Entry). es ++ filter (λ (x : Entry). x.by == n) (e ∷ []))
        (h n (neither (is_among (clerks J) n) (option_map_or (λ m. m == n) (enrolled_by e) false)
        (sym (clerk_there J e n) ∙ g)))
        ∙ ap (λ (b : Bool). cond b (e ∷ []) []) (other J e k n g (e.by == n) refl)

-- no clerk is 0
pub none_by_zero : (v : Version) (t : List ℕ → Bool) (J : History) → is_legal v t J ≡ true
    → filter (λ (e : Entry). e.by == 0) J ≡ []
none_by_zero v t J l = none_by v t J l 0 (decide (is_among (clerks J) 0) refl)
  where
    decide : (b : Bool) → is_among (clerks J) 0 ≡ b → b ≡ false
    decide false g = refl
    decide true g = let k = numbered_among (clerks J) (clerks_numbered v t J l) 0 g in absurd (omega arith)

-- the next clerk has written nothing
pub none_by_next : (v : Version) (t : List ℕ → Bool) (J : History) → is_legal v t J ≡ true
    → filter (λ (e : Entry). e.by == length (clerks J) + 1) J ≡ []
none_by_next v t J l = none_by v t J l (length (clerks J) + 1) (numbered_fresh (clerks J) (clerks_numbered v t J l)
    (length (clerks J) + 1) refl)
