-- Instances of a journal set: what joining, leaving and changing members does to them.
use Rattle.std.proofs.Common.{◌≡◌, ◌≢◌, ℕ, ◌<◌, ◌≤◌, List, [], ◌∷◌, ◌++◌, map, length, get_or, Some, None, inl, inr}
use Rattle.std.proofs.Common.{refl, sym, ap, ◌∙◌, subst, arith}
use Rattle.std.proofs.lemmas.List.{map-append}
use Rattle.std.proofs.lemmas.Bool.Decides.{eqb_tells}
use Rattle.lra_journal_sets.specs.JournalSets.{last_after, IsAbove, IsJournalSet, member, put, without, newest}
use Rattle.lra_journal_sets.proofs.Members.{test_yes, test_no, member-here, member-there, not_first}

-- ---- numbers

-- the last of them has the last index
pub last_place : (n : ℕ) (ns : List ℕ) (d : ℕ) → last_after n ns ≡ get_or (n ∷ ns) (length ns) d
last_place n [] d = refl
last_place n (m ∷ ms) d = last_place m ms d

pub last-append : (n : ℕ) (ns : List ℕ) (m : ℕ) → last_after n (ns ++ m ∷ []) ≡ m
last-append n [] m = refl
last-append n (k ∷ ks) m = last-append k ks m

-- numbers above the last of others stand after them
pub above-append : (n : ℕ) (ns ms : List ℕ) → IsAbove n ns → IsAbove (last_after n ns) ms → IsAbove n (ns ++ ms)
above-append n [] ms h k = k
above-append n (m ∷ ns) ms h k = (h.0, above-append m ns ms h.1 k)

pub journal_set-append : (ns ms : List ℕ) → IsJournalSet ns → IsAbove (last_after 0 ns) ms → IsJournalSet (ns ++ ms)
journal_set-append [] ms h k = absurd h
journal_set-append (n ∷ ns) ms h k = above-append n ns ms h k

pub above_less : (m n : ℕ) (ns : List ℕ) → m < n → IsAbove n ns → IsAbove m ns
above_less m n [] less h = tt
above_less m n (k ∷ ks) less h = (omega (arith, less, h.0), h.1)

pub last_above : (n : ℕ) (ns : List ℕ) → IsAbove n ns → n ≤ last_after n ns
last_above n [] h = omega arith
last_above n (m ∷ ms) h = let k = last_above m ms h.1 in omega (arith, h.0, k)

module _ {S : Type 0} (name : S → ℕ) where
  -- ---- a member changes

  pub instances-put : (i : ℕ) (t : S) (ss : List S) → name t ≡ i → map name (put name i t ss) ≡ map name ss
  instances-put i t [] e = refl
  instances-put i t (s ∷ ss) e = elim (eqb_tells (name s) i) [
    | inl h ↦ ap (map name) (test_yes (name s) i (t ∷ ss) (s ∷ put name i t ss) h.1)
        ∙ ap (λ n. n ∷ map name ss) (e ∙ sym h.1)
    | inr h ↦ ap (map name) (test_no (name s) i (t ∷ ss) (s ∷ put name i t ss) h.1)
        ∙ ap (λ ns. name s ∷ ns) (instances-put i t ss e)
  ]

  pub put_here : (i : ℕ) (s t : S) (ss : List S) → member name i ss ≡ Some s → name t ≡ i
      → member name i (put name i t ss) ≡ Some t
  put_here i s t [] h e = absurd cc
  put_here i s t (u ∷ ss) h e = elim (eqb_tells (name u) i) [
    | inl k ↦ ap (member name i) (test_yes (name u) i (t ∷ ss) (u ∷ put name i t ss) k.1) ∙ member-here name i t ss e
    | inr k ↦ ap (member name i) (test_no (name u) i (t ∷ ss) (u ∷ put name i t ss) k.1)
        ∙ member-there name i u (put name i t ss) k.1
        ∙ put_here i s t ss (sym (member-there name i u ss k.1) ∙ h) e
  ]

  pub put_elsewhere : (i j : ℕ) (t : S) (ss : List S) → name t ≡ i → j ≢ i → member name j (put name i t ss)
      ≡ member name j ss
  put_elsewhere i j t [] e d = refl
  put_elsewhere i j t (u ∷ ss) e d = elim (eqb_tells (name u) i) [
    | inl k ↦ ap (member name j) (test_yes (name u) i (t ∷ ss) (u ∷ put name i t ss) k.1)
        ∙ member-there name j t ss (λ h. d (sym h ∙ e))
        ∙ sym (member-there name j u ss (λ h. d (sym h ∙ k.1)))
    | inr k ↦ ap (member name j) (test_no (name u) i (t ∷ ss) (u ∷ put name i t ss) k.1)
        ∙ elim (eqb_tells (name u) j) [
          | inl h ↦ member-here name j u (put name i t ss) h.1 ∙ sym (member-here name j u ss h.1)
          | inr h ↦ member-there name j u (put name i t ss) h.1 ∙ put_elsewhere i j t ss e d
              ∙ sym (member-there name j u ss h.1)
        ]
  ]

  -- ---- a member joins

  pub instances-join : (ss : List S) (s : S) → map name (ss ++ s ∷ []) ≡ map name ss ++ name s ∷ []
  instances-join ss s = map-append name ss (s ∷ [])

  pub newest-join : (ss : List S) (s : S) → newest name (ss ++ s ∷ []) ≡ name s
  newest-join ss s = ap (last_after 0) (instances-join ss s) ∙ last-append 0 (map name ss) (name s)

  pub journal_set-join : (ss : List S) (s : S) → IsJournalSet (map name ss) → newest name ss < name s
      → IsJournalSet (map name (ss ++ s ∷ []))
  journal_set-join ss s h k = subst IsJournalSet (sym (instances-join ss s))
      (journal_set-append (map name ss) (name s ∷ []) h
      (k, tt))

  -- ---- a member leaves

  above-without : (n i : ℕ) (ss : List S) → IsAbove n (map name ss) → IsAbove n (map name (without name i ss))
  above-without n i [] h = tt
  above-without n i (s ∷ ss) h = elim (eqb_tells (name s) i) [
    | inl k ↦ subst (λ us. IsAbove n (map name us)) (sym (test_yes (name s) i ss (s ∷ without name i ss) k.1))
        (above_less n (name s) (map name ss) h.0 h.1)
    | inr k ↦ subst (λ us. IsAbove n (map name us)) (sym (test_no (name s) i ss (s ∷ without name i ss) k.1))
        (h.0, above-without (name s) i ss h.1)
  ]

  -- the last stays, unless it is the one that leaves
  last-without : (n i : ℕ) (ss : List S) → i ≢ last_after n (map name ss) → last_after n (map name (without name i ss))
      ≡ last_after n (map name ss)
  last-without n i [] d = refl
  last-without n i (s ∷ []) d = ap (λ us. last_after n (map name us)) (test_no (name s) i [] (s ∷ []) (λ e. d (sym e)))
  last-without n i (s ∷ t ∷ ss) d = elim (eqb_tells (name s) i) [
    | inl k ↦ ap (λ us. last_after n (map name us)) (test_yes (name s) i (t ∷ ss) (s ∷ without name i (t ∷ ss)) k.1)
    | inr k ↦ ap (λ us. last_after n (map name us)) (test_no (name s) i (t ∷ ss) (s ∷ without name i (t ∷ ss)) k.1)
        ∙ last-without (name s) i (t ∷ ss) d
  ]

  pub newest-leave : (i : ℕ) (ss : List S) → i ≢ newest name ss → newest name (without name i ss) ≡ newest name ss
  newest-leave i ss d = last-without 0 i ss d

  journal_set_of_above : (n : ℕ) (ns : List ℕ) → IsAbove n ns → n < last_after n ns → IsJournalSet ns
  journal_set_of_above n [] h k = absurd (omega (arith, k))
  journal_set_of_above n (m ∷ ms) h k = h.1

  pub journal_set-leave : (i : ℕ) (ss : List S) → IsJournalSet (map name ss) → i ≢ newest name ss
      → IsJournalSet (map name (without name i ss))
  journal_set-leave i [] h d = absurd h
  journal_set-leave i (s ∷ ss) h d = elim (eqb_tells (name s) i) [
    | inl k ↦ subst (λ us. IsJournalSet (map name us)) (sym (test_yes (name s) i ss (s ∷ without name i ss) k.1))
        (journal_set_of_above (name s) (map name ss) h
        (let le = last_above (name s) (map name ss) h in
        let ne : name s ≢ last_after (name s) (map name ss) = λ e. d (sym k.1 ∙ e) in
        omega (arith, le, ne)))
    | inr k ↦ subst (λ us. IsJournalSet (map name us)) (sym (test_no (name s) i ss (s ∷ without name i ss) k.1))
        (above-without (name s) i ss h)
  ]

  pub leave_elsewhere : (i j : ℕ) (ss : List S) → j ≢ i → member name j (without name i ss) ≡ member name j ss
  leave_elsewhere i j [] d = refl
  leave_elsewhere i j (s ∷ ss) d = elim (eqb_tells (name s) i) [
    | inl k ↦ ap (member name j) (test_yes (name s) i ss (s ∷ without name i ss) k.1)
        ∙ sym (member-there name j s ss (λ h. d (sym h ∙ k.1)))
    | inr k ↦ ap (member name j) (test_no (name s) i ss (s ∷ without name i ss) k.1)
        ∙ elim (eqb_tells (name s) j) [
          | inl h ↦ member-here name j s (without name i ss) h.1 ∙ sym (member-here name j s ss h.1)
          | inr h ↦ member-there name j s (without name i ss) h.1 ∙ leave_elsewhere i j ss d
              ∙ sym (member-there name j s ss h.1)
        ]
  ]

  -- an instance that is no greater than a bound which all exceed isn't there
  not_below : (i n : ℕ) (ss : List S) → i ≤ n → IsAbove n (map name ss) → member name i ss ≡ None
  not_below i n [] le h = refl
  not_below i n (s ∷ ss) le h =
      member-there name i s ss (λ e. absurd (omega (arith, e, le, h.0)))
      ∙ not_below i (name s) ss (omega (arith, le, h.0)) h.1

  gone_above : (i n : ℕ) (ss : List S) → IsAbove n (map name ss) → member name i (without name i ss) ≡ None
  gone_above i n [] h = refl
  gone_above i n (s ∷ ss) h = elim (eqb_tells (name s) i) [
    | inl k ↦ ap (member name i) (test_yes (name s) i ss (s ∷ without name i ss) k.1)
        ∙ not_below i (name s) ss (omega (arith, k.1)) h.1
    | inr k ↦ ap (member name i) (test_no (name s) i ss (s ∷ without name i ss) k.1)
        ∙ member-there name i s (without name i ss) k.1 ∙ gone_above i (name s) ss h.1
  ]

  -- a member that left isn't there
  pub leave_here : (i : ℕ) (ss : List S) → IsJournalSet (map name ss) → member name i (without name i ss) ≡ None
  leave_here i [] h = absurd h
  leave_here i (s ∷ ss) h = elim (eqb_tells (name s) i) [
    | inl k ↦ ap (member name i) (test_yes (name s) i ss (s ∷ without name i ss) k.1)
        ∙ not_below i (name s) ss (omega (arith, k.1)) h
    | inr k ↦ ap (member name i) (test_no (name s) i ss (s ∷ without name i ss) k.1)
        ∙ member-there name i s (without name i ss) k.1 ∙ gone_above i (name s) ss h
  ]

  -- an instance that is there is no greater than the newest
  pub there_below : (i n : ℕ) (ss : List S) (s : S) → IsAbove n (map name ss) → member name i ss ≡ Some s → i
      ≤ last_after n (map name ss)
  there_below i n [] s h k = absurd cc
  there_below i n (t ∷ ss) s h k = elim (eqb_tells (name t) i) [
    | inl e ↦ (let le = last_above (name t) (map name ss) h.1 in omega (arith, e.1, le))
    | inr e ↦ there_below i (name t) ss s h.1 (sym (member-there name i t ss e.1) ∙ k)
  ]

  pub there_named : (i : ℕ) (ss : List S) (s : S) → member name i ss ≡ Some s → name s ≡ i
  there_named i [] s k = absurd cc
  there_named i (t ∷ ss) s k = elim (eqb_tells (name t) i) [
    | inl e ↦ (let j : Some t ≡ Some s = sym (member-here name i t ss e.1) ∙ k in let same : t ≡ s = cc in
        ap name (sym same) ∙ e.1)
    | inr e ↦ there_named i ss s (sym (member-there name i t ss e.1) ∙ k)
  ]

  -- the newest is there
  pub newest_there : (ss : List S) → IsJournalSet (map name ss) → member name (newest name ss) ss ≢ None
  newest_there [] f h = absurd f
  newest_there (s ∷ []) f h = (not_first name (name s) s [] h).0 refl
  newest_there (s ∷ t ∷ us) f h = newest_there (t ∷ us) f.1 (not_first name (newest name (s ∷ t ∷ us)) s (t ∷ us) h).1
