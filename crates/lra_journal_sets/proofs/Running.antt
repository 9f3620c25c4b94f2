-- What happens to a journal set, by induction over the events.
use Rattle.std.proofs.Common.{◌≡◌, ◌≢◌, ◌⊎◌, ℕ, ◌<◌, ◌≤◌, List, [], ◌∷◌, ◌++◌, map, Option, Some, None, inl, inr, refl}
use Rattle.std.proofs.Common.{sym, ap, ◌∙◌, subst, arith}
use Rattle.std.specs.Prelude.{MatchOption, unwrap_or}
use Rattle.std.proofs.lemmas.Bool.Decides.{eqb_tells}
use Rattle.lra_journal_sets.specs.JournalSets.{last_after, IsAbove, IsJournalSet, member, put, newest}
use Rattle.lra_journal_sets.specs.Runs.{Event, Chain, Run, Happens, share, joined}
use Rattle.lra_journal_sets.specs.Runs.Event.{Turn, Join, Leave}
use Rattle.lra_journal_sets.specs.Laws.{IsApart, AreApart, Each, MovingPutsOne, LeavingTakesOne, JoiningAddsOne}
use Rattle.lra_journal_sets.specs.Laws.{EachHasItsChain, OthersAreLacking, InstancesAreApart, RunsCanBeCut}
use Rattle.lra_journal_sets.proofs.Members.{test_yes, test_no, member-here, member-there, member-append}
use Rattle.lra_journal_sets.proofs.Instances.{
  journal_set-append,
  journal_set-join,
  newest-join,
  newest-leave,
  journal_set-leave,
}
use Rattle.lra_journal_sets.proofs.Instances.{instances-put, put_here, put_elsewhere, leave_here, leave_elsewhere}
use Rattle.lra_journal_sets.proofs.Instances.{there_named, there_below, last_above}

-- ---- numbers

above_apart : (i n : ℕ) (ns : List ℕ) → i ≤ n → IsAbove n ns → IsApart i ns
above_apart i n [] le h = tt
above_apart i n (m ∷ ms) le h =
    (λ e. absurd (omega (arith, e, le, h.0)), above_apart i m ms (let less = h.0 in omega (arith, le, less)) h.1)

apart_above : (n : ℕ) (ns : List ℕ) → IsAbove n ns → AreApart ns
apart_above n [] h = tt
apart_above n (m ∷ ms) h = (above_apart m m ms (omega arith) h.1, apart_above m ms h.1)

journal_set_apart : (ns : List ℕ) → IsJournalSet ns → AreApart ns
journal_set_apart [] h = absurd h
journal_set_apart (n ∷ ns) h = (above_apart n n ns (omega arith) h, apart_above n ns h)

module _ {S : Type 0} (name : S → ℕ) where
  -- ---- one step

  pub puts_one : MovingPutsOne name
  puts_one i ss s t there same =
      let named = same ∙ there_named name i ss s there in
      record {
        here = put_here name i s t ss there named;
        elsewhere = λ j d. put_elsewhere name i j t ss named d;
        instances = instances-put name i t ss named;
      }

  newest_put : (i : ℕ) (t : S) (ss : List S) → name t ≡ i → newest name (put name i t ss) ≡ newest name ss
  newest_put i t ss e = ap (last_after 0) (instances-put name i t ss e)

  pub takes_one : LeavingTakesOne name
  takes_one ss ts s f h =
      let P : List S → Type 0 = λ us. (member name (name s) us ≡ None)
      × ((j : ℕ) → j ≢ name s → member name j us ≡ member name j ss) × (newest name us ≡ newest name ss) in
      subst P (sym h.left) (
        leave_here name (name s) ss f,
        (λ j d. leave_elsewhere name (name s) j ss d),
        newest-leave name (name s) ss h.older,
      )

  below_newest : (i : ℕ) (ss : List S) (s : S) → IsJournalSet (map name ss) → member name i ss ≡ Some s
      → i ≤ newest name ss
  below_newest i [] s f h = absurd f
  below_newest i (u ∷ ss) s f h = elim (eqb_tells (name u) i) [
    | inl e ↦ (let le = last_above (name u) (map name ss) f in let k = e.1 in omega (arith, k, le))
    | inr e ↦ there_below name i (name u) ss s f (sym (member-there name i u ss e.1) ∙ h)
  ]

  -- an instance that is newer than all isn't there yet
  not_yet : (i : ℕ) (ss : List S) → IsJournalSet (map name ss) → newest name ss < i → member name i ss ≡ None
  not_yet i ss f less = none (member name i ss) refl where
    none : (o : Option S) → member name i ss ≡ o → member name i ss ≡ None
    none None e = e
    none (Some s) e = absurd (let le = below_newest i ss s f e in omega (arith, le, less))

  append_elsewhere : (j : ℕ) (ss : List S) (s : S) → j ≢ name s → member name j (ss ++ s ∷ []) ≡ member name j ss
  append_elsewhere j [] s d = member-there name j s [] (λ e. d (sym e))
  append_elsewhere j (u ∷ ss) s d = elim (eqb_tells (name u) j) [
    | inl e ↦ member-here name j u (ss ++ s ∷ []) e.1 ∙ sym (member-here name j u ss e.1)
    | inr e ↦ member-there name j u (ss ++ s ∷ []) e.1 ∙ append_elsewhere j ss s d ∙ sym (member-there name j u ss e.1)
  ]

  pub adds_one : JoiningAddsOne name
  adds_one ss ts s f h =
      let P : List S → Type 0 = λ us. (member name (name s) us ≡ Some s)
      × ((j : ℕ) → j ≢ name s → member name j us ≡ member name j ss) × (newest name us ≡ name s) in
      subst P (sym h.joined) (
        member-append name (name s) ss (s ∷ []) (not_yet (name s) ss f h.newer) ∙ member-here name (name s) s [] refl,
        (λ j d. append_elsewhere j ss s d),
        newest-join name ss s,
      )

module _ {S E : Type 0} (name : S → ℕ) (names : ℕ → E → ℕ) (does : S → E → S → Type 0) (Lacks : E → Type 0)
    (keeps : (s : S) (e : E) (t : S) → does s e t → name t ≡ name s) where
  -- a turn, by cases: it changes the member that it names, or there is none
  record Moved (ss : List S) (e : E) (ts : List S) : Type 0 where
    pub old : S
    pub new : S
    pub there : member name (names (newest name ss) e) ss ≡ Some old
    pub done : does old e new
    pub after : ts ≡ put name (names (newest name ss) e) new ss

  record Denied (ss : List S) (e : E) (ts : List S) : Type 0 where
    pub there : member name (names (newest name ss) e) ss ≡ None
    pub lacks : Lacks e
    pub after : ts ≡ ss

  turn_cases : (ss : List S) (e : E) (ts : List S) → Happens name names does Lacks ss (Turn e) ts → Moved ss e ts
      ⊎ Denied ss e ts
  turn_cases ss e ts h = by (member name (names (newest name ss) e) ss) refl h where
    by : (o : Option S) → member name (names (newest name ss) e) ss ≡ o
        → MatchOption o (Lacks e × (ts ≡ ss)) (λ s. (t : S) × does s e t
        × (ts ≡ put name (names (newest name ss) e) t ss)) → Moved ss e ts ⊎ Denied ss e ts
    by None is k = inr (record { there = is; lacks = k.0; after = k.1 })
    by (Some s) is k = inl (record { old = s; new = k.0; there = is; done = k.1; after = k.2 })

  -- the member that changed has its instance
  moved_named : (ss : List S) (e : E) (ts : List S) → (m : Moved ss e ts) → name m.new ≡ names (newest name ss) e
  moved_named ss e ts m = keeps m.old e m.new m.done ∙ there_named name (names (newest name ss) e) ss m.old m.there

  -- a turn keeps the instances
  turn_instances : (ss : List S) (e : E) (ts : List S) → Happens name names does Lacks ss (Turn e) ts → map name ts
      ≡ map name ss
  turn_instances ss e ts h = elim (turn_cases ss e ts h) [
    | inl m ↦ ap (map name) m.after ∙ instances-put name (names (newest name ss) e) m.new ss (moved_named ss e ts m)
    | inr d ↦ ap (map name) d.after
  ]

  turn_newest : (ss : List S) (e : E) (ts : List S) → Happens name names does Lacks ss (Turn e) ts → newest name ts
      ≡ newest name ss
  turn_newest ss e ts h = ap (last_after 0) (turn_instances ss e ts h)

  -- a member that isn't named stays
  turn_elsewhere : (ss : List S) (e : E) (ts : List S) → Happens name names does Lacks ss (Turn e) ts → (j : ℕ) → j
      ≢ names (newest name ss) e
      → member name j ts ≡ member name j ss
  turn_elsewhere ss e ts h j d = elim (turn_cases ss e ts h) [
    | inl m ↦ ap (member name j) m.after ∙ put_elsewhere name (names (newest name ss) e) j m.new ss
        (moved_named ss e ts m) d
    | inr k ↦ ap (member name j) k.after
  ]

  pub step_journal_set : (ss : List S) (x : Event S E) (ts : List S) → IsJournalSet (map name ss)
      → Happens name names does Lacks ss x ts → IsJournalSet (map name ts)
  step_journal_set ss (Turn e) ts f h = subst IsJournalSet (sym (turn_instances ss e ts h)) f
  step_journal_set ss (Join s) ts f h = subst (λ us. IsJournalSet (map name us)) (sym h.joined)
      (journal_set-join name ss s f h.newer)
  step_journal_set ss (Leave s) ts f h = subst (λ us. IsJournalSet (map name us)) (sym h.left)
      (journal_set-leave name (name s) ss f h.older)

  pub run_journal_set : (ss : List S) (xs : List (Event S E)) (ts : List S) → IsJournalSet (map name ss)
      → Run name names does Lacks ss xs ts → IsJournalSet (map name ts)
  run_journal_set ss [] ts f h = subst (λ us. IsJournalSet (map name us)) (sym h) f
  run_journal_set ss (x ∷ xs) ts f (us, h, k) = run_journal_set us xs ts (step_journal_set ss x us f h) k

  -- ---- instances that aren't there

  -- a turn that names an instance that isn't there has no reply, and all members stay
  denied : (i : ℕ) (ss : List S) (e : E) (ts : List S) → Happens name names does Lacks ss (Turn e) ts
      → names (newest name ss) e ≡ i → member name i ss ≡ None → Denied ss e ts
  denied i ss e ts h is none = elim (turn_cases ss e ts h) [
    | inl m ↦ absurd (let k : Some m.old ≡ None = sym m.there ∙ ap (λ j. member name j ss) is ∙ none in cc)
    | inr d ↦ d
  ]

  -- an instance that isn't there, and isn't the one that joins, isn't there afterwards
  still_gone : (i : ℕ) (ss : List S) (x : Event S E) (ts : List S) → IsJournalSet (map name ss)
      → Happens name names does Lacks ss x ts → member name i ss ≡ None
      → IsApart i (joined name names (x ∷ [])) → member name i ts ≡ None
  still_gone i ss (Turn e) ts f h none apart = elim (eqb_tells (names (newest name ss) e) i) [
    | inl q ↦ ap (member name i) (denied i ss e ts h q.1 none).after ∙ none
    | inr q ↦ turn_elsewhere ss e ts h i (λ k. q.1 (sym k)) ∙ none
  ]
  still_gone i ss (Join s) ts f h none apart = (adds_one name ss ts s f h).1 i apart.0 ∙ none
  still_gone i ss (Leave s) ts f h none apart =
      (takes_one name ss ts s f h).1 i
      (λ k. absurd (let e : Some s ≡ None = sym h.there ∙ ap (λ j. member name j ss) (sym k) ∙ none in cc)) ∙ none

  pub others : OthersAreLacking name names does Lacks
  others ss ts [] f h i none apart = tt
  others ss ts (Turn e ∷ xs) f (us, h, k) i none apart =
      let rest = others us ts xs (step_journal_set ss (Turn e) us f h) k i (still_gone i ss (Turn e) us f h none tt)
      apart in
      let more : Each Lacks (share name names i (newest name ss) xs) =
      subst (λ n. Each Lacks (share name names i n xs)) (turn_newest ss e us h) rest in
      elim (eqb_tells (names (newest name ss) e) i) [
        | inl q ↦ subst (Each Lacks)
            (sym (test_yes (names (newest name ss) e) i (e ∷ share name names i (newest name ss) xs)
            (share name names i (newest name ss) xs) q.1))
            ((denied i ss e us h q.1 none).lacks, more)
        | inr q ↦ subst (Each Lacks)
            (sym (test_no (names (newest name ss) e) i (e ∷ share name names i (newest name ss) xs)
            (share name names i (newest name ss) xs) q.1)) more
      ]
  others ss ts (Join s ∷ xs) f (us, h, k) i none apart =
      subst (λ n. Each Lacks (share name names i n xs)) (adds_one name ss us s f h).2
      (others us ts xs (step_journal_set ss (Join s) us f h) k i (still_gone i ss (Join s) us f h none (apart.0, tt))
      apart.1)
  others ss ts (Leave s ∷ xs) f (us, h, k) i none apart =
      subst (λ n. Each Lacks (share name names i n xs)) (takes_one name ss us s f h).2
      (others us ts xs (step_journal_set ss (Leave s) us f h) k i (still_gone i ss (Leave s) us f h none tt) apart)

  -- ---- those that join are newer than all before

  pub joined_above : (ss : List S) (xs : List (Event S E)) (ts : List S) → IsJournalSet (map name ss)
      → Run name names does Lacks ss xs ts
      → IsAbove (newest name ss) (joined name names xs)
  joined_above ss [] ts f h = tt
  joined_above ss (Turn e ∷ xs) ts f (us, h, k) =
      subst (λ n. IsAbove n (joined name names xs)) (turn_newest ss e us h)
      (joined_above us xs ts (step_journal_set ss (Turn e) us f h) k)
  joined_above ss (Join s ∷ xs) ts f (us, h, k) = (
    h.newer,
    subst (λ n. IsAbove n (joined name names xs)) (adds_one name ss us s f h).2
        (joined_above us xs ts (step_journal_set ss (Join s) us f h) k),
  )
  joined_above ss (Leave s ∷ xs) ts f (us, h, k) =
      subst (λ n. IsAbove n (joined name names xs)) (takes_one name ss us s f h).2
      (joined_above us xs ts (step_journal_set ss (Leave s) us f h) k)

  pub instances_apart : InstancesAreApart name names does Lacks
  instances_apart ss ts xs f h = (
    run_journal_set ss xs ts f h,
    journal_set_apart (map name ss ++ joined name names xs)
        (journal_set-append (map name ss) (joined name names xs) f (joined_above ss xs ts f h)),
  )

  pub cut : RunsCanBeCut name names does Lacks
  cut ss ts [] ys f h = (ss, refl, f, h)
  cut ss ts (x ∷ xs) ys f (us, h, k) = let r = cut us ts xs ys (step_journal_set ss x us f h) k in
      (r.0, (us, h, r.1), r.2, r.3)

  -- one more at the end
  pub run_push : (ss : List S) (xs : List (Event S E)) (x : Event S E) (us ts : List S)
      → Run name names does Lacks ss xs us → Happens name names does Lacks us x ts
      → Run name names does Lacks ss (xs ++ x ∷ []) ts
  run_push ss [] x us ts h k = (ts, subst (λ vs. Happens name names does Lacks vs x ts) h k, refl)
  run_push ss (y ∷ xs) x us ts (vs, h, r) k = (vs, h, run_push vs xs x us ts r k)

  -- ---- members that are there throughout

  some_same : (s t : S) → Some s ≡ Some t → s ≡ t
  some_same s t e = ap (λ o. unwrap_or o s) e

  -- an instance that isn't there, and isn't newer than all, isn't there in the end
  gone_for_good : (i : ℕ) (ss : List S) (xs : List (Event S E)) (ts : List S) → IsJournalSet (map name ss)
      → Run name names does Lacks ss xs ts → member name i ss ≡ None
      → i ≤ newest name ss → member name i ts ≡ None
  gone_for_good i ss [] ts f h none le = ap (member name i) h ∙ none
  gone_for_good i ss (Turn e ∷ xs) ts f (us, h, k) none le =
      let n = turn_newest ss e us h in
      gone_for_good i us xs ts (step_journal_set ss (Turn e) us f h) k (still_gone i ss (Turn e) us f h none tt)
      (omega (arith, n, le))
  gone_for_good i ss (Join s ∷ xs) ts f (us, h, k) none le =
      let n = (adds_one name ss us s f h).2 in
      let less = h.newer in
      gone_for_good i us xs ts (step_journal_set ss (Join s) us f h) k
      (still_gone i ss (Join s) us f h none ((λ e. absurd (omega (arith, e, less, le))), tt))
      (omega (arith, n, less, le))
  gone_for_good i ss (Leave s ∷ xs) ts f (us, h, k) none le =
      let n = (takes_one name ss us s f h).2 in
      gone_for_good i us xs ts (step_journal_set ss (Leave s) us f h) k (still_gone i ss (Leave s) us f h none tt)
      (omega (arith, n, le))

  -- a turn that names a member happens to that member
  its_turn : (i : ℕ) (ss : List S) (e : E) (ts : List S) (s : S) → Happens name names does Lacks ss (Turn e) ts
      → names (newest name ss) e ≡ i → member name i ss ≡ Some s
      → (u : S) × does s e u × (member name i ts ≡ Some u)
  its_turn i ss e ts s h is there = elim (turn_cases ss e ts h) [
    | inl m ↦ (
      m.new,
      subst (λ old. does old e m.new) (some_same m.old s (sym m.there ∙ ap (λ j. member name j ss) is ∙ there)) m.done,
      ap (member name i) (m.after ∙ ap (λ j. put name j m.new ss) is) ∙ put_here name i s m.new ss there
          (moved_named ss e ts m ∙ is),
    )
    | inr d ↦ absurd (let k : Some s ≡ None = sym there ∙ ap (λ j. member name j ss) (sym is) ∙ d.there in cc)
  ]

  pub each_chain : EachHasItsChain name names does Lacks
  each_chain ss ts [] f h i s t there later = some_same t s (sym later ∙ ap (member name i) h ∙ there)
  each_chain ss ts (Turn e ∷ xs) f (us, h, k) i s t there later =
      let Ends : List E → Type 0 = λ es. Chain does s es t in
      elim (eqb_tells (names (newest name ss) e) i) [
        | inl q ↦ (
            let m = its_turn i ss e us s h q.1 there in
            let rest = each_chain us ts xs (step_journal_set ss (Turn e) us f h) k i m.0 t m.2 later in
            subst Ends (sym (test_yes (names (newest name ss) e) i (e ∷ share name names i (newest name ss) xs)
            (share name names i (newest name ss) xs) q.1))
            (m.0, m.1, subst (λ n. Chain does m.0 (share name names i n xs) t) (turn_newest ss e us h) rest)
            )
        | inr q ↦ subst Ends (sym (test_no (names (newest name ss) e) i (e ∷ share name names i (newest name ss) xs)
            (share name names i (newest name ss) xs) q.1))
            (subst (λ n. Chain does s (share name names i n xs) t) (turn_newest ss e us h)
            (each_chain us ts xs (step_journal_set ss (Turn e) us f h) k i s t
            (turn_elsewhere ss e us h i (λ p. q.1 (sym p)) ∙ there) later))
      ]
  each_chain ss ts (Join u ∷ xs) f (us, h, k) i s t there later =
      let added = adds_one name ss us u f h in
      let le = below_newest name i ss s f there in
      let less = h.newer in
      subst (λ n. Chain does s (share name names i n xs) t) added.2
      (each_chain us ts xs (step_journal_set ss (Join u) us f h) k i s t (added.1 i
      (λ e. absurd (omega (arith, e, le, less))) ∙ there) later)
  each_chain ss ts (Leave u ∷ xs) f (us, h, k) i s t there later =
      let taken = takes_one name ss us u f h in
      let n = taken.2 in
      let le = below_newest name i ss s f there in
      elim (eqb_tells i (name u)) [
        | inl q ↦ absurd (
            let gone = gone_for_good i us xs ts (step_journal_set ss (Leave u) us f h) k
            (ap (λ j. member name j us) q.1 ∙ taken.0) (omega (arith, n, le)) in
            let e : Some t ≡ None = sym later ∙ gone in
            cc
            )
        | inr q ↦ subst (λ n. Chain does s (share name names i n xs) t) n
            (each_chain us ts xs (step_journal_set ss (Leave u) us f h) k i s t (taken.1 i q.1 ∙ there) later)
      ]
