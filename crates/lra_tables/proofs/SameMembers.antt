-- The member with the same addresses is found among those whose digest is the same.
use Rattle.std.proofs.Common.{◌≡◌, ℕ, zero, suc, ◌+◌, ◌≤◌, Bool, true, false, List, [], ◌∷◌, length, take, filter}
use Rattle.std.proofs.Common.{Option, Some, None, refl, sym, ap, ◌∙◌, cond, find, arith, eq-eqb, eqb-true}
use Rattle.std.specs.Prelude.{◌==◌, ◌&&◌, not, slice_get}
use Rattle.std.specs.Option.{option_map_or}
use Rattle.std.proofs.Math.Bool.{and-false}
use Rattle.std.proofs.lemmas.List.{take_all}
use Rattle.std.proofs.lemmas.Slice.Eq.{bytes_eq-Decides}
use Rattle.lra_model.specs.Addresses.{Addresses}
use Rattle.lra_model.specs.Words.{has_gone}
use Rattle.lra_model.specs.History.{History, members, is_among}
use Rattle.lra_model.specs.Members.{action_of, addresses_of, has_left}
use Rattle.lra_model.specs.Joins.{same_address, same_addresses, already_member}
use Rattle.lra_laws.specs.Snapshots.{StateSnapshot, StandsFor}
use Rattle.lra_laws.proofs.ActionWords.{members_by}
use Rattle.lra_laws.proofs.GoodLists.{find_same}
use Rattle.lra_laws.proofs.MemberWords.{status_is}
use Rattle.lra_laws.proofs.StatusCases.{gone_is_left}
use Rattle.lra_laws.proofs.Tested.{both}
use Rattle.lra_tables.specs.inner.Digests.{digest_of}
use Rattle.lra_rows.specs.declared.found.MemberRow.{MemberRow}
use Rattle.lra_tables.specs.inner.Kept.{has_digest, staying_with}
use Rattle.lra_tables.specs.inner.Same.{found_same}

-- ---- addresses that are the same

same_text : (o p : Option (List ℕ)) → same_address o p ≡ true → o ≡ p
same_text None None h = refl
same_text (Some a) (Some b) h = ap (λ (t : List ℕ). Some t) ((bytes_eq-Decides a b).0 h)
same_text None (Some b) h = absurd cc
same_text (Some a) None h = absurd cc

same_texts : (w u : Addresses) → same_addresses w u ≡ true → w ≡ u
same_texts w u h =
    let a = both (same_address w.compensate u.compensate && same_address w.complete u.complete
    && same_address w.status u.status && same_address w.forget u.forget) (same_address w.after u.after) h in
    let b = both (same_address w.compensate u.compensate && same_address w.complete u.complete
    && same_address w.status u.status) (same_address w.forget u.forget) a.0 in
    let c = both (same_address w.compensate u.compensate && same_address w.complete u.complete)
    (same_address w.status u.status) b.0 in
    let d = both (same_address w.compensate u.compensate) (same_address w.complete u.complete) c.0 in
    λ i. record {
      compensate = same_text w.compensate u.compensate d.0 i;
      complete = same_text w.complete u.complete d.1 i;
      status = same_text w.status u.status c.1 i;
      forget = same_text w.forget u.forget b.1 i;
      after = same_text w.after u.after a.1 i;
    }

-- ---- the member that is found

-- of a member that is there
same_there : (J : History) (a : ℕ) (u : Addresses) (p : ℕ) → is_among (members J) p ≡ true → found_same J a u p
    ≡ (((action_of J p == a) && not (has_left J p)) && same_addresses (addresses_of J p) u)
same_there J a u p e = there (is_among (members J) p) _ _ e ∙ ap (λ (b : Bool). ((action_of J p == a) && not b)
    && same_addresses (addresses_of J p) u) (ap has_gone (status_is J p) ∙ gone_is_left _ _ _ _ _)
  where
    there : (b : Bool) (r : MemberRow) (w : Addresses) → b ≡ true
        → (option_map_or (λ (x : MemberRow). (x.action == a) && not (has_gone x.status)) (cond b (Some r) None) false
        && option_map_or (λ (x : Addresses). same_addresses x u) (cond b (Some w) None) false)
        ≡ (((r.action == a) && not (has_gone r.status)) && same_addresses w u)
    there true r w h = refl
    there false r w h = absurd cc

-- what is found among the chosen
find_filter : (f g : ℕ → Bool) (xs : List ℕ) → find f (filter g xs) ≡ find (λ x. g x && f x) xs
find_filter f g [] = refl
find_filter f g (x ∷ xs) = either (g x) (find_filter f g xs)
  where
    either : (b : Bool) → find f (filter g xs) ≡ find (λ y. g y && f y) xs
        → find f (cond b (x ∷ filter g xs) (filter g xs)) ≡ cond (b && f x) (Some x) (find (λ y. g y && f y) xs)
    either true h = ap (λ (o : Option ℕ). cond (f x) (Some x) o) h
    either false h = h

regroup : (a l s d : Bool) → (a ≡ true → s ≡ true → d ≡ true) → ((l && d) && ((a && l) && s)) ≡ (a && (l && s))
regroup true true true d h = ap (λ (b : Bool). b && true) (h refl refl)
regroup true true false d h = and-false d
regroup true false s d h = refl
regroup false l s d h = and-false (l && d)

-- the first that is found of those with the digest is the one that joined already
pub found_already : (s : StateSnapshot) (J : History) (key a : ℕ) (u : Addresses) → StandsFor s J
    → find (found_same J a u) (staying_with key (digest_of key a u) J) ≡ already_member J a u
unfolding already_member
found_already s J key a u h =
    find_filter (found_same J a u) (has_digest key (digest_of key a u) J) (members J)
    ∙ find_same _ _ (members J) (λ p there. ap (λ (b : Bool). has_digest key (digest_of key a u) J p && b)
    (same_there J a u p there) ∙ regroup (action_of J p == a) (not (has_left J p))
    (same_addresses (addresses_of J p) u) (digest_of key (action_of J p) (addresses_of J p) == digest_of key a u)
    (one_digest p))
    ∙ sym (find_filter wanted (λ p. action_of J p == a) (members J))
    ∙ ap (find wanted) (sym (members_by h.version h.is_address J h.legal a))
  where
    wanted : ℕ → Bool
    wanted p = not (has_left J p) && same_addresses (addresses_of J p) u

    one_digest : (p : ℕ) → (action_of J p == a) ≡ true → same_addresses (addresses_of J p) u ≡ true
        → (digest_of key (action_of J p) (addresses_of J p) == digest_of key a u) ≡ true
    one_digest p e g = eq-eqb (digest_of key (action_of J p) (addresses_of J p)) (digest_of key a u)
        (λ i. digest_of key (eqb-true (action_of J p) a e i) (same_texts (addresses_of J p) u g i))

-- ---- one after another

-- one that doesn't pass is passed over
pub find_on : (f : ℕ → Bool) (xs : List ℕ) (r n : ℕ) → find f (take r xs) ≡ None → slice_get xs r ≡ Some n → f n ≡ false
    → find f (take (r + 1) xs) ≡ None
find_on f [] r n none here fails = absurd cc
find_on f (x ∷ xs) zero n none here fails = let same : x ≡ n = cc in
    ap (λ (b : Bool). cond b (Some x) None) (ap f same ∙ fails)
find_on f (x ∷ xs) (suc r) n none here fails = ap (λ (k : ℕ). find f (take k (x ∷ xs)))
    (let e : suc r + 1 ≡ suc (r + 1) = omega arith in e) ∙ either (f x) none (λ h. find_on f xs r n h here fails)
  where
    either : (b : Bool) → cond b (Some x) (find f (take r xs)) ≡ None →
        (find f (take r xs) ≡ None → find f (take (r + 1) xs) ≡ None) → cond b (Some x) (find f (take (r + 1) xs))
        ≡ None
    either true h rest = absurd cc
    either false h rest = rest h

-- the first that passes is found
pub find_here : (f : ℕ → Bool) (xs : List ℕ) (r n : ℕ) → find f (take r xs) ≡ None → slice_get xs r ≡ Some n → f n
    ≡ true → find f xs ≡ Some n
find_here f [] r n none here passes = absurd cc
find_here f (x ∷ xs) zero n none here passes = let same : x ≡ n = cc in
    ap (λ (b : Bool). cond b (Some x) (find f xs)) (ap f same ∙ passes) ∙ ap (λ (k : ℕ). Some k) same
find_here f (x ∷ xs) (suc r) n none here passes = either (f x) none (λ h. find_here f xs r n h here passes)
  where
    either : (b : Bool) → cond b (Some x) (find f (take r xs)) ≡ None → (find f (take r xs) ≡ None → find f xs ≡ Some n)
        → cond b (Some x) (find f xs) ≡ Some n
    either true h rest = absurd cc
    either false h rest = rest h

-- where none is left, none is found
pub find_end : (f : ℕ → Bool) (xs : List ℕ) (r : ℕ) → find f (take r xs) ≡ None → slice_get xs r ≡ None → find f xs
    ≡ None
find_end f xs r none past = ap (find f) (sym (take_all r xs (ended xs r past))) ∙ none
  where
    ended : (ys : List ℕ) (i : ℕ) → slice_get ys i ≡ None → length ys ≤ i
    ended [] i h = omega arith
    ended (y ∷ ys) zero h = absurd cc
    ended (y ∷ ys) (suc i) h = let rest = ended ys i h in omega arith
