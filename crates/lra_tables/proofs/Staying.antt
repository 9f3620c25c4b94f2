-- The members that haven't left by the digests of their actions and addresses, and what an entry makes of them.
use Rattle.std.proofs.Common.{◌≡◌, ◌≢◌, ℕ, zero, suc, ◌+◌, ◌<◌, ◌≤◌, ◌^◌, Bool, true, false, cond, List, [], ◌∷◌, ◌++◌}
use Rattle.std.proofs.Common.{length, map, filter, None, inl, inr, refl, sym, ap, ◌∙◌, arith, ne_eqb, eq-eqb}
use Rattle.std.proofs.Common.{append-nil}
use Rattle.std.specs.Prelude.{◌==◌, ◌&&◌, ◌||◌, not, unwrap_or}
use Rattle.std.specs.List.{range_with_len}
use Rattle.std.proofs.Math.Bool.{and-false, or-true}
use Rattle.std.proofs.lemmas.Bool.{cases_eq, ltb-true}
use Rattle.std.proofs.lemmas.List.{length-map}
use Rattle.std.proofs.lemmas.List.Elements.{filter-append}
use Rattle.std.proofs.lemmas.Option.{same_Some}
use Rattle.lra_model.specs.declared.version.Version.{Version}
use Rattle.lra_model.specs.declared.entry.Deed.{Deed}
use Rattle.lra_model.specs.declared.entry.Deed.TheVariants.{Join, Leave}
use Rattle.lra_model.specs.Addresses.{Addresses}
use Rattle.lra_model.specs.Words.{when, has_gone}
use Rattle.lra_model.specs.History.{History, members, joined_by, is_among}
use Rattle.lra_model.specs.Members.{action_of, addresses_of, no_addresses, is_leave_of, has_left}
use Rattle.lra_model.specs.Rules.{is_legal}
use Rattle.lra_laws.specs.Rows.{MemberRow, member_row, row_at}
use Rattle.lra_laws.specs.Snapshots.{Endpoint, endpoint_of, StateSnapshot, StandsFor}
use Rattle.lra_laws.proofs.GoodLists.{filter_same}
use Rattle.lra_laws.proofs.Legal.{Allowed, IsNumbered, range_among, numbered_there, numbered_fresh, members_numbered}
use Rattle.lra_laws.proofs.Named.{action_of_stays, action_of_new, addresses_stay, addresses_of_new, has_left_there}
use Rattle.lra_laws.proofs.MemberRows.{members_stay}
use Rattle.lra_laws.proofs.MemberWords.{status_is, left_quiet, action_kept, addresses_kept}
use Rattle.lra_laws.proofs.Push.{members_push, has_left_push}
use Rattle.lra_laws.proofs.Ranges.{member_in_range}
use Rattle.lra_laws.proofs.RowLists.{eqb_self, row_there}
use Rattle.lra_laws.proofs.StatusCases.{gone_is_left}
use Rattle.lra_laws.proofs.Told.{entry, more, told}
use Rattle.lra_tables.specs.inner.Digests.{digest_of}
use Rattle.lra_tables.specs.inner.Listed.{without}
use Rattle.lra_tables.specs.inner.Kept.{has_digest, staying_with}

-- ---- how many there are

filter_shorter : (f : ℕ → Bool) (xs : List ℕ) → length (filter f xs) ≤ length xs
filter_shorter f [] = omega arith
filter_shorter f (x ∷ xs) = either (f x) (filter_shorter f xs)
  where
    either : (b : Bool) → length (filter f xs) ≤ length xs → length (cond b (x ∷ filter f xs) (filter f xs))
        ≤ length (x ∷ xs)
    either true h = omega arith
    either false h = omega arith

members_few : (v : Version) (t : List ℕ → Bool) (J : History) → is_legal v t J ≡ true → length (members J) < 2 ^ 64
members_few v t J l = few (length (members J)) refl
  where
    few : (n : ℕ) → length (members J) ≡ n → n < 2 ^ 64
    few zero e = omega arith
    few (suc n) e = ltb-true (suc n) (2 ^ 64) (member_in_range v t J l (suc n)
        (numbered_there (members J) (members_numbered v t J l) (suc n) (omega arith) (omega arith)))

-- a u64 counts them
pub staying_few : (v : Version) (t : List ℕ → Bool) (J : History) → is_legal v t J ≡ true → (key digest : ℕ)
    → length (staying_with key digest J) < 2 ^ 64
staying_few v t J l key digest = let a = filter_shorter (has_digest key digest J) (members J) in
    let b = members_few v t J l in omega arith

-- ---- one snapshot

-- the histories that one snapshot stands for have the same
pub one_staying : (s : StateSnapshot) (J K : History) → StandsFor s J → StandsFor s K → (key digest : ℕ)
    → staying_with key digest K ≡ staying_with key digest J
one_staying s J K h k key digest = filter_same (has_digest key digest K) (has_digest key digest J) (members K) same
    ∙ ap (filter (has_digest key digest J)) all
  where
    rows : map (member_row K) (members K) ≡ map (member_row J) (members J)
    rows = ap (λ (x : StateSnapshot). x.state.members) (sym k.snapshot ∙ h.snapshot)

    endpoints : map (endpoint_of K) (members K) ≡ map (endpoint_of J) (members J)
    endpoints = ap (λ (x : StateSnapshot). x.endpoints) (sym k.snapshot ∙ h.snapshot)

    numbered : IsNumbered (members K)
    numbered = members_numbered k.version k.is_address K k.legal

    count : length (members K) ≡ length (members J)
    count = sym (length-map (members K) (member_row K)) ∙ ap (λ (rs : List MemberRow). length rs) rows
        ∙ length-map (members J) (member_row J)

    all : members K ≡ members J
    all = numbered ∙ ap (range_with_len 1) count ∙ sym (members_numbered h.version h.is_address J h.legal)

    left_is : (L : History) (p : ℕ) → has_left L p ≡ has_gone (member_row L p).status
    left_is L p = sym (ap has_gone (status_is L p) ∙ gone_is_left _ _ _ _ _)

    same : (p : ℕ) → is_among (members K) p ≡ true → has_digest key digest K p ≡ has_digest key digest J p
    same p there =
        let row : member_row K p ≡ member_row J p = same_Some _ _
        (sym (row_there (member_row K) (members K) p numbered there) ∙ ap (λ (rs : List MemberRow). row_at rs p) rows
        ∙ row_there (member_row J) (members J) p (members_numbered h.version h.is_address J h.legal)
        (ap (λ (ns : List ℕ). is_among ns p) (sym all) ∙ there)) in
        let endpoint : endpoint_of K p ≡ endpoint_of J p = same_Some _ _
        (sym (row_there (endpoint_of K) (members K) p numbered there) ∙ ap (λ (rs : List Endpoint). row_at rs p)
        endpoints
        ∙ row_there (endpoint_of J) (members J) p (members_numbered h.version h.is_address J h.legal)
        (ap (λ (ns : List ℕ). is_among ns p) (sym all) ∙ there)) in
        (λ i. not (left_is K p i) && (digest_of key (action_of K p) (addresses_of K p) == digest))
        ∙ (λ i. not (has_gone (row i).status) && (digest_of key (row i).action (endpoint i).addresses == digest))
        ∙ (λ i. not (sym (left_is J p) i) && (digest_of key (action_of J p) (addresses_of J p) == digest))

-- ---- one more entry

-- a member whose words stay
pub digest_stays : (J : History) (by m : ℕ) (d : Deed) (p key digest : ℕ) → is_among (members J) p ≡ true
    → is_leave_of p d ≡ false → has_digest key digest (more J by m d) p ≡ has_digest key digest J p
digest_stays J by m d p key digest there stays =
    λ i. not (left_quiet J by m d p stays i) && (digest_of key (action_of_stays J (entry by m d) p there i)
    (addresses_stay J (entry by m d) p there i) == digest)

-- no member joins or leaves
pub staying_still : (J : History) (by m : ℕ) (d : Deed) (key digest : ℕ) → joined_by d ≡ None
    → ((p : ℕ) → is_leave_of p d ≡ false) → staying_with key digest (more J by m d) ≡ staying_with key digest J
staying_still J by m d key digest none stays =
    ap (filter (has_digest key digest (more J by m d))) (members_stay J by m d none)
    ∙ filter_same (has_digest key digest (more J by m d)) (has_digest key digest J) (members J)
    (λ p there. digest_stays J by m d p key digest there (stays p))

not_both : (b : Bool) → b ≡ true → b ≡ false → ⊥
not_both true e h = cc
not_both false e h = cc

-- a member joins
pub staying_joined : (v : Version) (t : List ℕ → Bool) (J : History) (by m p a : ℕ) (u : Addresses) → is_legal v t J
    ≡ true → Allowed v t J (entry by m (Join p a u)) → (key digest : ℕ)
    → staying_with key digest (more J by m (Join p a u)) ≡ cond (digest_of key a u == digest)
    (staying_with key digest J ++ p ∷ []) (staying_with key digest J)
staying_joined v t J by m p a u l k key digest =
    ap (filter (has_digest key digest K)) (members_push J (entry by m (Join p a u)))
    ∙ filter-append (has_digest key digest K) (members J) (p ∷ [])
    ∙ (λ i. filter_same (has_digest key digest K) (has_digest key digest J) (members J)
    (λ q there. digest_stays J by m (Join p a u) q key digest there refl) i ++ cond (new i) (p ∷ []) [])
    ∙ either (digest_of key a u == digest)
  where
    K : History
    K = more J by m (Join p a u)

    fresh : is_among (members J) p ≡ false
    fresh = numbered_fresh (members J) (members_numbered v t J l) p (told v t J by m (Join p a u) k).number

    stayed : (b : Bool) → has_left J p ≡ b → b ≡ false
    stayed false e = refl
    stayed true e = absurd (not_both (is_among (members J) p) (has_left_there v t J l p e) fresh)

    new : has_digest key digest K p ≡ (digest_of key a u == digest)
    new =
        (λ i. not ((left_quiet J by m (Join p a u) p refl ∙ stayed (has_left J p) refl) i)
        && (digest_of key ((action_of_new J (entry by m (Join p a u)) p fresh
        ∙ ap (λ (b : Bool). unwrap_or (when b a) 0) (eqb_self p)) i)
        ((addresses_of_new J (entry by m (Join p a u)) p fresh ∙ ap (λ (b : Bool). unwrap_or (when b u) no_addresses)
        (eqb_self p)) i) == digest))

    either : (b : Bool) → staying_with key digest J ++ cond b (p ∷ []) []
        ≡ cond b (staying_with key digest J ++ p ∷ []) (staying_with key digest J)
    either true = refl
    either false = append-nil (staying_with key digest J)

-- a list of different numbers without one
without_filter : (f g : ℕ → Bool) (p : ℕ) → ((q : ℕ) → q ≢ p → g q ≡ f q) → g p ≡ false → (a n : ℕ)
    → without p (filter f (range_with_len a n)) ≡ filter g (range_with_len a n)
without_filter f g p same gone a zero = refl
without_filter f g p same gone a (suc n) =
    elim (cases_eq a p) [
      | inl here ↦ at_it here (f a) (without_filter f g p same gone (a + 1) n)
          ∙ sym (ap (λ (b : Bool). cond b (a ∷ filter g (range_with_len (a + 1) n))
          (filter g (range_with_len (a + 1) n))) (ap g here ∙ gone))
      | inr apart ↦ past (f a) (ne_eqb a p apart) (without_filter f g p same gone (a + 1) n)
          ∙ sym (ap (λ (b : Bool). cond b (a ∷ filter g (range_with_len (a + 1) n))
          (filter g (range_with_len (a + 1) n))) (same a apart))
    ]
  where
    beyond : a ≡ p → filter f (range_with_len (a + 1) n) ≡ filter g (range_with_len (a + 1) n)
    beyond here = filter_same f g (range_with_len (a + 1) n)
        (λ q h. sym (same q (λ e. let r = range_among (a + 1) n q h in omega arith)))

    at_it : a ≡ p → (b : Bool) → without p (filter f (range_with_len (a + 1) n)) ≡ filter g (range_with_len (a + 1) n)
        → without p (cond b (a ∷ filter f (range_with_len (a + 1) n)) (filter f (range_with_len (a + 1) n)))
        ≡ filter g (range_with_len (a + 1) n)
    at_it here true rest = ap (λ (b : Bool). cond b (filter f (range_with_len (a + 1) n))
        (a ∷ without p (filter f (range_with_len (a + 1) n)))) (eq-eqb a p here) ∙ beyond here
    at_it here false rest = rest

    past : (b : Bool) → (a == p) ≡ false → without p (filter f (range_with_len (a + 1) n))
        ≡ filter g (range_with_len (a + 1) n)
        → without p (cond b (a ∷ filter f (range_with_len (a + 1) n)) (filter f (range_with_len (a + 1) n)))
        ≡ cond b (a ∷ filter g (range_with_len (a + 1) n)) (filter g (range_with_len (a + 1) n))
    past true apart rest = ap (λ (b : Bool). cond b (filter f (range_with_len (a + 1) n))
        (a ∷ without p (filter f (range_with_len (a + 1) n)))) apart ∙ ap (λ (ns : List ℕ). a ∷ ns) rest
    past false apart rest = rest

-- a member leaves
pub staying_left : (v : Version) (t : List ℕ → Bool) (J : History) (by m p : ℕ) → is_legal v t J ≡ true
    → is_among (members J) p ≡ true → (key digest : ℕ)
    → staying_with key digest (more J by m (Leave p)) ≡ cond (digest_of key (action_of J p) (addresses_of J p)
    == digest) (without p (staying_with key digest J)) (staying_with key digest J)
staying_left v t J by m p l there key digest =
    ap (filter (has_digest key digest K)) (members_stay J by m (Leave p) refl)
    ∙ either (digest_of key (action_of J p) (addresses_of J p) == digest) refl
  where
    K : History
    K = more J by m (Leave p)

    gone : has_digest key digest K p ≡ false
    gone = ap (λ (b : Bool). not b && (digest_of key (action_of K p) (addresses_of K p) == digest))
        (has_left_push J (entry by m (Leave p)) p ∙ ap (λ (b : Bool). has_left J p || b) (eqb_self p)
        ∙ or-true (has_left J p))

    others : (q : ℕ) → q ≢ p → has_digest key digest K q ≡ has_digest key digest J q
    others q apart =
        λ i. not (left_quiet J by m (Leave p) q (ne_eqb p q (λ e. apart (sym e))) i)
        && (digest_of key (action_kept J by m (Leave p) q refl i) (addresses_kept J by m (Leave p) q refl i) == digest)

    either : (b : Bool) → (digest_of key (action_of J p) (addresses_of J p) == digest) ≡ b
        → filter (has_digest key digest K) (members J) ≡ cond b (without p (staying_with key digest J))
        (staying_with key digest J)
    either true e =
        let numbered : members J ≡ range_with_len 1 (length (members J)) = members_numbered v t J l in
        ap (filter (has_digest key digest K)) numbered
        ∙ sym (ap (λ (ns : List ℕ). without p (filter (has_digest key digest J) ns)) numbered
        ∙ without_filter (has_digest key digest J) (has_digest key digest K) p others gone 1 (length (members J)))
    either false e = filter_same (has_digest key digest K) (has_digest key digest J) (members J)
        (λ q h. elim (cases_eq q p) [
          | inl same ↦ ap (has_digest key digest K) same ∙ gone ∙ sym (ap (has_digest key digest J) same
              ∙ ap (λ (b : Bool). not (has_left J p) && b) e ∙ and-false (not (has_left J p)))
          | inr apart ↦ others q apart
        ])

-- of no entries there are none
pub none_staying : (key digest : ℕ) → staying_with key digest [] ≡ []
unfolding members
none_staying key digest = refl
