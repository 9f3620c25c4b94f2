-- The asks of a legal history: the members that they were made of, and which of them are unanswered.
use Rattle.std.proofs.Common.{◌≡◌, ℕ, ◌+◌, ◌<◌, ◌≤◌, Bool, true, false, List, [], ◌∷◌, ◌++◌, length, Option, Some, None}
use Rattle.std.proofs.Common.{refl, sym, ap, ◌∙◌, cond, arith, eqb-true, append-nil, length-append, subst, eq-eqb, inl}
use Rattle.std.proofs.Common.{inr, ◌⊎◌}
use Rattle.std.proofs.Math.Bool.{and-false, or-true}
use Rattle.std.proofs.lemmas.Option.{same_Some}
use Rattle.std.proofs.lemmas.Bool.{lt-ltb, le-ltb}
use Rattle.std.specs.Prelude.{◌==◌, nat_lt, ◌&&◌, ◌||◌, is_some, unwrap_or, option_to_list}
use Rattle.std.specs.Option.{option_map_or, option_or}
use Rattle.std.specs.List.{find}
use Rattle.lra_model.specs.declared.asks.AskKind.{AskKind}
use Rattle.lra_model.specs.declared.asks.AskKind.TheVariants as ask
use Rattle.lra_model.specs.declared.asks.Direction.{Direction}
use Rattle.lra_model.specs.declared.asks.Outcome.{Outcome}
use Rattle.lra_model.specs.declared.entry.Deed.{Deed}
use Rattle.lra_model.specs.declared.entry.Deed.TheVariants.{Ask, Reply, Restart}
use Rattle.lra_model.specs.declared.entry.Entry.{Entry}
use Rattle.lra_model.specs.declared.version.Version.{Version}
use Rattle.lra_model.specs.Words.{when}
use Rattle.lra_model.specs.History.{History, steps, asks, asked_by, members, is_among, read_deeds}
use Rattle.lra_model.specs.Members.{is_ask_for, was_asked, ask_direction, Asked, asked_at, ask_of, standing_given}
use Rattle.lra_model.specs.Members.{is_outstanding, ask_given, outstanding_ask}
use Rattle.lra_model.specs.Rules.{is_legal}
use Rattle.lra_laws.proofs.Push.{or_none, step, ask_of_push, asks_push, asks_to_push, is_outstanding_push}
use Rattle.lra_laws.proofs.Push.{was_asked_push}
use Rattle.lra_laws.proofs.Legal.{legal_induction, among_push}
use Rattle.lra_laws.proofs.Named.{member_there_push}
use Rattle.lra_laws.proofs.GoodLists.{among_here, among_there, find_nothing}
use Rattle.lra_laws.proofs.Tested.{both, none_from_absent}
use Rattle.lra_laws.specs.Rows.{Standing, standing_at, standing, void_at, void_asks}
use Rattle.lra_laws.proofs.RowLists.{eqb_self}
use Rattle.lra_laws.proofs.Told.{entry, more, AskTold, ReplyTold, Told, told}
use Rattle.lra_laws.proofs.MemberWords.{stand_after, stand_quiet, void_push}
use Rattle.lra_laws.proofs.MemberDeeds.{Went, ask_went, asked_after, stand_asked, stand_replied}

-- the ask that an Ask makes
abbrev pub new_ask : History → ℕ → ℕ → AskKind → Asked
new_ask J n p kind = record { number = n; member = p; kind = kind; direction = ask_direction J p kind }

pub ask_kept : (J : History) (by m : ℕ) (d : Deed) (n : ℕ) → asked_at (step J (entry by m d)) ≡ None
    → ask_of (more J by m d) n ≡ ask_of J n
ask_kept J by m d n h = ask_of_push J (entry by m d) n ∙ ap (λ (o : Option Asked). option_or (ask_of J n)
    (option_map_or (λ (a : Asked). when (a.number == n) a) o None)) h ∙ or_none (ask_of J n)

pub ask_more : (J : History) (by m k p : ℕ) (kind : AskKind) (n : ℕ) → ask_of (more J by m (Ask k p kind)) n
    ≡ option_or (ask_of J n) (when (k == n) (new_ask J k p kind))
ask_more J by m k p kind n = ask_of_push J (entry by m (Ask k p kind)) n

-- ---- what an ask says of its member

pub record AsksListed (J : History) : Type 0 where
  pub there : (n : ℕ) (x : Asked) → ask_of J n ≡ Some x → is_among (members J) x.member ≡ true
  pub below : (n : ℕ) (x : Asked) → ask_of J n ≡ Some x → n ≤ length (asks J)
  pub went : (n : ℕ) (x : Asked) → ask_of J n ≡ Some x → Went J x.member x.direction
  pub listed : (n : ℕ) (x : Asked) → ask_of J n ≡ Some x → is_among (read_deeds (ask_given x.member) J) n ≡ true
  pub listing : (p n : ℕ) → is_among (read_deeds (ask_given p) J) n ≡ true
      → option_map_or (λ (x : Asked). x.member == p) (ask_of J n) false ≡ true

listed_empty : AsksListed []
unfolding ask_of steps
listed_empty = record {
  there = λ n x h. absurd cc;
  below = λ n x h. absurd cc;
  went = λ n x h. absurd cc;
  listed =
      λ n x h. absurd cc;
  listing = λ p n h. absurd cc;
}

-- what a member was asked stays
pub asked_stays : (J : History) (e : Entry) (p : ℕ) (kind : AskKind) → was_asked J p kind ≡ true
    → was_asked (J ++ e ∷ []) p kind ≡ true
asked_stays J e p kind h = was_asked_push J e p kind ∙ ap (λ (b : Bool). b || is_ask_for p kind e.deed) h

went_stays : (J : History) (e : Entry) (p : ℕ) (way : Direction) → Went J p way → Went (J ++ e ∷ []) p way
went_stays J e p way h = (λ k. asked_stays J e p ask.Complete (h.0 k), λ k. asked_stays J e p ask.Compensate (h.1 k))

-- a deed that asks nothing
listed_quiet : (J : History) (by m : ℕ) (d : Deed) → asked_at (step J (entry by m d)) ≡ None → asked_by d ≡ None
    → ((p : ℕ) → ask_given p d ≡ None) → AsksListed J → AsksListed (more J by m d)
listed_quiet J by m d none no_number no_list ih = record {
  there = λ n x h. member_there_push J (entry by m d) x.member (ih.there n x (old n x h));
  below = λ n x h. let k = ih.below n x (old n x h) in let s = same_asks in omega arith;
  went = λ n x h. went_stays J (entry by m d) x.member x.direction (ih.went n x (old n x h));
  listed = λ n x h. ap (λ (ns : List ℕ). is_among ns n) (same_list x.member) ∙ ih.listed n x (old n x h);
  listing = λ p n h. ap (λ (o : Option Asked). option_map_or (λ (x : Asked). x.member == p) o false)
      (ask_kept J by m d n none) ∙ ih.listing p n (ap (λ (ns : List ℕ). is_among ns n) (sym (same_list p)) ∙ h);
}
  where
    old : (n : ℕ) (x : Asked) → ask_of (more J by m d) n ≡ Some x → ask_of J n ≡ Some x
    old n x h = sym (ask_kept J by m d n none) ∙ h

    same_asks : length (asks (more J by m d)) ≡ length (asks J)
    same_asks = ap length (asks_push J (entry by m d) ∙ ap (λ (o : Option ℕ). asks J ++ option_to_list o) no_number
        ∙ append-nil (asks J))

    same_list : (p : ℕ) → read_deeds (ask_given p) (more J by m d) ≡ read_deeds (ask_given p) J
    same_list p = asks_to_push J (entry by m d) p ∙ ap (λ (o : Option ℕ). read_deeds (ask_given p) J
        ++ option_to_list o) (no_list p) ∙ append-nil (read_deeds (ask_given p) J)

-- the number of an ask that is made is new
pub number_new : (J : History) (n : ℕ) → AsksListed J → n ≡ length (asks J) + 1 → ask_of J n ≡ None
number_new J n ih e = decide (ask_of J n) refl
  where
    decide : (o : Option Asked) → ask_of J n ≡ o → o ≡ None
    decide None h = refl
    decide (Some x) h = absurd (let k = ih.below n x h in omega arith)

-- an ask that is found after one more was found before it, or is that one
ask_cases : (J : History) (by m k p : ℕ) (kind : AskKind) (n : ℕ) (x : Asked) → AsksListed J → k ≡ length (asks J) + 1
    → ask_of (more J by m (Ask k p kind)) n ≡ Some x
    → (ask_of J n ≡ Some x) ⊎ ((k ≡ n) × (x ≡ new_ask J k p kind))
ask_cases J by m k p kind n x ih e h = decide (ask_of J n) refl (k == n) refl (sym (ask_more J by m k p kind n) ∙ h)
  where
    decide : (o : Option Asked) → ask_of J n ≡ o → (b : Bool) → (k == n) ≡ b → option_or o (when b (new_ask J k p kind))
        ≡ Some x → (ask_of J n ≡ Some x) ⊎ ((k ≡ n) × (x ≡ new_ask J k p kind))
    decide (Some y) g b f i = inl (g ∙ i)
    decide None g true f i = inr (eqb-true k n f, sym (same_Some (new_ask J k p kind) x i))
    decide None g false f i = absurd cc

listed_ask : (J : History) (by m k p : ℕ) (kind : AskKind) → AskTold J k p kind → AsksListed J
    → AsksListed (more J by m (Ask k p kind))
listed_ask J by m k p kind told ih = record {
  there = λ n x h. there_of n x (ask_cases J by m k p kind n x ih told.number h);
  below = λ n x h. below_of n x (ask_cases J by m k p kind n x ih told.number h);
  went = λ n x h. went_of n x (ask_cases J by m k p kind n x ih told.number h);
  listed = λ n x h. listed_of n x (ask_cases J by m k p kind n x ih told.number h);
  listing = listing_of;
}
  where
    there_of : (n : ℕ) (x : Asked) → (ask_of J n ≡ Some x) ⊎ ((k ≡ n) × (x ≡ new_ask J k p kind))
        → is_among (members (more J by m (Ask k p kind))) x.member ≡ true
    there_of n x (inl h) = member_there_push J (entry by m (Ask k p kind)) x.member (ih.there n x h)
    there_of n x (inr h) = ap (λ (y : Asked). is_among (members (more J by m (Ask k p kind))) y.member) h.1
        ∙ member_there_push J (entry by m (Ask k p kind)) p told.there

    longer : length (asks (more J by m (Ask k p kind))) ≡ length (asks J) + 1
    longer = ap length (asks_push J (entry by m (Ask k p kind))) ∙ length-append (asks J) (k ∷ [])

    below_of : (n : ℕ) (x : Asked) → (ask_of J n ≡ Some x) ⊎ ((k ≡ n) × (x ≡ new_ask J k p kind)) → n
        ≤ length (asks (more J by m (Ask k p kind)))
    below_of n x (inl h) = let b = ih.below n x h in let l = longer in omega arith
    below_of n x (inr h) = let l = longer in let t = told.number in let q = h.0 in omega arith

    went_of : (n : ℕ) (x : Asked) → (ask_of J n ≡ Some x) ⊎ ((k ≡ n) × (x ≡ new_ask J k p kind))
        → Went (more J by m (Ask k p kind)) x.member x.direction
    went_of n x (inl h) = went_stays J (entry by m (Ask k p kind)) x.member x.direction (ih.went n x h)
    went_of n x (inr h) = subst (λ (y : Asked). Went (more J by m (Ask k p kind)) y.member y.direction) (sym h.1)
        (ask_went J p kind told.fits (was_asked (more J by m (Ask k p kind)) p ask.Complete)
        (was_asked (more J by m (Ask k p kind)) p ask.Compensate) (sym (asked_after J by m k p kind ask.Complete))
        (sym (asked_after J by m k p kind ask.Compensate)))

    list_of : (q n : ℕ) → is_among (read_deeds (ask_given q) (more J by m (Ask k p kind))) n
        ≡ (is_among (read_deeds (ask_given q) J) n || option_map_or (λ i. i == n) (when (p == q) k) false)
    list_of q n = ap (λ (ns : List ℕ). is_among ns n) (asks_to_push J (entry by m (Ask k p kind)) q)
        ∙ among_push (read_deeds (ask_given q) J) (when (p == q) k) n

    listed_of : (n : ℕ) (x : Asked) → (ask_of J n ≡ Some x) ⊎ ((k ≡ n) × (x ≡ new_ask J k p kind))
        → is_among (read_deeds (ask_given x.member) (more J by m (Ask k p kind))) n ≡ true
    listed_of n x (inl h) = list_of x.member n ∙ ap (λ (b : Bool). b || option_map_or (λ i. i == n)
        (when (p == x.member) k) false) (ih.listed n x h)
    listed_of n x (inr h) =
        ap (λ (y : Asked). is_among (read_deeds (ask_given y.member) (more J by m (Ask k p kind))) n) h.1 ∙ list_of p n
        ∙ ap (λ (b : Bool). is_among (read_deeds (ask_given p) J) n || option_map_or (λ i. i == n) (when b k) false)
        (eqb_self p)
        ∙ ap (λ (b : Bool). is_among (read_deeds (ask_given p) J) n || b) (eq-eqb k n h.0)
        ∙ or-true (is_among (read_deeds (ask_given p) J) n)

    listing_of : (q n : ℕ) → is_among (read_deeds (ask_given q) (more J by m (Ask k p kind))) n ≡ true
        → option_map_or (λ (x : Asked). x.member == q) (ask_of (more J by m (Ask k p kind)) n) false ≡ true
    listing_of q n h = ap (λ (o : Option Asked). option_map_or (λ (x : Asked). x.member == q) o false)
        (ask_more J by m k p kind n) ∙ decide (ask_of J n) refl (is_among (read_deeds (ask_given q) J) n) refl (p == q)
        refl (k == n) refl (sym (list_of q n) ∙ h)
      where
        decide : (o : Option Asked) → ask_of J n ≡ o → (a : Bool) → is_among (read_deeds (ask_given q) J) n ≡ a
            → (b : Bool) → (p == q) ≡ b → (c : Bool) → (k == n) ≡ c → (a
            || option_map_or (λ i. i == n) (when b k) false) ≡ true
            → option_map_or (λ (x : Asked). x.member == q) (option_or o (when c (new_ask J k p kind))) false ≡ true
        decide (Some y) g true f b x c z i = ap (λ (o : Option Asked). option_map_or (λ (x : Asked). x.member == q) o
            false) (sym g) ∙ ih.listing q n f
        decide None g true f b x c z i = absurd
            (let y = sym (ap (λ (o : Option Asked). option_map_or (λ (x : Asked). x.member == q) o false) g)
            ∙ ih.listing q n f in cc)
        decide (Some y) g false f true x c z i = absurd (let e : k ≡ n = eqb-true k n i in let s = ih.below n y g in
            let t = told.number in omega arith)
        decide None g false f true x true z i = x
        decide None g false f true x false z i = absurd cc
        decide o g false f false x c z i = absurd cc

listed_push : (J : History) (by m : ℕ) (d : Deed) → Told J by d → AsksListed J → AsksListed (more J by m d)
listed_push J by m (Ask k p kind) t ih = listed_ask J by m k p kind t ih
listed_push J by m d t ih = listed_quiet J by m d refl refl (λ p. refl) ih

pub asks_listed : (v : Version) (t : List ℕ → Bool) (J : History) → is_legal v t J ≡ true → AsksListed J
asks_listed v t = legal_induction v t AsksListed listed_empty (λ J e l k h. listed_push J e.by e.moment e.deed
    (told v t J e.by e.moment e.deed k) h)

-- ---- which asks stand

-- whether that is the ask of a number
abbrev pub stands_for : Option Standing → ℕ → Bool
stands_for o n = option_map_or (λ (x : Standing). x.number == n) o false

-- whether the ask of a number is its member's last, unanswered, and made after the last restart
abbrev pub stands_yet : History → ℕ → Option Asked → Bool
stands_yet J n o = option_map_or (λ (x : Asked). nat_lt (void_asks J) n && stands_for (standing J x.member) n) o false

abbrev pub asked_of : ℕ → Standing → Asked
asked_of p s = record { number = s.number; member = p; kind = s.kind; direction = s.direction }

pub record AsksStand (J : History) : Type 0 where
  pub stands : (p : ℕ) (s : Standing) → standing J p ≡ Some s → ask_of J s.number ≡ Some (asked_of p s)
  pub void_below : void_asks J ≤ length (asks J)
  pub outstanding : (n : ℕ) → is_outstanding J n ≡ stands_yet J n (ask_of J n)

stand_empty : AsksStand []
unfolding ask_of steps standing void_asks is_outstanding asks
stand_empty = record { stands = λ p s h. absurd cc; void_below = omega arith; outstanding = λ n. refl }

pub void_kept : (J : History) (by m : ℕ) (d : Deed) → void_at (step J (entry by m d)) ≡ None → void_asks (more J by m d)
    ≡ void_asks J
void_kept J by m d h = void_push J (entry by m d) ∙ ap (λ (o : Option ℕ). unwrap_or o (void_asks J)) h

pub asks_kept : (J : History) (by m : ℕ) (d : Deed) → asked_by d ≡ None → length (asks (more J by m d))
    ≡ length (asks J)
asks_kept J by m d h = ap length (asks_push J (entry by m d) ∙ ap (λ (o : Option ℕ). asks J ++ option_to_list o) h
    ∙ append-nil (asks J))

stand_still : (J : History) (by m : ℕ) (d : Deed) → asked_at (step J (entry by m d)) ≡ None
    → ((p : ℕ) → standing_at p (step J (entry by m d)) ≡ None) → void_at (step J (entry by m d)) ≡ None
    → ((n : ℕ) → standing_given n d ≡ None) → asked_by d ≡ None → AsksStand J → AsksStand (more J by m d)
stand_still J by m d none still no_void no_turn no_number ih = record {
  stands = λ p s h. ask_kept J by m d s.number none ∙ ih.stands p s (sym (stand_after J by m d p None (still p)) ∙ h);
  void_below = let a = void_kept J by m d no_void in let b = asks_kept J by m d no_number in let c = ih.void_below in
      omega arith;
  outstanding = λ n.
      is_outstanding_push J (entry by m d) n ∙ ap (λ (o : Option Bool). unwrap_or o (is_outstanding J n)) (no_turn n)
      ∙ ih.outstanding n
      ∙ sym (λ i. option_map_or (λ (x : Asked). nat_lt (void_kept J by m d no_void i) n
      && stands_for (stand_after J by m d x.member None (still x.member) i) n) (ask_kept J by m d n none i) false);
}

-- an ask stands with its member instead of what stood there
stand_ask : (J : History) (by m k p : ℕ) (kind : AskKind) → AskTold J k p kind → AsksListed J → AsksStand J
    → AsksStand (more J by m (Ask k p kind))
unfolding outstanding_ask
stand_ask J by m k p kind told list ih = record {
  stands = λ q s h. stands_of q s (p == q) refl h;
  void_below = let a = void_kept J by m (Ask k p kind) refl in let b = longer in let c = ih.void_below in omega arith;
  outstanding = λ n. is_outstanding_push J (entry by m (Ask k p kind)) n ∙ turn n (ask_of J n) refl (k == n) refl
      ∙ sym (ap (stands_yet (more J by m (Ask k p kind)) n) (ask_more J by m k p kind n));
}
  where
    longer : length (asks (more J by m (Ask k p kind))) ≡ length (asks J) + 1
    longer = ap length (asks_push J (entry by m (Ask k p kind))) ∙ length-append (asks J) (k ∷ [])

    stands_of : (q : ℕ) (s : Standing) (b : Bool) → (p == q) ≡ b → standing (more J by m (Ask k p kind)) q ≡ Some s
        → ask_of (more J by m (Ask k p kind)) s.number ≡ Some (asked_of q s)
    stands_of q s true e h =
        let same : p ≡ q = eqb-true p q e in
        let now : Some (record { number = k; kind = kind; direction = ask_direction J p kind })
        ≡ Some s = sym (stand_asked J by m k p kind) ∙ ap (standing (more J by m (Ask k p kind))) same ∙ h in
        let is : record { number = k; kind = kind; direction = ask_direction J p kind }
        ≡ s = same_Some (record { number = k; kind = kind; direction = ask_direction J p kind }) s now in
        ap (λ (x : Standing). ask_of (more J by m (Ask k p kind)) x.number) (sym is)
        ∙ ask_more J by m k p kind k
        ∙ (λ i. option_or (number_new J k list told.number i) (when (eqb_self k i) (new_ask J k p kind)))
        ∙ (λ i. Some (asked_of (same i) (is i)))
    stands_of q s false e h = ask_more J by m k p kind s.number ∙ ap (λ (o : Option Asked). option_or o
        (when (k == s.number) (new_ask J k p kind))) (ih.stands q s (sym (stand_quiet J by m (Ask k p kind) q e) ∙ h))

    turn : (n : ℕ) (o : Option Asked) → ask_of J n ≡ o → (b : Bool) → (k == n) ≡ b
        → unwrap_or (when b true) (is_outstanding J n) ≡ stands_yet (more J by m (Ask k p kind)) n
        (option_or o (when b (new_ask J k p kind)))
    turn n None e true g =
        let same : k ≡ n = eqb-true k n g in
        let v : void_asks (more J by m (Ask k p kind)) < n =
        (let a = void_kept J by m (Ask k p kind) refl in let c = ih.void_below in let t = told.number in
        omega arith) in
        sym ((λ i. lt-ltb (void_asks (more J by m (Ask k p kind))) n v i
        && stands_for (stand_asked J by m k p kind i) n) ∙ g)
    turn n None e false g = ih.outstanding n ∙ ap (stands_yet J n) e
    turn n (Some y) e true g = absurd (let same : k ≡ n = eqb-true k n g in let b = list.below n y e in
        let t = told.number in omega arith)
    turn n (Some y) e false g = of_member (p == y.member) refl
      where
        of_member : (b : Bool) → (p == y.member) ≡ b → is_outstanding J n
            ≡ (nat_lt (void_asks (more J by m (Ask k p kind))) n && stands_for
            (standing (more J by m (Ask k p kind)) y.member) n)
        of_member true f =
            let same : p ≡ y.member = eqb-true p y.member f in
            find_nothing (is_outstanding J) (read_deeds (ask_given p) J) n
            (none_from_absent (find (is_outstanding J) (read_deeds (ask_given p) J)) told.unasked)
            (ap (λ (q : ℕ). is_among (read_deeds (ask_given q) J) n) same ∙ list.listed n y e)
            ∙ sym (ap (λ (q : ℕ). nat_lt (void_asks (more J by m (Ask k p kind))) n
            && stands_for (standing (more J by m (Ask k p kind)) q) n) (sym same)
            ∙ ap (λ (s : Option Standing). nat_lt (void_asks (more J by m (Ask k p kind))) n && stands_for s n)
            (stand_asked J by m k p kind)
            ∙ ap (λ (b : Bool). nat_lt (void_asks (more J by m (Ask k p kind))) n && b) g
            ∙ and-false (nat_lt (void_asks (more J by m (Ask k p kind))) n))
        of_member false f =
            ih.outstanding n ∙ ap (stands_yet J n) e
            ∙ sym (λ i. nat_lt (void_kept J by m (Ask k p kind) refl i) n
            && stands_for (stand_quiet J by m (Ask k p kind) y.member f i) n)

-- a reply takes away what stands with its member
stand_reply : (J : History) (by m k : ℕ) (o : Outcome) (x : Asked) → ReplyTold J k x → AsksStand J
    → AsksStand (more J by m (Reply k o))
stand_reply J by m k o x told ih = record {
  stands = λ q s h. ask_kept J by m (Reply k o) s.number refl ∙ stands_of q s (x.member == q) refl h;
  void_below = let a = void_kept J by m (Reply k o) refl in let b = asks_kept J by m (Reply k o) refl in
      let c = ih.void_below in omega arith;
  outstanding = λ n. is_outstanding_push J (entry by m (Reply k o)) n ∙ turn n (ask_of J n) refl (k == n) refl
      ∙ sym (ap (stands_yet (more J by m (Reply k o)) n) (ask_kept J by m (Reply k o) n refl));
}
  where
    quiet : (q : ℕ) → (x.member == q) ≡ false → standing (more J by m (Reply k o)) q ≡ standing J q
    quiet q h = stand_quiet J by m (Reply k o) q
        (ap (λ (a : Option Asked). option_map_or (λ (y : Asked). y.member == q) a false) told.asked ∙ h)

    stands_of : (q : ℕ) (s : Standing) (b : Bool) → (x.member == q) ≡ b → standing (more J by m (Reply k o)) q ≡ Some s
        → ask_of J s.number ≡ Some (asked_of q s)
    stands_of q s true e h = absurd
        (let n : None ≡ Some s = sym (stand_replied J by m k o x told.asked)
        ∙ ap (standing (more J by m (Reply k o))) (eqb-true x.member q e) ∙ h in cc)
    stands_of q s false e h = ih.stands q s (sym (quiet q e) ∙ h)

    -- the ask that is answered is the one that stands
    here : stands_for (standing J x.member) k ≡ true
    here = (both (nat_lt (void_asks J) k) (stands_for (standing J x.member) k)
        (sym (ih.outstanding k ∙ ap (stands_yet J k) told.asked) ∙ told.outstanding)).1

    apart : (s : Option Standing) (n : ℕ) → stands_for s k ≡ true → (k == n) ≡ false → stands_for s n ≡ false
    apart None n h g = refl
    apart (Some s) n h g = ap (λ (i : ℕ). i == n) (eqb-true s.number k h) ∙ g

    turn : (n : ℕ) (a : Option Asked) → ask_of J n ≡ a → (b : Bool) → (k == n) ≡ b
        → unwrap_or (when b false) (is_outstanding J n) ≡ stands_yet (more J by m (Reply k o)) n a
    turn n None e true g = refl
    turn n None e false g = ih.outstanding n ∙ ap (stands_yet J n) e
    turn n (Some y) e b g = of_member (x.member == y.member) refl b g
      where
        gone : x.member ≡ y.member → false ≡ (nat_lt (void_asks (more J by m (Reply k o))) n
            && stands_for (standing (more J by m (Reply k o)) y.member) n)
        gone same = sym (ap (λ (q : ℕ). nat_lt (void_asks (more J by m (Reply k o))) n
            && stands_for (standing (more J by m (Reply k o)) q) n) (sym same)
            ∙ ap (λ (s : Option Standing). nat_lt (void_asks (more J by m (Reply k o))) n && stands_for s n)
            (stand_replied J by m k o x told.asked) ∙ and-false (nat_lt (void_asks (more J by m (Reply k o))) n))

        of_member : (c : Bool) → (x.member == y.member) ≡ c → (b : Bool) → (k == n) ≡ b
            → unwrap_or (when b false) (is_outstanding J n) ≡ (nat_lt (void_asks (more J by m (Reply k o))) n
            && stands_for (standing (more J by m (Reply k o)) y.member) n)
        of_member true f true g = gone (eqb-true x.member y.member f)
        of_member true f false g =
            ih.outstanding n ∙ ap (stands_yet J n) e
            ∙ ap (λ (c : Bool). nat_lt (void_asks J) n && c) (ap (λ (q : ℕ). stands_for (standing J q) n)
            (sym (eqb-true x.member y.member f)) ∙ apart (standing J x.member) n here g)
            ∙ and-false (nat_lt (void_asks J) n)
            ∙ gone (eqb-true x.member y.member f)
        of_member false f true g =
            absurd (let same : x ≡ y = same_Some x y (sym told.asked ∙ ap (ask_of J) (eqb-true k n g) ∙ e) in
            let t : (x.member == y.member) ≡ true = ap (λ (z : Asked). x.member == z.member) (sym same)
            ∙ eqb_self x.member in
            let u : true ≡ false = sym t ∙ f in cc)
        of_member false f false g = ih.outstanding n ∙ ap (stands_yet J n) e
            ∙ sym (λ i. nat_lt (void_kept J by m (Reply k o) refl i) n && stands_for (quiet y.member f i) n)

-- a restart makes void what stands
stand_restart : (J : History) (by m : ℕ) → AsksListed J → AsksStand J → AsksStand (more J by m Restart)
stand_restart J by m list ih = record {
  stands = λ q s h. ask_kept J by m Restart s.number refl ∙ ih.stands q s (sym (stand_quiet J by m Restart q refl) ∙ h);
  void_below = let a = all in let b = asks_kept J by m Restart refl in omega arith;
  outstanding = λ n. is_outstanding_push J (entry by m Restart) n ∙ sym
      (ap (stands_yet (more J by m Restart) n) (ask_kept J by m Restart n refl) ∙ turn n (ask_of J n) refl);
}
  where
    all : void_asks (more J by m Restart) ≡ length (asks J)
    all = void_push J (entry by m Restart)

    turn : (n : ℕ) (a : Option Asked) → ask_of J n ≡ a → stands_yet (more J by m Restart) n a ≡ false
    turn n None e = refl
    turn n (Some y) e =
        let v : n ≤ void_asks (more J by m Restart) = (let b = list.below n y e in let c = all in omega arith) in
        ap (λ (b : Bool). b && stands_for (standing (more J by m Restart) y.member) n)
        (le-ltb (void_asks (more J by m Restart)) n v)

stand_push : (J : History) (by m : ℕ) (d : Deed) → Told J by d → AsksListed J → AsksStand J → AsksStand (more J by m d)
stand_push J by m (Ask k p kind) t list ih = stand_ask J by m k p kind t list ih
stand_push J by m (Reply k o) t list ih = stand_reply J by m k o t.0 t.1 ih
stand_push J by m Restart t list ih = stand_restart J by m list ih
stand_push J by m d t list ih = stand_still J by m d refl (λ p. refl) refl (λ n. refl) refl ih

pub asks_stand : (v : Version) (t : List ℕ → Bool) (J : History) → is_legal v t J ≡ true → AsksStand J
asks_stand v t = legal_induction v t AsksStand stand_empty (λ J e l k h. stand_push J e.by e.moment e.deed
    (told v t J e.by e.moment e.deed k) (asks_listed v t J l) h)

-- ---- what the rules read of it

-- where none passes, none is found
find_none : (f : ℕ → Bool) (ns : List ℕ) → ((n : ℕ) → is_among ns n ≡ true → f n ≡ false) → find f ns ≡ None
find_none f [] h = refl
find_none f (n ∷ ns) h = ap (λ (b : Bool). cond b (Some n) (find f ns)) (h n (among_here n ns))
    ∙ find_none f ns (λ m k. h m (among_there n ns m k))

-- the one number that passes is found
find_only : (f : ℕ → Bool) (ns : List ℕ) (n : ℕ) → is_among ns n ≡ true → f n ≡ true
    → ((m : ℕ) → is_among ns m ≡ true → f m ≡ true → m ≡ n) → find f ns ≡ Some n
find_only f [] n there here only = absurd cc
find_only f (m ∷ ns) n there here only = either (f m) refl (m == n) refl there
    (λ h. find_only f ns n h here (λ k g. only k (among_there m ns k g)))
  where
    either : (b : Bool) → f m ≡ b → (c : Bool) → (m == n) ≡ c → (c || is_among ns n) ≡ true
        → (is_among ns n ≡ true → find f ns ≡ Some n) → cond b (Some m) (find f ns) ≡ Some n
    either true e c g h rest = λ i. Some (only m (among_here m ns) e i)
    either false e true g h rest = absurd (let x : f m ≡ true = ap f (eqb-true m n g) ∙ here in cc)
    either false e false g h rest = rest h

-- the ask of a member that is outstanding, by what stands with it
pub outstanding_by : (J : History) (p : ℕ) → AsksListed J → AsksStand J → outstanding_ask J p
    ≡ option_map_or (λ (x : Standing). when (nat_lt (void_asks J) x.number) x.number) (standing J p) None
unfolding outstanding_ask
outstanding_by J p list ih = decide (standing J p) refl
  where
    -- an ask of the member is outstanding only where it stands
    only : (n : ℕ) → is_among (read_deeds (ask_given p) J) n ≡ true → is_outstanding J n
        ≡ (nat_lt (void_asks J) n && stands_for (standing J p) n)
    only n h = found (ask_of J n) refl (list.listing p n h)
      where
        found : (o : Option Asked) → ask_of J n ≡ o → option_map_or (λ (x : Asked). x.member == p) o false ≡ true
            → is_outstanding J n ≡ (nat_lt (void_asks J) n && stands_for (standing J p) n)
        found None e g = absurd cc
        found (Some y) e g = ih.outstanding n ∙ ap (stands_yet J n) e ∙ ap
            (λ (q : ℕ). nat_lt (void_asks J) n && stands_for (standing J q) n) (eqb-true y.member p g)

    decide : (o : Option Standing) → standing J p ≡ o → find (is_outstanding J) (read_deeds (ask_given p) J)
        ≡ option_map_or (λ (x : Standing). when (nat_lt (void_asks J) x.number) x.number) o None
    decide None e = find_none (is_outstanding J) (read_deeds (ask_given p) J)
        (λ n h. only n h ∙ ap (λ (s : Option Standing). nat_lt (void_asks J) n && stands_for s n) e
        ∙ and-false (nat_lt (void_asks J) n))
    decide (Some s) e = live (nat_lt (void_asks J) s.number) refl
      where
        here : is_among (read_deeds (ask_given p) J) s.number ≡ true
        here = list.listed s.number (asked_of p s) (ih.stands p s e)

        stands : (n : ℕ) → is_among (read_deeds (ask_given p) J) n ≡ true → is_outstanding J n
            ≡ (nat_lt (void_asks J) n && (s.number == n))
        stands n h = only n h ∙ ap (λ (x : Option Standing). nat_lt (void_asks J) n && stands_for x n) e

        that : (n : ℕ) (b c : Bool) → (s.number == n) ≡ c → (b && c) ≡ true → n ≡ s.number
        that n true true f h = sym (eqb-true s.number n f)
        that n true false f h = absurd cc
        that n false c f h = absurd cc

        live : (b : Bool) → nat_lt (void_asks J) s.number ≡ b → find (is_outstanding J) (read_deeds (ask_given p) J)
            ≡ when b s.number
        live true g =
            find_only (is_outstanding J) (read_deeds (ask_given p) J) s.number here
            (stands s.number here ∙ (λ i. g i && eqb_self s.number i))
            (λ n h k. that n (nat_lt (void_asks J) n) (s.number == n) refl (sym (stands n h) ∙ k))
        live false g = find_none (is_outstanding J) (read_deeds (ask_given p) J)
            (λ n h. stands n h ∙ void n (s.number == n) refl)
          where
            void : (n : ℕ) (c : Bool) → (s.number == n) ≡ c → (nat_lt (void_asks J) n && c) ≡ false
            void n true f = ap (λ (x : ℕ). nat_lt (void_asks J) x && true) (sym (eqb-true s.number n f))
                ∙ ap (λ (b : Bool). b && true) g
            void n false f = and-false (nat_lt (void_asks J) n)

-- whether there is one
pub is_asked_by : (J : History) (p : ℕ) → AsksListed J → AsksStand J → is_some (outstanding_ask J p)
    ≡ option_map_or (λ (x : Standing). nat_lt (void_asks J) x.number) (standing J p) false
is_asked_by J p list ih = ap is_some (outstanding_by J p list ih) ∙ of_standing (standing J p)
  where
    either : (b : Bool) (n : ℕ) → is_some (when b n) ≡ b
    either true n = refl
    either false n = refl

    of_standing : (o : Option Standing)
        → is_some (option_map_or (λ (x : Standing). when (nat_lt (void_asks J) x.number) x.number) o None)
        ≡ option_map_or (λ (x : Standing). nat_lt (void_asks J) x.number) o false
    of_standing None = refl
    of_standing (Some s) = either (nat_lt (void_asks J) s.number) s.number
