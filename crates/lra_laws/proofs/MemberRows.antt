-- The rows of the members after one more entry.
use Rattle.std.proofs.Common.{◌≡◌, ℕ, zero, suc, ◌+◌, ◌<◌, Bool, true, false, List, [], ◌∷◌, ◌++◌, length, map, Option}
use Rattle.std.proofs.Common.{Some, None, refl, sym, ap, ◌∙◌, arith, eqb-true, append-nil}
use Rattle.std.proofs.lemmas.Bool.{ne_eqb}
use Rattle.std.proofs.lemmas.Option.{same_Some}
use Rattle.std.specs.Prelude.{◌==◌, nat_lt, unwrap_or, option_to_list}
use Rattle.std.specs.Option.{option_map_or}
use Rattle.std.specs.List.{range_with_len}
use Rattle.lra_model.specs.declared.status.MemberStatus.TheVariants as member
use Rattle.lra_model.specs.declared.entry.Deed.{Deed}
use Rattle.lra_model.specs.declared.entry.Deed.TheVariants.{Join, Leave, Skip, Ask, Reply, Report}
use Rattle.lra_model.specs.declared.entry.Entry.{Entry}
use Rattle.lra_model.specs.declared.version.Version.{Version}
use Rattle.lra_model.specs.declared.asks.AskKind.TheVariants as ask
use Rattle.lra_model.specs.declared.asks.Direction.{Direction}
use Rattle.lra_model.specs.declared.asks.Direction.TheVariants as direction
use Rattle.lra_model.specs.Addresses as texts
use Rattle.lra_model.specs.Addresses.{presence_of}
use Rattle.lra_model.specs.Words.{when}
use Rattle.lra_model.specs.History.{History, steps, members, joined_by, is_among}
use Rattle.lra_model.specs.Members.{no_addresses, action_of, addresses_of, has_left, was_asked, Asked, ask_of, replies}
use Rattle.lra_model.specs.Members.{decided, member_status, last_reply, was_answered}
use Rattle.lra_model.specs.Rules.{is_legal}
use Rattle.lra_laws.proofs.Push.{members_push}
use Rattle.lra_laws.proofs.Legal.{legal_induction, Allowed, IsNumbered, numbered_among, members_numbered}
use Rattle.lra_laws.proofs.Legal.{numbered_fresh}
use Rattle.lra_laws.proofs.Named.{member_there_push, joined_there, action_of_new, addresses_of_new}
use Rattle.lra_laws.proofs.Tested.{both}
use Rattle.lra_laws.specs.Rows.{Standing, MemberRow, standing, void_asks, member_row, change_row, new_member, place_of}
use Rattle.lra_laws.specs.Rows.{stands_as}
use Rattle.lra_laws.proofs.RowLists.{among_apart, eqb_self, eqb_flip, map_within, rows_changed, rows_more}
use Rattle.lra_laws.proofs.Told.{entry, more, ReplyTold, Told, told}
use Rattle.lra_laws.proofs.MemberWords.{concerns, status_same, quiet_row, left_quiet, asked_quiet, decided_quiet}
use Rattle.lra_laws.proofs.MemberWords.{reply_after, answer_kept, stand_after}
use Rattle.lra_laws.proofs.AskWords.{AsksListed, AsksStand, asks_listed, stands_for, stands_yet, asked_of}

-- ---- a member that isn't there

-- an entry concerns no member but those that are there and the one that joins
quiet_of_absent : (J : History) (by m : ℕ) (d : Deed) (p : ℕ) → Told J by d → AsksListed J → is_among (members J) p
    ≡ false → is_among (members (more J by m d)) p ≡ false → concerns J d p ≡ false
quiet_of_absent J by m (Join q a u) p t list h k = eqb_flip p q (among_apart (members (more J by m (Join q a u))) q p
    (joined_there J (entry by m (Join q a u)) q refl) k)
quiet_of_absent J by m (Leave q) p t list h k = eqb_flip p q (among_apart (members J) q p t h)
quiet_of_absent J by m (Skip q) p t list h k = eqb_flip p q (among_apart (members J) q p t.there h)
quiet_of_absent J by m (Ask n q kind) p t list h k = eqb_flip p q (among_apart (members J) q p t.there h)
quiet_of_absent J by m (Report q o) p t list h k = eqb_flip p q (among_apart (members J) q p t.there h)
quiet_of_absent J by m (Reply n o) p t list h k =
    ap (λ (x : Option Asked). option_map_or (λ (a : Asked). a.member == p) x false) t.1.asked
    ∙ eqb_flip p t.0.member (among_apart (members J) t.0.member p (list.there n t.0 t.1.asked) h)
quiet_of_absent J by m d p t list h k = refl

-- one that isn't there after an entry wasn't there before it
pub absent_before : (J : History) (e : Entry) (p : ℕ) → is_among (members (J ++ e ∷ [])) p ≡ false
    → is_among (members J) p ≡ false
absent_before J e p h = decide (is_among (members J) p) refl
  where
    decide : (b : Bool) → is_among (members J) p ≡ b → b ≡ false
    decide false g = refl
    decide true g = let x : is_among (members (J ++ e ∷ [])) p ≡ true = member_there_push J e p g in absurd cc

pub absent_row : (v : Version) (t : List ℕ → Bool) (J : History) → is_legal v t J ≡ true → (p : ℕ)
    → is_among (members J) p ≡ false → member_row J p ≡ new_member 0 no_addresses
unfolding steps action_of addresses_of has_left was_asked replies decided member_status last_reply was_answered standing
absent_row v t = legal_induction v t (λ J. (p : ℕ) → is_among (members J) p ≡ false → member_row J p
    ≡ new_member 0 no_addresses) (λ p h. refl) push
  where
    push : (J : History) (e : Entry) → is_legal v t J ≡ true → Allowed v t J e
        → ((p : ℕ) → is_among (members J) p ≡ false → member_row J p ≡ new_member 0 no_addresses)
        → (p : ℕ) → is_among (members (J ++ e ∷ [])) p ≡ false → member_row (J ++ e ∷ []) p ≡ new_member 0 no_addresses
    push J e l k ih p h = quiet_row J e.by e.moment e.deed p (quiet_of_absent J e.by e.moment e.deed p
        (told v t J e.by e.moment e.deed k) (asks_listed v t J l) before h) ∙ ih p before
      where
        before : is_among (members J) p ≡ false
        before = absent_before J e p h

-- ---- the rows

-- no one joins
pub members_stay : (J : History) (by m : ℕ) (d : Deed) → joined_by d ≡ None → members (more J by m d) ≡ members J
members_stay J by m d h = members_push J (entry by m d) ∙ ap (λ (o : Option ℕ). members J ++ option_to_list o) h
    ∙ append-nil (members J)

-- an entry that concerns none
pub rows_still : (J : History) (by m : ℕ) (d : Deed) → joined_by d ≡ None → ((p : ℕ) → concerns J d p ≡ false)
    → map (member_row (more J by m d)) (members (more J by m d)) ≡ map (member_row J) (members J)
rows_still J by m d none quiet = ap (map (member_row (more J by m d))) (members_stay J by m d none)
    ∙ map_within (member_row (more J by m d)) (member_row J) (members J) (λ p h. quiet_row J by m d p (quiet p))

-- an entry that concerns one
pub rows_of_one : (J : History) (by m : ℕ) (d : Deed) (p : ℕ) (f : MemberRow → MemberRow) → IsNumbered (members J)
    → joined_by d ≡ None → is_among (members J) p ≡ true → ((q : ℕ) → (p == q) ≡ false → concerns J d q ≡ false)
    → member_row (more J by m d) p ≡ f (member_row J p) → map (member_row (more J by m d)) (members (more J by m d))
    ≡ change_row f p (map (member_row J) (members J))
rows_of_one J by m d p f numbered none there quiet here =
    ap (map (member_row (more J by m d))) (members_stay J by m d none)
    ∙ rows_changed f (member_row J) (member_row (more J by m d)) (members J) p numbered there
    (λ q h k. quiet_row J by m d q (quiet q k)) here

-- one that joins
pub joined_row : (v : Version) (t : List ℕ → Bool) (J : History) (by m p a : ℕ) (u : texts.Addresses) → is_legal v t J
    ≡ true → is_among (members J) p ≡ false → member_row (more J by m (Join p a u)) p ≡ new_member a u
joined_row v t J by m p a u l h =
    let d : Deed = Join p a u in
    let old = absent_row v t J l p h in
    let s : member_status (more J by m d) p ≡ member.Active = status_same J (more J by m d) p
    (left_quiet J by m d p refl) (λ way. decided_quiet J by m d p way refl)
    (λ kind. asked_quiet J by m d p kind refl) ∙ ap (λ (r : MemberRow). r.status) old in
    let x : action_of (more J by m d) p ≡ a = action_of_new J (entry by m d) p h
    ∙ ap (λ (b : Bool). unwrap_or (when b a) 0) (eqb_self p) in
    let y : addresses_of (more J by m d) p ≡ u = addresses_of_new J (entry by m d) p h
    ∙ ap (λ (b : Bool). unwrap_or (when b u) no_addresses) (eqb_self p) in
    let r : (way : Direction) → last_reply (more J by m d) p way ≡ last_reply J p way =
    λ way. reply_after J by m d p way None refl in
    let st : standing (more J by m d) p ≡ None = stand_after J by m d p None refl
    ∙ ap (λ (z : MemberRow). z.asked) old in
    let c = r direction.Completion ∙ ap (λ (z : MemberRow). z.completion) old in
    let g = r direction.Compensation ∙ ap (λ (z : MemberRow). z.compensation) old in
    let e = decided_quiet J by m d p direction.Completion refl ∙ ap (λ (z : MemberRow). z.completed_as) old in
    let k = decided_quiet J by m d p direction.Compensation refl ∙ ap (λ (z : MemberRow). z.compensated_as) old in
    let f = answer_kept J by m d p ask.Forget refl ∙ ap (λ (z : MemberRow). z.has_forgotten) old in
    let w = answer_kept J by m d p ask.After refl ∙ ap (λ (z : MemberRow). z.was_told) old in
    λ i. record {
      action = x i;
      addresses = presence_of (y i);
      status = s i;
      completion = c i;
      compensation = g i;
      completed_as = e i;
      compensated_as = k i;
      asked = st i;
      has_forgotten = f i;
      was_told = w i;
    }

pub rows_joined : (v : Version) (t : List ℕ → Bool) (J : History) (by m p a : ℕ) (u : texts.Addresses) → is_legal v t J
    ≡ true → p ≡ length (members J) + 1
    → map (member_row (more J by m (Join p a u))) (members (more J by m (Join p a u))) ≡ map (member_row J) (members J)
    ++ new_member a u ∷ []
rows_joined v t J by m p a u l e =
    let fresh = numbered_fresh (members J) (members_numbered v t J l) p e in
    ap (map (member_row (more J by m (Join p a u)))) (members_push J (entry by m (Join p a u)))
    ∙ rows_more (member_row (more J by m (Join p a u))) (members J) p
    ∙ (λ i. map_within (member_row (more J by m (Join p a u))) (member_row J) (members J)
    (λ q h. quiet_row J by m (Join p a u) q (among_apart (members J) q p h fresh)) i
    ++ joined_row v t J by m p a u l fresh i ∷ [])

-- ---- the member that a reply comes from

-- what stands with it is the ask that is answered
pub replied_stands : (J : History) (n : ℕ) (x : Asked) → ReplyTold J n x → AsksStand J → standing J x.member
    ≡ Some (record { number = n; kind = x.kind; direction = x.direction })
replied_stands J n x told ih = decide (standing J x.member) refl (both (nat_lt (void_asks J) n)
    (stands_for (standing J x.member) n) (sym (ih.outstanding n ∙ ap (stands_yet J n) told.asked) ∙ told.outstanding)).1
  where
    decide : (o : Option Standing) → standing J x.member ≡ o → stands_for o n ≡ true → o
        ≡ Some (record { number = n; kind = x.kind; direction = x.direction })
    decide None e h = absurd cc
    decide (Some s) e h =
        let number : s.number ≡ n = eqb-true s.number n h in
        let same : asked_of x.member s ≡ x = same_Some (asked_of x.member s) x
        (sym (ih.stands x.member s e) ∙ ap (ask_of J) number ∙ told.asked) in
        λ i. Some (record { number = number i; kind = (same i).kind; direction = (same i).direction })

-- with no other member it stands
pub stands_alone : (J : History) (n : ℕ) (x : Asked) → ReplyTold J n x → AsksStand J → (q : ℕ) → (x.member == q) ≡ false
    → stands_for (standing J q) n ≡ false
stands_alone J n x told ih q h = decide (standing J q) refl
  where
    decide : (o : Option Standing) → standing J q ≡ o → stands_for o n ≡ false
    decide None e = refl
    decide (Some s) e = either (s.number == n) refl
      where
        either : (b : Bool) → (s.number == n) ≡ b → b ≡ false
        either false g = refl
        either true g =
            let same : asked_of q s ≡ x = same_Some (asked_of q s) x (sym (ih.stands q s e)
            ∙ ap (ask_of J) (eqb-true s.number n g) ∙ told.asked) in
            let t : (x.member == q) ≡ true = ap (λ (y : Asked). y.member == q) (sym same) ∙ eqb_self q in
            absurd (let u : true ≡ false = sym t ∙ h in cc)

range_place : (n : ℕ) (g : ℕ → MemberRow) (a k i p : ℕ) → i < k → p ≡ a + i → stands_as n (g p) ≡ true
    → ((q : ℕ) → (p == q) ≡ false → stands_as n (g q) ≡ false) → place_of n (map g (range_with_len a k)) ≡ suc i
range_place n g a zero i p h e here others = absurd (omega arith)
range_place n g a (suc k) zero p h e here others = rw
    (ap (λ (q : ℕ). stands_as n (g q)) (let x : a ≡ p = omega arith in x) ∙ here) refl
range_place n g a (suc k) (suc i) p h e here others =
    let ih = range_place n g (a + 1) k i p (omega arith) (omega arith) here others in
    let out : stands_as n (g a) ≡ false = others a (ne_eqb p a (λ x. omega arith)) in
    rw (out, ih) refl

-- the place of the row in which an ask stands is its member
pub place_is : (n : ℕ) (g : ℕ → MemberRow) (ns : List ℕ) (p : ℕ) → IsNumbered ns → is_among ns p ≡ true
    → stands_as n (g p) ≡ true → ((q : ℕ) → (p == q) ≡ false → stands_as n (g q) ≡ false) → place_of n (map g ns) ≡ p
place_is n g ns zero h there here others = absurd (let x = numbered_among ns h 0 there in omega arith)
place_is n g ns (suc i) h there here others =
    let x = numbered_among ns h (suc i) there in
    ap (λ (ms : List ℕ). place_of n (map g ms)) h ∙ range_place n g 1 (length ns) i (suc i) (omega arith) (omega arith)
    here others
