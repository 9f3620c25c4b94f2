-- Numbers of a legal history: each is such as the journal has.
use Rattle.std.proofs.Common.{◌≡◌, ℕ, ◌^◌, Bool, true, false, List, [], ◌∷◌, ◌++◌, Option, Some, None, refl, sym, ap}
use Rattle.std.proofs.Common.{◌∙◌, eqb-true, eq-eqb}
use Rattle.std.proofs.Math.Bool.{or-true}
use Rattle.std.specs.Prelude.{◌==◌, ◌&&◌, ◌||◌, nat_lt}
use Rattle.std.specs.Option.{option_map_or}
use Rattle.std.specs.List.{filter_map}
use Rattle.lra_model.specs.declared.version.Version.{Version}
use Rattle.lra_model.specs.declared.entry.Deed.{Deed}
use Rattle.lra_model.specs.declared.entry.Deed.TheVariants.{Enrol, Start, Join, Ask}
use Rattle.lra_model.specs.declared.entry.Entry.{Entry}
use Rattle.lra_model.specs.History.{History, enrolled_by, started_by, joined_by, asked_by, clerks, actions, members}
use Rattle.lra_model.specs.History.{asks, is_among, last_moment}
use Rattle.lra_model.specs.Facts.{facts_of}
use Rattle.lra_model.specs.Rules.{is_number, numbers_fit, in_range, clerk_fits, is_legal}
use Rattle.lra_laws.proofs.Push.{read_push, clerks_push, last_moment_push}
use Rattle.lra_laws.proofs.Tested.{both, and_intro}
use Rattle.lra_laws.proofs.Legal.{Allowed, entry_kept, legal_induction, among_push}

-- the numbers of an entry, one by one
pub record Ranged (e : Entry) : Type 0 where
  pub by : nat_lt e.by (2 ^ 32) ≡ true
  pub moment : is_number e.moment ≡ true
  pub deed : numbers_fit e.deed ≡ true

pub ranged : (e : Entry) → in_range e ≡ true → Ranged e
ranged e h =
    let k = both (nat_lt e.by (2 ^ 32) && is_number e.moment) (numbers_fit e.deed) h in
    let l = both (nat_lt e.by (2 ^ 32)) (is_number e.moment) k.0 in
    record { by = l.0; moment = l.1; deed = k.1 }

pub in_range_from : (e : Entry) → Ranged e → in_range e ≡ true
in_range_from e r = and_intro (nat_lt e.by (2 ^ 32) && is_number e.moment) (numbers_fit e.deed)
    (and_intro (nat_lt e.by (2 ^ 32)) (is_number e.moment) r.by r.moment) r.deed

-- numbers that are read of entries pass a test, where each entry that is in range gives one that does
named_fits : (v : Version) (t : List ℕ → Bool) (read : Entry → Option ℕ) (test : ℕ → Bool)
    → ((e : Entry) → in_range e ≡ true → (n : ℕ) → read e ≡ Some n → test n ≡ true)
    → (J : History) → is_legal v t J ≡ true → (n : ℕ) → is_among (filter_map read J) n ≡ true → test n ≡ true
named_fits v t read test fits = legal_induction v t (λ J. (n : ℕ) → is_among (filter_map read J) n ≡ true → test n
    ≡ true) (λ n h. absurd cc) push
  where
    push : (J : History) (e : Entry) → is_legal v t J ≡ true → Allowed v t J e
        → ((n : ℕ) → is_among (filter_map read J) n ≡ true → test n ≡ true) → (n : ℕ)
        → is_among (filter_map read (J ++ e ∷ [])) n ≡ true → test n ≡ true
    push J e l k ih n h = either (is_among (filter_map read J) n) refl (read e) refl
        (sym (ap (λ (ns : List ℕ). is_among ns n) (read_push read J e) ∙ among_push (filter_map read J) (read e) n) ∙ h)
      where
        either : (b : Bool) → is_among (filter_map read J) n ≡ b → (o : Option ℕ) → read e ≡ o
            → (b || option_map_or (λ m. m == n) o false) ≡ true → test n ≡ true
        either true g o i j = ih n g
        either false g (Some m) i j = ap test (sym (eqb-true m n j)) ∙ fits e k.ranged m i
        either false g None i j = absurd cc

pub clerk_in_range : (v : Version) (t : List ℕ → Bool) (J : History) → is_legal v t J ≡ true → (n : ℕ)
    → is_among (clerks J) n ≡ true → nat_lt n (2 ^ 32) ≡ true
unfolding clerks
clerk_in_range v t = named_fits v t enrolled_by (λ n. nat_lt n (2 ^ 32))
    (λ e h n g. fits e.by e.moment e.deed (ranged e h).by n g)
  where
    fits : (by m : ℕ) (d : Deed) → nat_lt by (2 ^ 32) ≡ true → (n : ℕ)
        → enrolled_by (record { by = by; moment = m; deed = d }) ≡ Some n → nat_lt n (2 ^ 32) ≡ true
    fits by m Enrol h n g = let e : by ≡ n = cc in ap (λ (k : ℕ). nat_lt k (2 ^ 32)) (sym e) ∙ h
    fits by m _ h n g = absurd cc

pub action_in_range : (v : Version) (t : List ℕ → Bool) (J : History) → is_legal v t J ≡ true → (n : ℕ)
    → is_among (actions J) n ≡ true → is_number n ≡ true
unfolding actions
action_in_range v t = named_fits v t (λ (e : Entry). started_by e.deed) is_number
    (λ e h n g. fits e.deed (ranged e h).deed n g)
  where
    fits : (d : Deed) → numbers_fit d ≡ true → (n : ℕ) → started_by d ≡ Some n → is_number n ≡ true
    fits (Start a parent limit) h n g =
        let e : a ≡ n = cc in
        let k = both (is_number a && option_map_or is_number parent true) (is_number limit) h in
        ap is_number (sym e) ∙ (both (is_number a) (option_map_or is_number parent true) k.0).0
    fits _ h n g = absurd cc

pub member_in_range : (v : Version) (t : List ℕ → Bool) (J : History) → is_legal v t J ≡ true → (n : ℕ)
    → is_among (members J) n ≡ true → is_number n ≡ true
unfolding members
member_in_range v t = named_fits v t (λ (e : Entry). joined_by e.deed) is_number
    (λ e h n g. fits e.deed (ranged e h).deed n g)
  where
    fits : (d : Deed) → numbers_fit d ≡ true → (n : ℕ) → joined_by d ≡ Some n → is_number n ≡ true
    fits (Join p a uris) h n g = let e : p ≡ n = cc in ap is_number (sym e) ∙ (both (is_number p) (is_number a) h).0
    fits _ h n g = absurd cc

pub ask_in_range : (v : Version) (t : List ℕ → Bool) (J : History) → is_legal v t J ≡ true → (n : ℕ)
    → is_among (asks J) n ≡ true → is_number n ≡ true
unfolding asks
ask_in_range v t = named_fits v t (λ (e : Entry). asked_by e.deed) is_number
    (λ e h n g. fits e.deed (ranged e h).deed n g)
  where
    fits : (d : Deed) → numbers_fit d ≡ true → (n : ℕ) → asked_by d ≡ Some n → is_number n ≡ true
    fits (Ask k p kind) h n g = let e : k ≡ n = cc in ap is_number (sym e) ∙ (both (is_number k) (is_number p) h).0
    fits _ h n g = absurd cc

pub last_moment_in_range : (v : Version) (t : List ℕ → Bool) (J : History) → is_legal v t J ≡ true
    → is_number (last_moment J) ≡ true
unfolding last_moment
last_moment_in_range v t = legal_induction v t (λ J. is_number (last_moment J) ≡ true) refl
    (λ J e l k ih. ap is_number (last_moment_push J e) ∙ (ranged e k.ranged).moment)

-- a clerk that is there stays there
pub clerk_there_push : (J : History) (e : Entry) (n : ℕ) → is_among (clerks J) n ≡ true
    → is_among (clerks (J ++ e ∷ [])) n ≡ true
clerk_there_push J e n h =
    ap (λ (ns : List ℕ). is_among ns n) (clerks_push J e) ∙ among_push (clerks J) (enrolled_by e) n
    ∙ ap (λ (b : Bool). b || option_map_or (λ m. m == n) (enrolled_by e) false) h

-- the clerk that writes an entry is there after it
pub writer_there : (v : Version) (t : List ℕ → Bool) (J : History) (by m : ℕ) (d : Deed)
    → Allowed v t J (record { by = by; moment = m; deed = d }) → is_among
    (clerks (J ++ record { by = by; moment = m; deed = d } ∷ [])) by ≡ true
unfolding facts_of
writer_there v t J by m d k =
    ap (λ (ns : List ℕ). is_among ns by) (clerks_push J e) ∙ among_push (clerks J) (enrolled_by e) by
    ∙ by_deed d (entry_kept v t (facts_of J) e k.unbroken).clerk
  where
    e : Entry
    e = record { by = by; moment = m; deed = d }

    by_deed : (d : Deed) → clerk_fits (facts_of J) by d ≡ true → (is_among (clerks J) by
        || option_map_or (λ n. n == by) (enrolled_by (record { by = by; moment = m; deed = d })) false) ≡ true
    by_deed Enrol h = ap (λ (b : Bool). is_among (clerks J) by || b) (eq-eqb by by refl)
        ∙ or-true (is_among (clerks J) by)
    by_deed _ h = ap (λ (b : Bool). b || false) h
