-- The action that is late is Active, and its limit has passed.
use Rattle.std.proofs.Common.{◌≡◌, ℕ, ◌+◌, Bool, true, false, List, [], ◌∷◌, Option, Some, None, refl, sym, ap, ◌∙◌}
use Rattle.std.proofs.Common.{subst, cond}
use Rattle.std.specs.Prelude.{◌==◌, ◌&&◌, not, nat_le, option_map}
use Rattle.std.specs.List.{filter_map, cons_option}
use Rattle.lra_model.specs.Words.{when, is_active}
use Rattle.lra_model.specs.History.{History, actions}
use Rattle.lra_model.specs.Actions.{limit_in_force}
use Rattle.lra_model.specs.Ends.{action_is}
use Rattle.lra_laws.proofs.Tested.{both}
use Rattle.lra_commands.specs.Due.{Timed, earlier, earliest, first_due, deadline_of, late}

-- what holds of each of these
abbrev Each : (Timed → Type 0) → List Timed → Type 0
Each P [] = Unit {0}
Each P (x ∷ xs) = P x × Each P xs

each_read : {X : Type 0} (P : Timed → Type 0) (h : X → Option Timed) → ((x : X) (y : Timed) → h x ≡ Some y → P y)
    → (xs : List X) → Each P (filter_map h xs)
each_read P h from [] = tt
each_read {X = X} P h from (x ∷ xs) = one (h x) refl (each_read P h from xs)
  where
    one : (o : Option Timed) → h x ≡ o → Each P (filter_map h xs) → Each P (cons_option o (filter_map h xs))
    one None g rest = rest
    one (Some y) g rest = (from x y g, rest)

each_chosen : (P : Timed → Type 0) (test : Timed → Bool) (xs : List Timed) → Each P xs
    → Each (λ x. P x × (test x ≡ true)) (filter_map (λ (x : Timed). when (test x) x) xs)
each_chosen P test [] h = tt
each_chosen P test (x ∷ xs) h = one (test x) refl (each_chosen P test xs h.1)
  where
    one : (b : Bool) → test x ≡ b → Each (λ y. P y × (test y ≡ true)) (filter_map (λ (y : Timed). when (test y) y) xs)
        → Each (λ y. P y × (test y ≡ true)) (cons_option (when b x) (filter_map (λ (y : Timed). when (test y) y) xs))
    one true g rest = ((h.0, g), rest)
    one false g rest = rest

-- the earliest is one of them
each_earliest : (P : Timed → Type 0) (xs : List Timed) → Each P xs → (x : Timed) → earliest xs ≡ Some x → P x
each_earliest P [] h x g = absurd cc
each_earliest P (y ∷ ys) h x g = one (earliest ys) (each_earliest P ys h.1) g
  where
    moved : (z : Timed) → P z → ◌≡◌ {A = Option Timed} (Some z) (Some x) → P x
    moved z p e = let same : z ≡ x = cc in subst P same p

    two : (b : Bool) (z : Timed) → P z → ◌≡◌ {A = Option Timed} (Some (cond b y z)) (Some x) → P x
    two true z p e = moved y h.0 e
    two false z p e = moved z p e

    one : (o : Option Timed) → ((z : Timed) → o ≡ Some z → P z) → Some (earlier y o) ≡ Some x → P x
    one None rest e = moved y h.0 e
    one (Some z) rest e = two (nat_le y.moment z.moment) z (rest z refl) e

-- what is due first has come
due_has_come : (P : Timed → Type 0) (now : ℕ) (xs : List Timed) → Each P xs → (n : ℕ) → first_due now xs ≡ Some n
    → (x : Timed) × (P x × (nat_le x.moment now ≡ true)) × (x.number ≡ n)
due_has_come P now xs h n g = one (earliest chosen) refl g
  where
    chosen : List Timed
    chosen = filter_map (λ (x : Timed). when (nat_le x.moment now) x) xs

    one : (o : Option Timed) → earliest chosen ≡ o → option_map (λ (x : Timed). x.number) o ≡ Some n → (x : Timed)
        × (P x × (nat_le x.moment now ≡ true)) × (x.number ≡ n)
    one None e i = absurd cc
    one (Some x) e i = (
      x,
      each_earliest (λ y. P y × (nat_le y.moment now ≡ true)) chosen
          (each_chosen P (λ y. nat_le y.moment now) xs h) x e,
      cc,
    )

-- what is known of an action that is late
pub record IsLate (J : History) (m a : ℕ) : Type 0 where
  pub active : action_is is_active J a ≡ true
  pub limited : not ((limit_in_force J a).length_of == 0) ≡ true
  pub passed : nat_le ((limit_in_force J a).since + (limit_in_force J a).length_of) m ≡ true

-- a deadline, as it is known of its action
record IsDeadline (J : History) (x : Timed) : Type 0 where
  active : action_is is_active J x.number ≡ true
  limited : not ((limit_in_force J x.number).length_of == 0) ≡ true
  moment : x.moment ≡ (limit_in_force J x.number).since + (limit_in_force J x.number).length_of

deadline_is : (J : History) (a : ℕ) (x : Timed) → deadline_of J a ≡ Some x → IsDeadline J x
deadline_is J a x h = one (action_is is_active J a && not ((limit_in_force J a).length_of == 0)) refl h
  where
    y : Timed
    y = record { number = a; moment = (limit_in_force J a).since + (limit_in_force J a).length_of }

    one : (b : Bool) → (action_is is_active J a && not ((limit_in_force J a).length_of == 0)) ≡ b → when b y ≡ Some x
        → IsDeadline J x
    one true g i =
        let k = both (action_is is_active J a) (not ((limit_in_force J a).length_of == 0)) g in
        let d : IsDeadline J y = record { active = k.0; limited = k.1; moment = refl } in
        let same : y ≡ x = cc in
        subst (λ (z : Timed). IsDeadline J z) same d
    one false g i = absurd cc

pub late_is : (J : History) (m a : ℕ) → late J m ≡ Some a → IsLate J m a
unfolding late
late_is J m a h =
    let r = due_has_come (IsDeadline J) m (filter_map (deadline_of J) (actions J))
    (each_read (IsDeadline J) (deadline_of J) (deadline_is J) (actions J)) a h in
    let d = r.1.0 in
    let l : IsLate J m r.0.number = record {
      active = d.active;
      limited = d.limited;
      passed =
          ap (λ (n : ℕ). nat_le n m) (sym d.moment) ∙ r.1.1;
    } in
    subst (λ (n : ℕ). IsLate J m n) r.2 l
