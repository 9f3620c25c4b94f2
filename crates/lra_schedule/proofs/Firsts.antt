-- The first of some moments is what the history's words choose.
use Rattle.std.proofs.Common.{◌≡◌, ℕ, zero, suc, ◌+◌, ◌≤◌, ◌<◌, Bool, true, false, List, [], ◌∷◌, length, Option, Some}
use Rattle.std.proofs.Common.{None, refl, sym, ap, ◌∙◌, cond, arith, subst, inl, inr}
use Rattle.std.proofs.lemmas.Bool.{lt-leb, le-leb, cases_eq}
use Rattle.std.specs.Prelude.{nat_le, ◌==◌, ◌&&◌, not, option_map, ◌↔◌, IsNone, IfSome}
use Rattle.std.specs.List.{filter_map, cons_option, range_with_len}
use Rattle.std.specs.FinMap as map
use Rattle.lra_model.specs.declared.asks.AskKind.{AskKind}
use Rattle.lra_model.specs.Words.{when, is_active}
use Rattle.lra_model.specs.Actions.{limit_in_force}
use Rattle.lra_model.specs.Ends.{action_is}
use Rattle.lra_model.specs.Wants.{wants, repeat_count, last_repeat}
use Rattle.lra_model.specs.History.{History, actions, members, is_among}
use Rattle.lra_laws.proofs.Legal.{IsNumbered, numbered_among, actions_numbered, members_numbered}
use Rattle.lra_timers.specs.Moments.{Moments, IsFirstDue, NoneDue}
use Rattle.lra_timers.specs.Planned.{Planned}
use Rattle.lra_commands.specs.declared.limits.Limits.{Limits}
use Rattle.lra_commands.specs.Due.{Timed, due_after, stage_wanted, earlier, earliest, first_due, want_of, deadline_of}
use Rattle.lra_commands.specs.Due.{due, late}
use Rattle.lra_schedule.specs.Schedules.{moment_of, IsScheduleOf}
use Rattle.lra_schedule.proofs.Found.{wants_there, limit_there}

-- those whose moment has come
abbrev come : ℕ → List Timed → List Timed
come now xs = filter_map (λ (x : Timed). when (nat_le x.moment now) x) xs

module _ (f : ℕ → Option Timed) (now : ℕ) where
  -- where no moment has come, none is chosen
  none_come : (ns : List ℕ) → ((n : ℕ) (x : Timed) → f n ≡ Some x → now < x.moment) → come now (filter_map f ns) ≡ []
  none_come [] early = refl
  none_come (n ∷ ns) early = one (f n) refl (none_come ns early)
    where
      one : (o : Option Timed) → f n ≡ o → come now (filter_map f ns) ≡ [] → come now (cons_option o (filter_map f ns))
          ≡ []
      one None e rest = rest
      one (Some x) e rest = ap (λ (b : Bool). cons_option (when b x) (come now (filter_map f ns)))
          (lt-leb x.moment now (early n x e)) ∙ rest

  -- the earliest of those that have come is no earlier than one that none is earlier than
  module _ (w : Timed) (least : (n : ℕ) (x : Timed) → f n ≡ Some x → w.moment ≤ x.moment) where
    not_earlier : (ns : List ℕ) (y : Timed) → earliest (come now (filter_map f ns)) ≡ Some y → w.moment ≤ y.moment
    not_earlier [] y e = absurd cc
    not_earlier (n ∷ ns) y e = one (f n) refl e (not_earlier ns)
      where
        two : (x : Timed) → w.moment ≤ x.moment → (o : Option Timed) → ((z : Timed) → o ≡ Some z → w.moment ≤ z.moment)
            → ◌≡◌ {A = Option Timed} (Some (earlier x o)) (Some y) → w.moment ≤ y.moment
        two x h None rest g = let same : x ≡ y = cc in subst (λ (z : Timed). w.moment ≤ z.moment) same h
        two x h (Some z) rest g = three (nat_le x.moment z.moment) g
          where
            three : (b : Bool) → ◌≡◌ {A = Option Timed} (Some (cond b x z)) (Some y) → w.moment ≤ y.moment
            three true i = let same : x ≡ y = cc in subst (λ (u : Timed). w.moment ≤ u.moment) same h
            three false i = let same : z ≡ y = cc in subst (λ (u : Timed). w.moment ≤ u.moment) same (rest z refl)

        one : (o : Option Timed) → f n ≡ o → earliest (come now (cons_option o (filter_map f ns))) ≡ Some y
            → ((z : Timed) → earliest (come now (filter_map f ns)) ≡ Some z → w.moment ≤ z.moment) → w.moment ≤ y.moment
        one None g i rest = rest y i
        one (Some x) g i rest = four (nat_le x.moment now) i
          where
            four : (b : Bool) → earliest (cons_option (when b x) (come now (filter_map f ns))) ≡ Some y → w.moment
                ≤ y.moment
            four true j = two x (least n x g) (earliest (come now (filter_map f ns))) rest j
            four false j = rest y j

  -- of the numbers from a on, the one that comes first is chosen
  module _ (number : ℕ) (w : Timed) (is : f number ≡ Some w) (due : w.moment ≤ now)
      (least : (n : ℕ) (x : Timed) → f n ≡ Some x → (w.moment ≤ x.moment) × (w.moment ≡ x.moment → number ≤ n)) where
    chosen : (a k : ℕ) → a ≤ number → number < a + k → earliest (come now (filter_map f (range_with_len a k))) ≡ Some w
    chosen a zero low high = absurd (omega arith)
    chosen a (suc k) low high = elim
        (cases_eq a number) [
          | inl same ↦ here same
          | inr other ↦
              (let lower : a < number = omega arith in later lower (chosen (a + 1) k (omega arith) (omega arith)))
        ]
      where
        tail : List Timed
        tail = come now (filter_map f (range_with_len (a + 1) k))

        first_of : (o : Option Timed) → ((y : Timed) → o ≡ Some y → w.moment ≤ y.moment) → Some (earlier w o) ≡ Some w
        first_of None h = refl
        first_of (Some y) h = ap (λ (b : Bool). Some (cond b w y)) (le-leb w.moment y.moment (h y refl))

        here : a ≡ number → earliest (come now (filter_map f (range_with_len a (suc k)))) ≡ Some w
        here same =
            ap (λ (o : Option Timed). earliest (come now (cons_option o (filter_map f (range_with_len (a + 1) k)))))
            (ap f same ∙ is)
            ∙ ap (λ (b : Bool). earliest (cons_option (when b w) tail)) (le-leb w.moment now due)
            ∙ first_of (earliest tail) (not_earlier w (λ n x e. (least n x e).0) (range_with_len (a + 1) k))

        after : (x : Timed) → f a ≡ Some x → a < number → earliest tail ≡ Some w → (b : Bool)
            → earliest (cons_option (when b x) tail) ≡ Some w
        after x e lower rest false = rest
        after x e lower rest true =
            let first = least a x e in
            let no_later = first.0 in
            let behind : w.moment < x.moment = elim
            (cases_eq w.moment x.moment) [
              | inl same ↦ (let k = first.1 same in absurd (omega arith))
              | inr other ↦
                  omega arith
            ] in
            ap (λ (o : Option Timed). Some (earlier x o)) rest ∙ ap (λ (b : Bool). Some (cond b x w))
            (lt-leb x.moment w.moment behind)

        later : a < number → earliest tail ≡ Some w → earliest (come now (filter_map f (range_with_len a (suc k))))
            ≡ Some w
        later lower rest = one (f a) refl
          where
            one : (o : Option Timed) → f a ≡ o
                → earliest (come now (cons_option o (filter_map f (range_with_len (a + 1) k)))) ≡ Some w
            one None e = rest
            one (Some x) e = after x e lower rest (nat_le x.moment now)

-- ---- by a map of the moments

-- what has this moment of a number
record Found (o : Option Timed) (moment : ℕ) : Type 0 where
  timed : Timed
  is : o ≡ Some timed
  same : timed.moment ≡ moment

found : (o : Option Timed) (moment : ℕ) → moment_of o ≡ Some moment → Found o moment
found None moment h = absurd cc
found (Some x) moment h = record { timed = x; is = refl; same = cc }

module _ (moments : Moments) (f : ℕ → Option Timed) (ns : List ℕ) where
  -- the map has these moments, each of its own number, and of one that is listed; and the numbers are listed in order
  pub record Has : Type 0 where
    has : (n : ℕ) → map.get moments n ≡ moment_of (f n)
    number : (n : ℕ) (x : Timed) → f n ≡ Some x → x.number ≡ n
    there : (n moment : ℕ) → moment_of (f n) ≡ Some moment → is_among ns n ≡ true
    numbered : IsNumbered ns

  moment_here : Has → (n : ℕ) (x : Timed) → f n ≡ Some x → map.get moments n ≡ Some x.moment
  moment_here h n x e = h.has n ∙ ap moment_of e

  first_none : Has → (now : ℕ) → NoneDue moments now → None ≡ first_due now (filter_map f ns)
  first_none h now none =
      sym (ap (λ (xs : List Timed). option_map (λ (x : Timed). x.number) (earliest xs))
      (none_come f now ns (λ n x e. none n x.moment (moment_here h n x e))))

  first_some : Has → (now n : ℕ) → IsFirstDue moments now n → Some n ≡ first_due now (filter_map f ns)
  first_some h now n first =
      let seen = found (f n) first.moment (sym (h.has n) ∙ first.has) in
      let within = numbered_among ns h.numbered n (h.there n first.moment (sym (h.has n) ∙ first.has)) in
      let due : seen.timed.moment ≤ now = omega (arith, first.due, seen.same) in
      let is_chosen = chosen f now n seen.timed seen.is due (least seen) 1 (length ns) within.0
      (omega (arith, within.1)) in
      sym (ap (λ (ms : List ℕ). first_due now (filter_map f ms)) h.numbered
      ∙ ap (option_map (λ (x : Timed). x.number)) is_chosen ∙ ap (λ (k : ℕ). some k)
      (h.number n seen.timed seen.is))
    where
      some : ℕ → Option ℕ
      some k = Some k

      least : (seen : Found (f n) first.moment) → (m : ℕ) (x : Timed) → f m ≡ Some x → (seen.timed.moment ≤ x.moment)
          × (seen.timed.moment ≡ x.moment → n ≤ m)
      least seen m x e =
          let known = first.least m x.moment (moment_here h m x e) in
          (omega (arith, known.0, seen.same), λ same. omega (arith, known.1 (sym seen.same ∙ same)))

  -- what finds the first of the map finds the first of the list
  pub first_is : Has → (now : ℕ) (r : Option ℕ) → (IsNone r ↔ NoneDue moments now) → IfSome r (IsFirstDue moments now)
      → r ≡ first_due now (filter_map f ns)
  first_is h now None none first = first_none h now (none.0 refl)
  first_is h now (Some n) none first = first_some h now n first

-- ---- of a history

retry_number : (l : Limits) (J : History) (p : ℕ) (x : Timed) → want_of l J p ≡ Some x → x.number ≡ p
retry_number l J p x h = one (wants J p) h
  where
    timed : AskKind → Timed
    timed kind = record {
      number = p;
      moment = due_after l (repeat_count J p (stage_wanted J p kind))
          (last_repeat J p (stage_wanted J p kind));
    }

    one : (o : Option AskKind) → option_map timed o ≡ Some x → x.number ≡ p
    one None e = absurd cc
    one (Some kind) e = let same : timed kind ≡ x = cc in sym (ap (λ (y : Timed). y.number) same)

limit_number : (J : History) (a : ℕ) (x : Timed) → deadline_of J a ≡ Some x → x.number ≡ a
limit_number J a x h = one (action_is is_active J a && not ((limit_in_force J a).length_of == 0)) h
  where
    timed : Timed
    timed = record { number = a; moment = (limit_in_force J a).since + (limit_in_force J a).length_of }

    one : (b : Bool) → when b timed ≡ Some x → x.number ≡ a
    one false e = absurd cc
    one true e = let same : timed ≡ x = cc in sym (ap (λ (y : Timed). y.number) same)

pub due_is : (l : Limits) (J : History) (now : ℕ) (s : Planned) (r : Option ℕ) → IsScheduleOf l s J
    → (IsNone r ↔ NoneDue s.retries now) → IfSome r (IsFirstDue s.retries now) → r ≡ due l J now
unfolding due
due_is l J now s r h none first =
    first_is s.retries (want_of l J) (members J)
    (record {
      has = h.retries;
      number = retry_number l J;
      there = wants_there l J;
      numbered =
          members_numbered h.version h.is_address J h.legal;
    }) now r none first

pub late_is : (l : Limits) (J : History) (now : ℕ) (s : Planned) (r : Option ℕ) → IsScheduleOf l s J
    → (IsNone r ↔ NoneDue s.limits now) → IfSome r (IsFirstDue s.limits now) → r ≡ late J now
unfolding late
late_is l J now s r h none first =
    first_is s.limits (deadline_of J) (actions J)
    (record {
      has = h.limits;
      number = limit_number J;
      there = limit_there h.version h.is_address J h.legal;
      numbered = actions_numbered h.version h.is_address J h.legal;
    }) now r none first
