-- Asks of a legal history: which are there, and what a reply that is allowed answers.
use Rattle.std.proofs.Common.{◌≡◌, ℕ, Bool, true, false, List, [], ◌∷◌, ◌++◌, Option, Some, None, refl, sym, ap, ◌∙◌}
use Rattle.std.proofs.Common.{cond, eqb-true, eq-eqb}
use Rattle.std.specs.Prelude.{◌==◌, ◌||◌, is_some, unwrap_or, option_map}
use Rattle.std.specs.Option.{option_or, option_map_or}
use Rattle.std.proofs.Math.Bool.{or-false, or-true}
use Rattle.lra_model.specs.declared.version.Version.{Version}
use Rattle.lra_model.specs.declared.asks.AskKind.{AskKind}
use Rattle.lra_model.specs.declared.asks.Outcome.{Outcome}
use Rattle.lra_model.specs.declared.entry.Deed.{Deed}
use Rattle.lra_model.specs.declared.entry.Deed.TheVariants.{Ask, Reply, Restart}
use Rattle.lra_model.specs.declared.entry.Entry.{Entry}
use Rattle.lra_model.specs.Words.{when, outcome_suits}
use Rattle.lra_model.specs.History.{History, steps, asked_by, members, asks, is_among}
use Rattle.lra_model.specs.Members.{Asked, asked_at, ask_of, ask_direction, standing_given, is_outstanding}
use Rattle.lra_model.specs.Facts.{facts_of}
use Rattle.lra_model.specs.Tests.{may_reply}
use Rattle.lra_model.specs.Rules.{is_legal}
use Rattle.lra_laws.proofs.Push.{step, asks_push, ask_of_push, is_outstanding_push}
use Rattle.lra_laws.proofs.Legal.{Allowed, snoc_induction, legal_induction, among_push}
use Rattle.lra_laws.proofs.Named.{member_there_push}
use Rattle.lra_laws.proofs.Named.{members_named, members_named_there}

-- an ask that is outstanding is there
pub outstanding_there : (J : History) (n : ℕ) → is_outstanding J n ≡ true → is_among (asks J) n ≡ true
unfolding is_outstanding
outstanding_there J n = snoc_induction (λ K. is_outstanding K n ≡ true → is_among (asks K) n ≡ true) (λ h. absurd cc)
    push J
  where
    after : (K : History) (d : Deed) → (is_outstanding K n ≡ true → is_among (asks K) n ≡ true)
        → unwrap_or (standing_given n d) (is_outstanding K n) ≡ true →
        (is_among (asks K) n || option_map_or (λ m. m == n) (asked_by d) false) ≡ true
    after K (Ask m p kind) ih h = one (m == n) h
      where
        one : (b : Bool) → unwrap_or (when b true) (is_outstanding K n) ≡ true → (is_among (asks K) n || b) ≡ true
        one true g = or-true (is_among (asks K) n)
        one false g = or-false (is_among (asks K) n) ∙ ih g
    after K (Reply m o) ih h = one (m == n) h
      where
        one : (b : Bool) → unwrap_or (when b false) (is_outstanding K n) ≡ true → (is_among (asks K) n || false) ≡ true
        one true g = absurd cc
        one false g = or-false (is_among (asks K) n) ∙ ih g
    after K Restart ih h = absurd cc
    after K _ ih h = or-false (is_among (asks K) n) ∙ ih h

    push : (K : History) (e : Entry) → (is_outstanding K n ≡ true → is_among (asks K) n ≡ true)
        → is_outstanding (K ++ e ∷ []) n ≡ true → is_among (asks (K ++ e ∷ [])) n ≡ true
    push K e ih h = ap (λ (ns : List ℕ). is_among ns n) (asks_push K e) ∙ among_push (asks K) (asked_by e.deed) n
        ∙ after K e.deed ih (sym (is_outstanding_push K e n) ∙ h)

-- an ask can be looked up exactly where it is there
pub ask_of_there : (J : History) (n : ℕ) → is_some (ask_of J n) ≡ is_among (asks J) n
unfolding ask_of asks steps
ask_of_there J n = snoc_induction (λ K. is_some (ask_of K n) ≡ is_among (asks K) n) refl push J
  where
    either : (o p : Option Asked) → is_some (option_or o p) ≡ (is_some o || is_some p)
    either None p = refl
    either (Some x) p = refl

    new : (K : History) (by m : ℕ) (d : Deed) → is_some (option_map_or (λ (a : Asked). when (a.number == n) a)
        (asked_at (step K (record { by = by; moment = m; deed = d }))) None)
        ≡ option_map_or (λ m. m == n) (asked_by d) false
    new K by m (Ask k p kind) = one (k == n)
      where
        one : (b : Bool) → is_some (when b
            (let a : Asked = record { number = k; member = p; kind = kind; direction = ask_direction K p kind } in a))
            ≡ b
        one true = refl
        one false = refl
    new K by m _ = refl

    push : (K : History) (e : Entry) → is_some (ask_of K n) ≡ is_among (asks K) n → is_some (ask_of (K ++ e ∷ []) n)
        ≡ is_among (asks (K ++ e ∷ [])) n
    push K e ih =
        ap (λ (o : Option Asked). is_some o) (ask_of_push K e n) ∙ either (ask_of K n)
        (option_map_or (λ (a : Asked). when (a.number == n) a) (asked_at (step K e)) None)
        ∙ ap (λ (b : Bool). b || is_some (option_map_or (λ (a : Asked). when (a.number == n) a) (asked_at (step K e))
        None)) ih
        ∙ ap (λ (b : Bool). is_among (asks K) n || b) (new K e.by e.moment e.deed)
        ∙ sym (ap (λ (ns : List ℕ). is_among ns n) (asks_push K e) ∙ among_push (asks K) (asked_by e.deed) n)

-- an ask that is there has its number, and is of a member that is there
pub record AskThere (J : History) (n : ℕ) (a : Asked) : Type 0 where
  pub number : a.number ≡ n
  pub member : is_among (members J) a.member ≡ true

pub ask_there : (v : Version) (t : List ℕ → Bool) (J : History) → is_legal v t J ≡ true → (n : ℕ) (a : Asked)
    → ask_of J n ≡ Some a → AskThere J n a
unfolding ask_of steps
ask_there v t = legal_induction v t (λ J. (n : ℕ) (a : Asked) → ask_of J n ≡ Some a → AskThere J n a)
    (λ n a h. absurd cc) push
  where
    new : (J : History) (by m : ℕ) (d : Deed) → ((p : ℕ) → is_among (members_named d) p ≡ true → is_among (members J) p
        ≡ true) → (n : ℕ) (a : Asked)
        → option_map_or (λ (x : Asked). when (x.number == n) x) (asked_at
        (step J (record { by = by; moment = m; deed = d }))) None ≡ Some a → (a.number ≡ n)
        × (is_among (members J) a.member ≡ true)
    new J by m (Ask k p kind) there n a h = one (k == n) refl h
      where
        one : (b : Bool) → (k == n) ≡ b
            → when b (let x : Asked = record {
              number = k;
              member = p;
              kind = kind;
              direction = ask_direction J p kind;
            } in x) ≡ Some a → (a.number ≡ n)
            × (is_among (members J) a.member ≡ true)
        one true g i =
            let x : Asked = record { number = k; member = p; kind = kind; direction = ask_direction J p kind } in
            let e : x ≡ a = cc in (
              sym (ap (λ (y : Asked). y.number) e) ∙ eqb-true k n g,
              ap (λ (y : Asked). is_among (members J) y.member)
                  (sym e) ∙ there p (ap (λ (c : Bool). c || false) (eq-eqb p p refl)),
            )
        one false g i = absurd cc
    new J by m _ there n a h = absurd cc

    push : (J : History) (e : Entry) → is_legal v t J ≡ true → Allowed v t J e
        → ((n : ℕ) (a : Asked) → ask_of J n ≡ Some a → AskThere J n a) → (n : ℕ) (a : Asked) → ask_of (J ++ e ∷ []) n
        ≡ Some a → AskThere (J ++ e ∷ []) n a
    push J e l k ih n a h = either (ask_of J n) refl (sym (ask_of_push J e n) ∙ h)
      where
        either : (o : Option Asked) → ask_of J n ≡ o → option_or o (option_map_or
            (λ (x : Asked). when (x.number == n) x) (asked_at (step J e)) None) ≡ Some a → AskThere (J ++ e ∷ []) n a
        either (Some y) i j = let old = ih n a (i ∙ j) in
            record { number = old.number; member = member_there_push J e a.member old.member }
        either None i j =
            let r = new J e.by e.moment e.deed (members_named_there v t J e.by e.moment e.deed k) n a j in
            record { number = r.0; member = member_there_push J e a.member r.1 }

-- what an allowed reply answers: an ask that is outstanding, in a way that suits its kind
pub record ReplyFits (J : History) (n : ℕ) (o : Outcome) : Type 0 where
  pub ask : Asked
  pub is : ask_of J n ≡ Some ask
  pub stands : is_outstanding J n ≡ true
  pub suits : outcome_suits ask.kind o ≡ true

pub reply_answers : (J : History) (n : ℕ) (o : Outcome) → may_reply (facts_of J) n o ≡ true → ReplyFits J n o
unfolding facts_of
reply_answers J n o h = one (is_outstanding J n) refl (ask_of J n) refl h
  where
    one : (b : Bool) → is_outstanding J n ≡ b → (x : Option Asked) → ask_of J n ≡ x
        → option_map_or (λ (kind : AskKind). outcome_suits kind o) (cond b (option_map (λ (a : Asked). a.kind) x) None)
        false ≡ true → ReplyFits J n o
    one true g (Some a) e i = record { ask = a; is = e; stands = g; suits = i }
    one true g None e i = absurd cc
    one false g x e i = absurd cc
