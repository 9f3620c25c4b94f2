-- In a legal history each ask has at most one reply.
use Rattle.std.proofs.Common.{◌≡◌, ℕ, ◌+◌, ◌≤◌, ◌<◌, Bool, true, false, List, [], ◌∷◌, ◌++◌, length, refl, sym, ap, ◌∙◌}
use Rattle.std.proofs.Common.{cond, subst, arith, eqb-true, length-append}
use Rattle.std.specs.Prelude.{◌==◌, unwrap_or, count_by, option_to_list}
use Rattle.std.proofs.lemmas.List.Sums.{sum_by-cons, sum_by-append}
use Rattle.lra_model.specs.declared.entry.Deed.{Deed}
use Rattle.lra_model.specs.declared.entry.Deed.TheVariants as deed
use Rattle.lra_model.specs.declared.entry.Entry.{Entry}
use Rattle.lra_model.specs.declared.version.Version.{Version}
use Rattle.lra_model.specs.Facts.{facts_of}
use Rattle.lra_model.specs.History.{History, asks, asked_by}
use Rattle.lra_model.specs.Members.{is_outstanding}
use Rattle.lra_model.specs.Words.{when}
use Rattle.lra_laws.proofs.Push.{is_outstanding_push, asks_push}
use Rattle.lra_laws.proofs.Legal.{Allowed, legal_induction, entry_kept, reply_kept, asked_number, numbered_among}
use Rattle.lra_laws.proofs.Legal.{asks_numbered}
use Rattle.lra_laws.proofs.LegalAsks.{reply_answers, outstanding_there}
use Rattle.lra_model.specs.Rules.{is_legal}
use Rattle.lra_ids.specs.Addresses.{is_address}
use Rattle.lra_core.specs.Laws.{is_reply_to, AsksAreAnsweredOnce}

-- how often an ask was answered
abbrev answers_to : ℕ → History → ℕ
answers_to n J = count_by (λ (e : Entry). is_reply_to n e.deed) J

-- one more entry
answers_push : (n : ℕ) (J : History) (e : Entry) → answers_to n (J ++ e ∷ []) ≡ answers_to n J
    + cond (is_reply_to n e.deed) 1 0
answers_push n J e =
    let one = sum_by-cons (λ (x : Entry). cond (is_reply_to n x.deed) 1 0) e [] in
    sum_by-append (λ (x : Entry). cond (is_reply_to n x.deed) 1 0) J (e ∷ [])
    ∙ ap (λ (k : ℕ). answers_to n J + k) (one ∙ zero_more (cond (is_reply_to n e.deed) 1 0))
  where
    zero_more : (k : ℕ) → k + 0 ≡ k
    zero_more k = omega arith

-- an ask that stands, or isn't made yet, has no answer, and none has two
record IsOnce (n : ℕ) (J : History) : Type 0 where
  pub most : answers_to n J ≤ 1
  pub standing : is_outstanding J n ≡ true → answers_to n J ≡ 0
  pub unmade : length (asks J) < n → answers_to n J ≡ 0

-- an entry that is no reply to it
no_reply : (n : ℕ) (J : History) (e : Entry) → is_reply_to n e.deed ≡ false → IsOnce n J
    → (is_outstanding (J ++ e ∷ []) n ≡ true → answers_to n J ≡ 0) → IsOnce n (J ++ e ∷ [])
no_reply n J e h k s =
    let same : answers_to n (J ++ e ∷ []) ≡ answers_to n J = answers_push n J e
    ∙ ap (λ (b : Bool). answers_to n J + cond b 1 0) h ∙ plain (answers_to n J) in
    let more = ap (λ (ns : List ℕ). length ns) (asks_push J e) ∙ length-append (asks J)
    (option_to_list (asked_by e.deed)) in
    record {
      most = subst (λ (i : ℕ). i ≤ 1) (sym same) k.most;
      standing = λ g. same ∙ s g;
      unmade = λ g. same ∙ k.unmade (omega (arith, g, more));
    }
  where
    plain : (i : ℕ) → i + 0 ≡ i
    plain i = omega arith

answered : (v : Version) (n : ℕ) (J : History) (by m : ℕ) (d : Deed) → is_legal v is_address J ≡ true
    → Allowed v is_address J (record { by = by; moment = m; deed = d }) → IsOnce n J
    → IsOnce n (J ++ record { by = by; moment = m; deed = d } ∷ [])
unfolding facts_of
answered v n J by m (deed.Reply i o) l k h = one (i == n) refl
  where
    e : Entry
    e = record { by = by; moment = m; deed = deed.Reply i o }

    after : is_outstanding (J ++ e ∷ []) n ≡ unwrap_or (when (i == n) false) (is_outstanding J n)
    after = is_outstanding_push J e n

    one : (b : Bool) → (i == n) ≡ b → IsOnce n (J ++ e ∷ [])
    one false g = no_reply n J e g h
        (λ x. h.standing (sym (after ∙ ap (λ (b : Bool). unwrap_or (when b false) (is_outstanding J n)) g) ∙ x))
    one true g =
        let is : i ≡ n = eqb-true i n g in
        let fits = reply_answers J i o (reply_kept v is_address (facts_of J) m i o
        (entry_kept v is_address (facts_of J) e k.unbroken).deed).may in
        let stood : is_outstanding J n ≡ true = ap (is_outstanding J) (sym is) ∙ fits.stands in
        let none = h.standing stood in
        let made = numbered_among (asks J) (asks_numbered v is_address J l) n (outstanding_there J n stood) in
        let count : answers_to n (J ++ e ∷ []) ≡ answers_to n J + 1 = answers_push n J e
        ∙ ap (λ (b : Bool). answers_to n J + cond b 1 0) g in
        let more = ap (λ (ns : List ℕ). length ns) (asks_push J e) ∙ length-append (asks J) [] in
        record {
          most = omega (arith, count, none);
          standing = λ x. let bad = sym (after ∙ ap (λ (b : Bool). unwrap_or (when b false) (is_outstanding J n)) g)
              ∙ x in absurd cc;
          unmade = λ x. absurd (omega (arith, x, more, made.1));
        }
answered v n J by m (deed.Ask i p kind) l k h =
    no_reply n J e refl h (λ x. one (i == n) refl (sym (is_outstanding_push J e n) ∙ x))
  where
    e : Entry
    e = record { by = by; moment = m; deed = deed.Ask i p kind }

    one : (b : Bool) → (i == n) ≡ b → unwrap_or (when (i == n) true) (is_outstanding J n) ≡ true → answers_to n J ≡ 0
    one true g x =
        let is : i ≡ n = eqb-true i n g in
        let number = asked_number v is_address J by m (deed.Ask i p kind) k i refl in
        h.unmade (omega (arith, is, number))
    one false g x = h.standing (sym (ap (λ (b : Bool). unwrap_or (when b true) (is_outstanding J n)) g) ∙ x)
answered v n J by m deed.Restart l k h =
    let e : Entry = record { by = by; moment = m; deed = deed.Restart } in
    no_reply n J e refl h (λ x. let bad = sym (is_outstanding_push J e n) ∙ x in absurd cc)
answered v n J by m d l k h = no_reply n J (record { by = by; moment = m; deed = d }) refl h
    (λ x. h.standing (sym (is_outstanding_push J (record { by = by; moment = m; deed = d }) n) ∙ x))

once : (v : Version) (n : ℕ) (J : History) → is_legal v is_address J ≡ true → IsOnce n J
unfolding asks is_outstanding
once v n = legal_induction v is_address (IsOnce n)
    (record { most = omega arith; standing = λ x. absurd cc; unmade = λ x. refl })
    (λ J e l k h. answered v n J e.by e.moment e.deed l k h)

pub answered_once : AsksAreAnsweredOnce
answered_once v J n l = (once v n J l).most
