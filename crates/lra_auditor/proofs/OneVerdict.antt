-- No bytes have two verdicts, and the text of a legal history is sound.
use Rattle.std.proofs.Common.{◌≡◌, ℕ, ◌+◌, ◌<◌, ◌^◌, true, List, [], ◌∷◌, ◌++◌, length, refl, sym, ap, subst, ◌∙◌, inl}
use Rattle.std.proofs.Common.{inr, append_assoc, arith}
use Rattle.std.specs.Prelude.{All}
use Rattle.std.specs.List.{flat_map}
use Rattle.std.proofs.lemmas.Bool.{false≢true}
use Rattle.std.proofs.lemmas.List.{append-nil}
use Rattle.std.proofs.lemmas.Option.{same_Some}
use Rattle.lra_model.specs.declared.version.Version.{Version}
use Rattle.lra_model.specs.declared.rule.Rule.{Rule}
use Rattle.lra_model.specs.declared.entry.Entry.{Entry}
use Rattle.lra_model.specs.History.{History}
use Rattle.lra_model.specs.Rules.{broken, is_legal}
use Rattle.lra_lines.specs.Line.{line, header, text, HasLine, HasText}
use Rattle.lra_lines.specs.Lines.{HasNoHeader, GoesOn, AreAligned}
use Rattle.lra_lines.proofs.Apart.{lines_apart, texts_aligned, texts_apart, ends_here, next_line}
use Rattle.lra_addresses.specs.Addresses.{is_address}
use Rattle.lra_course.specs.declared.verdict.Verdict.TheVariants.{Sound, Unsound}
use Rattle.lra_auditor.specs.Verdicts.{IsTextOf, Breaks, IsFault, IsVerdict}
use Rattle.lra_totals.specs.Summaries.{summary}
use Rattle.lra_auditor.specs.OneVerdict.{BytesHaveOneVerdict, LegalTextsAreSound}
use Rattle.lra_course.proofs.Faults.{is_legal-broken}
use Rattle.lra_auditor.proofs.LegalTexts.{legal_has_text}

-- ---- one fault

-- bytes break one rule after a history
one_rule : (v : Version) (J : History) (rest : List ℕ) (r q : Rule) → Breaks v J rest r → Breaks v J rest q → r ≡ q
one_rule v J rest r q (inl (e, _)) (inl (f, _)) = e ∙ sym f
one_rule v J rest r q (inl (_, none)) (inr (d, more, has, next, _)) = absurd (none d more has next)
one_rule v J rest r q (inr (d, more, has, next, _)) (inl (_, none)) = absurd (none d more has next)
one_rule v J rest r q (inr (d, x, has, next, h)) (inr (e, y, holds, comes, k)) =
    let same = (lines_apart v v d e x y has holds (sym next ∙ comes)).0 in
    same_Some r q (sym h ∙ ap (broken v is_address J) same ∙ k)

-- the next line of a legal history breaks none
next_breaks_none : (v : Version) (J : History) (e : Entry) (more : History) (rest after : List ℕ) (r : Rule)
    → All (HasLine v) (J ++ e ∷ more) → is_legal v is_address (J ++ e ∷ more) ≡ true → rest ≡ line e ++ after
    → Breaks v J rest r → ⊥
next_breaks_none v J e more rest after r lines legal next (inl (_, none)) =
    none e after (next_line v J more e lines) next
next_breaks_none v J e more rest after r lines legal next (inr (d, others, has, comes, h)) =
    let same = (lines_apart v v d e others after has (next_line v J more e lines) (sym comes ∙ next)).0 in
    let here = sym (ap (broken v is_address J) same) ∙ h in
    false≢true (sym (is_legal-broken v is_address J e more r here) ∙ legal)

-- so a legal history doesn't go on past a fault
not_past : (v w : Version) (i : ℕ) (J K : History) (bytes rest after : List ℕ) (r : Rule) → v ≡ w → IsTextOf v i J bytes
    → GoesOn K rest J after → Breaks w K rest r → ⊥
not_past v w i J K bytes rest after r same t g breaks =
    let lines = subst (All (HasLine v)) g.entries t.spelled.lines in
    let legal = subst (λ (H : History). is_legal v is_address H ≡ true) g.entries t.legal in
    next_breaks_none v K g.next g.more rest (flat_map line g.more ++ after) r lines legal g.follows
    (subst (λ (u : Version). Breaks u K rest r) (sym same) breaks)

-- bytes that begin with a text have a header
has_header : (v : Version) (i : ℕ) (J : History) (bytes rest : List ℕ) → HasText v i J → bytes ≡ text v i J ++ rest
    → HasNoHeader bytes → ⊥
has_header v i J bytes rest spelled whole none = none v i (flat_map line J ++ rest) spelled.instance
    (whole ∙ append_assoc (header v i) (flat_map line J) rest)

-- bytes have one fault
one_fault : (bytes : List ℕ) (m n : ℕ) (r q : Rule) → IsFault bytes m r → IsFault bytes n q → (m ≡ n) × (r ≡ q)
one_fault bytes m n r q (inl h) (inl k) = (h.0 ∙ sym k.0, h.1 ∙ sym k.1)
one_fault bytes m n r q (inl h) (inr (w, j, K, y, k)) = absurd (has_header w j K bytes y k.front.spelled k.whole h.2)
one_fault bytes m n r q (inr (v, i, J, x, h)) (inl k) = absurd (has_header v i J bytes x h.front.spelled h.whole k.2)
one_fault bytes m n r q (inr (v, i, J, x, h)) (inr (w, j, K, y, k)) = by_case parts.2
  where
    parts : (v ≡ w) × (i ≡ j) × AreAligned J x K y
    parts = texts_aligned v w i j J K x y h.front.spelled k.front.spelled (sym h.whole ∙ k.whole)

    at_one : J ≡ K → x ≡ y → Breaks v J x q
    at_one e f =
        subst (λ (u : Version). Breaks u J x q) (sym parts.0)
        (subst (λ (H : History). Breaks w H x q) (sym e) (subst (λ (rest : List ℕ). Breaks w K rest q) (sym f)
        k.breaks))

    by_case : AreAligned J x K y → (m ≡ n) × (r ≡ q)
    by_case (inl (e, f)) = (
      h.place ∙ ap (λ (H : History). length H + 2) e
          ∙ sym k.place,
      one_rule v J x r q h.breaks (at_one e f),
    )
    by_case (inr (inl g)) = absurd (not_past w v j K J (text w j K) x y r (sym parts.0) k.front g h.breaks)
    by_case (inr (inr g)) = absurd (not_past v w i J K (text v i J) y x q parts.0 h.front g k.breaks)

-- the text of a legal history has none
no_fault : (v : Version) (i : ℕ) (J : History) (bytes : List ℕ) (n : ℕ) (r : Rule) → IsTextOf v i J bytes
    → IsFault bytes n r → ⊥
no_fault v i J bytes n r t (inl h) = has_header v i J bytes [] t.spelled (t.whole ∙ sym (append-nil (text v i J))) h.2
no_fault v i J bytes n r t (inr (w, j, K, rest, h)) = by_case parts.2
  where
    parts : (v ≡ w) × (i ≡ j) × AreAligned J [] K rest
    parts = texts_aligned v w i j J K [] rest t.spelled h.front.spelled
        (append-nil (text v i J) ∙ sym t.whole ∙ h.whole)

    by_case : AreAligned J [] K rest → ⊥
    by_case (inl (_, empty)) = let on = h.goes_on in omega (arith, ap length empty)
    by_case (inr (inl g)) = ends_here J K rest g
    by_case (inr (inr g)) = not_past v w i J K bytes rest [] r parts.0 t g h.breaks

-- ---- one verdict

pub one_verdict : BytesHaveOneVerdict
one_verdict bytes (Sound s) (Sound t) (v, i, J, h, e) (w, j, K, k, f) =
    ap Sound (e ∙ ap summary (texts_apart v w i j J K h.spelled k.spelled (sym h.whole ∙ k.whole)).2 ∙ sym f)
one_verdict bytes (Sound s) (Unsound n q) (v, i, J, h, _) k = absurd (no_fault v i J bytes n q h k)
one_verdict bytes (Unsound m r) (Sound t) h (w, j, K, k, _) = absurd (no_fault w j K bytes m r k h)
one_verdict bytes (Unsound m r) (Unsound n q) h k = let (same, rule) = one_fault bytes m n r q h k in
    λ x. Unsound (same x) (rule x)

-- the text of a legal history has the verdict Sound
pub legal_text_verdict : (v : Version) (i : ℕ) (J : History) → i < 2 ^ 60 → is_legal v is_address J ≡ true
    → IsVerdict (text v i J) (Sound (summary J))
legal_text_verdict v i J small legal =
    (v, i, J, record { spelled = legal_has_text v i J small legal; legal = legal; whole = refl }, refl)

pub legal_text_sound : LegalTextsAreSound
legal_text_sound v i J x small legal h = one_verdict (text v i J) x (Sound (summary J)) h
    (legal_text_verdict v i J small legal)
