-- Pages have the same marks whatever texts from elsewhere they have.
use Rattle.std.proofs.Common.{◌≡◌, ℕ, ◌==◌, Bool, true, false, List, [], ◌∷◌, inl, inr, refl, sym, subst, arith}
use Rattle.std.specs.Prelude.{cond, length, codes}
use Rattle.std.specs.List.{flat_map}
use Rattle.std.proofs.lemmas.Bool.Decides.{eqb_tells}
use Rattle.std.proofs.lemmas.List.Elements.{filter-append}
use Rattle.lra_model.specs.declared.status.ActionStatus.{ActionStatus}
use Rattle.lra_model.specs.declared.status.ActionStatus.TheVariants as action_status
use Rattle.lra_model.specs.declared.status.MemberStatus.{MemberStatus}
use Rattle.lra_model.specs.declared.status.MemberStatus.TheVariants as member_status
use Rattle.lra_escape.specs.Escapes.{spelled, escaped}
use Rattle.lra_overview.specs.declared.gather.MemberRow.{MemberRow}
use Rattle.lra_overview.specs.declared.gather.Waiting.{Waiting}
use Rattle.lra_overview.specs.declared.attempts.Line.{Line}
use Rattle.lra_overview.specs.declared.home_page.Home.{Home}
use Rattle.lra_overview.specs.Pages.{begin, fields, cancel_form, cancel_at, give_up_form, give_up_at, told_form}
use Rattle.lra_overview.specs.Pages.{wants_telling, give_up, waiting, full_table, home, line, action, reply, plain}
use Rattle.lra_overview.specs.Pages.{no_rows}
use Rattle.lra_overview.specs.Marks.{marks, HomeKeepsMarks, ActionKeepsMarks, ReplyKeepsMarks, PlainKeepsMarks}

-- the escape of a byte has no mark
abbrev HasNone : ℕ → Type 0
HasNone b = marks (spelled b) ≡ []

none_plain : (b : ℕ) → (b == 60) ≡ false → (b == 62) ≡ false → (b == 38) ≡ false → (b == 34) ≡ false → (b == 39) ≡ false
    → HasNone b
none_plain b p q r s t = grind arith

none_spelled : (b : ℕ) → HasNone b
none_spelled b = elim (eqb_tells b 60) [
  | inl h ↦ subst HasNone (sym h.1) refl
  | inr p ↦ elim (eqb_tells b 62) [
    | inl h ↦ subst HasNone (sym h.1) refl
    | inr q ↦ elim (eqb_tells b 38) [
      | inl h ↦ subst HasNone (sym h.1) refl
      | inr r ↦ elim (eqb_tells b 34) [
        | inl h ↦ subst HasNone (sym h.1) refl
        | inr s ↦ elim (eqb_tells b 39) [
          | inl h ↦ subst HasNone (sym h.1) refl
          | inr t ↦ none_plain b p.0 q.0 r.0 s.0 t.0
        ]
      ]
    ]
  ]
]

-- an escaped text has no mark
none_escaped : (text : List ℕ) → marks (escaped text) ≡ []
none_escaped [] = refl
none_escaped (b ∷ text) = simp (filter-append, none_spelled b, none_escaped text)

-- if each text has the marks of its counterpart, the texts one after another have the same marks
same_flat : {X : Type 0} (f g : X → List ℕ) → ((x : X) → marks (f x) ≡ marks (g x)) → (xs : List X)
    → marks (flat_map f xs) ≡ marks (flat_map g xs)
same_flat f g h [] = refl
same_flat f g h (x ∷ xs) = simp (filter-append, h x, same_flat f g h xs)

same_begin : (base other : List ℕ) → marks (begin base) ≡ marks (begin other)
same_begin base other = simp (filter-append, none_escaped)

same_fields : (token word : List ℕ) (k : Bool) → marks (fields token k) ≡ marks (fields word k)
same_fields token word true = simp (filter-append, none_escaped)
same_fields token word false = simp (filter-append, none_escaped)

same_cancel_form : (i : ℕ) (token word : List ℕ) (k : Bool) (a : ℕ) → marks (cancel_form i token k a)
    ≡ marks (cancel_form i word k a)
same_cancel_form i token word k a = simp (filter-append, same_fields token word k)

same_cancel : (i : ℕ) (token word : List ℕ) (k : Bool) (a : ℕ) (s : ActionStatus) → marks (cancel_at i token k a s)
    ≡ marks (cancel_at i word k a s)
same_cancel i token word k a action_status.Active = same_cancel_form i token word k a
same_cancel i token word k a _ = refl

same_give_up_form : (i : ℕ) (token word : List ℕ) (p : ℕ) (question ending : List ℕ)
    → marks (give_up_form i token p question ending) ≡ marks (give_up_form i word p question ending)
same_give_up_form i token word p question ending = simp (filter-append, none_escaped)

same_give_up_at : (i : ℕ) (token word : List ℕ) (p : ℕ) (s : MemberStatus) → marks (give_up_at i token p s)
    ≡ marks (give_up_at i word p s)
same_give_up_at i token word p member_status.Completing = same_give_up_form i token word p
    (codes "Have it count as failed for good?") (codes "FailedToComplete")
same_give_up_at i token word p member_status.Compensating = same_give_up_form i token word p
    (codes "Have it count as failed for good?") (codes "FailedToCompensate")
same_give_up_at i token word p _ = refl

same_told_form : (i : ℕ) (token word : List ℕ) (p : ℕ) → marks (told_form i token p) ≡ marks (told_form i word p)
unfolding told_form
same_told_form i token word p = same_give_up_form i token word p (codes "Tell it no more how its action ended?")
    (codes "Ended")

same_give_up_where : (b : Bool) (i : ℕ) (token word : List ℕ) (p : ℕ) (s : MemberStatus)
    → marks (cond b (told_form i token p) (give_up_at i token p s)) ≡ marks
    (cond b (told_form i word p) (give_up_at i word p s))
same_give_up_where true i token word p s = same_told_form i token word p
same_give_up_where false i token word p s = same_give_up_at i token word p s

same_give_up : (i : ℕ) (token word : List ℕ) (k : Bool) (row : MemberRow) → marks (give_up i token k row)
    ≡ marks (give_up i word k row)
same_give_up i token word true row = same_give_up_where (wants_telling row.want) i token word row.member row.status
same_give_up i token word false row = refl

same_waiting : (i : ℕ) (token word : List ℕ) (k : Bool) (w : Waiting) → marks (waiting i token k w)
    ≡ marks (waiting i word k w)
unfolding waiting
same_waiting i token word k w = simp (filter-append, same_cancel i token word k w.row.action w.row.status)

same_rows : (i : ℕ) (token word : List ℕ) (k : Bool) (rows : List Waiting) → marks (flat_map (waiting i token k) rows)
    ≡ marks (flat_map (waiting i word k) rows)
same_rows i token word k rows = same_flat (waiting i token k) (waiting i word k) (same_waiting i token word k) rows

same_full_table : (i : ℕ) (token word : List ℕ) (k : Bool) (rows : List Waiting) → marks (full_table i token k rows)
    ≡ marks (full_table i word k rows)
same_full_table i token word k rows = simp (filter-append, same_rows i token word k rows)

same_table_where : (b : Bool) (i : ℕ) (none token word : List ℕ) (k : Bool) (rows : List Waiting)
    → marks (cond b none (full_table i token k rows)) ≡ marks (cond b none (full_table i word k rows))
same_table_where true i none token word k rows = refl
same_table_where false i none token word k rows = same_full_table i token word k rows

pub home_keeps_marks : HomeKeepsMarks
unfolding home
home_keeps_marks i base other token word k h =
    simp (
      filter-append,
      none_escaped,
      same_table_where (length h.rows.now == 0) i (no_rows h.state) token word k
          h.rows.now,
    )

same_line : (i : ℕ) (token word : List ℕ) (k : Bool) (l : Line) → marks (line i token k l) ≡ marks (line i word k l)
unfolding line
same_line i token word k l = simp (filter-append, same_give_up i token word k l.row)

same_lines : (i : ℕ) (token word : List ℕ) (k : Bool) (lines : List Line) → marks (flat_map (line i token k) lines)
    ≡ marks (flat_map (line i word k) lines)
same_lines i token word k lines = same_flat (line i token k) (line i word k) (same_line i token word k) lines

pub action_keeps_marks : ActionKeepsMarks
unfolding action
action_keeps_marks i base other token word k w nodes lines =
    simp (
      filter-append,
      none_escaped,
      same_cancel i token word k w.row.action w.row.status,
      same_lines i token word k lines,
    )

pub reply_keeps_marks : ReplyKeepsMarks
reply_keeps_marks ms words told address other = simp (filter-append, none_escaped)

pub plain_keeps_marks : PlainKeepsMarks
unfolding plain
plain_keeps_marks base other sentence text told = simp (filter-append, none_escaped)
