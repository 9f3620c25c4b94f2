-- What stays marked when a row is looked at anew.
use Rattle.std.proofs.Common.{◌≡◌, ◌≢◌, ℕ, zero, suc, ◌-◌, ◌≤◌, ◌<◌, Bool, true, false, List, [], ◌∷◌, length, Option}
use Rattle.std.proofs.Common.{Some, None, inl, inr, ◌⊎◌, refl, sym, ap, ◌∙◌, subst, cond, arith, length-set, drop}
use Rattle.std.proofs.Common.{get_or, add-one, ◌+◌}
use Rattle.std.proofs.Math.Seq.{drop-cons}
use Rattle.std.proofs.lemmas.List.{drop_all}
use Rattle.std.proofs.lemmas.Bool.{cases_eq, ne_eqb}
use Rattle.std.proofs.lemmas.Option.{slice_get_past}
use Rattle.std.specs.Prelude.{◌||◌, is_some, option_map, slice_set}
use Rattle.std.specs.Option.{option_map_or, option_and_then}
use Rattle.lra_model.specs.declared.asks.Cause.TheVariants as cause
use Rattle.lra_model.specs.declared.entry.Deed.{Deed}
use Rattle.lra_model.specs.declared.entry.Deed.TheVariants.{Close, Cancel, End}
use Rattle.lra_model.specs.History.{History, actions, members, is_among}
use Rattle.lra_model.specs.Actions.{parent}
use Rattle.lra_model.specs.Members.{action_of}
use Rattle.lra_model.specs.Facts.{ActionFacts}
use Rattle.lra_model.specs.Tests.{may_close_with_parent, may_cancel_with_parent, may_skip}
use Rattle.lra_laws.specs.Rows.{State, MemberRow, ActionRow, row_at}
use Rattle.lra_laws.specs.inner.RowFacts.{facts_by, member_by, action_by}
use Rattle.lra_laws.specs.Settles.{may_skip_by, turn_by, end_by}
use Rattle.lra_laws.specs.Snapshots.{StateSnapshot, StandsFor}
use Rattle.lra_laws.specs.inner.Concerned.{members_concerned, actions_concerned}
use Rattle.lra_laws.proofs.Named.{parent_there}
use Rattle.lra_laws.proofs.MemberRows.{absent_row}
use Rattle.lra_rows.specs.declared.found.MemberRow.{MemberRow as FoundMember}
use Rattle.lra_rows.specs.Found.{found_action, found_member}
use Rattle.lra_tables.specs.inner.IndexedSet.{Marking, mark_at}
use Rattle.lra_tables.proofs.Read.{mark_at-set_same, mark_at-set_other, mark_at-past}
use Rattle.lra_tables.specs.declared.settling_index.SettlingIndex.{SettlingIndex}
use Rattle.lra_tables.specs.inner.SettlingIndex.{MarkedBut, SameRoom}

-- a number among none but a first one and the others
not_among : (n : ℕ) (ns : List ℕ) (m : ℕ) → m ≢ n → is_among ns m ≡ false → is_among (n ∷ ns) m ≡ false
not_among n ns m other rest = ap (λ (b : Bool). b || is_among ns m) (ne_eqb n m (λ e. other (sym e))) ∙ rest

-- ---- rows that aren't there are not ready

row_past : {R : Type 0} (rows : List R) (n : ℕ) → (0 < n → length rows < n) → row_at rows n ≡ None
row_past rows zero past = refl
row_past rows (suc k) past = slice_get_past rows k (let h = past (omega arith) in omega arith)

no_skip : (s : State) (p : ℕ) → row_at s.members p ≡ None → may_skip_by s p ≡ false
no_skip s p none = ap (λ (o : Option MemberRow). option_map_or (may_skip (facts_by s)) (option_map (member_by s) o)
    false) none

no_turn : (s : State) (a : ℕ) → row_at s.actions a ≡ None → is_some (turn_by s a) ≡ false
no_turn s a none = ap
    (λ (o : Option ActionRow). is_some
    (cond (option_map_or (may_close_with_parent (facts_by s)) (option_map (action_by s) o) false)
    (Some (Close a cause.Parent))
    (cond (option_map_or (may_cancel_with_parent (facts_by s)) (option_map (action_by s) o) false)
    (Some (Cancel a cause.Parent)) None))) none

no_end : (s : State) (a : ℕ) → row_at s.actions a ≡ None → is_some (end_by s a) ≡ false
no_end s a none = ap (λ (o : Option ActionRow). is_some (option_and_then
    (λ (x : ActionFacts). cond x.settled (Some (End a x.right_end)) None) (option_map (action_by s) o))) none

mark_past : (marked : List Bool) (n : ℕ) → (0 < n → length marked < n) → mark_at marked n ≡ false
mark_past marked zero past = refl
mark_past marked (suc k) past = mark_at-past marked (suc k) (past (omega arith))

-- ---- one row

-- a set in which a number is marked by its test
written : (test : ℕ → Bool) (n : ℕ) (ns : List ℕ) (before after : Marking) → after
    ≡ record before { marked = slice_set before.marked (n - 1) (test n) } → 0 < n → n ≤ length before.marked
    → ((m : ℕ) → is_among (n ∷ ns) m ≡ false → mark_at before.marked m ≡ test m) → (m : ℕ) → is_among ns m ≡ false
    → mark_at after.marked m ≡ test m
written test n ns before after is some there marked m g = ap (λ (x : Marking). mark_at x.marked m) is
    ∙ elim (cases_eq m n) [
      | inl same ↦ ap (mark_at (slice_set before.marked (n - 1) (test n))) same
          ∙ mark_at-set_same before.marked n (test n) some there ∙ ap test (sym same)
      | inr other ↦ mark_at-set_other before.marked n m (test n) some other ∙ marked m (not_among n ns m other g)
    ]

-- one in which there is no such number
absent : (test : ℕ → Bool) (n : ℕ) (ns : List ℕ) (marked : List Bool) → (0 < n → length marked < n) → test n ≡ false
    → ((m : ℕ) → is_among (n ∷ ns) m ≡ false → mark_at marked m ≡ test m) → (m : ℕ) → is_among ns m ≡ false
    → mark_at marked m ≡ test m
absent test n ns marked past none is m g = elim (cases_eq m n) [
  | inl same ↦ ap (mark_at marked) same ∙ mark_past marked n past ∙ sym none ∙ ap test (sym same)
  | inr other ↦ is m (not_among n ns m other g)
]

length-written : (before after : Marking) (n : ℕ) (b : Bool) → after ≡ record before
    { marked = slice_set before.marked n b } → length after.marked ≡ length before.marked
length-written before after n b is = ap (λ (x : Marking). length x.marked) is ∙ length-set before.marked n b

-- a member is looked at anew
pub member_marked : (s : State) (r : SettlingIndex) (p : ℕ) (skips : Marking) → 0 < p → p ≤ length r.skips.marked
    → skips
    ≡ record r.skips { marked = slice_set r.skips.marked (p - 1) (may_skip_by s p) }
    → (ps xs : List ℕ) → MarkedBut s r (p ∷ ps) xs → MarkedBut s (record r { skips = skips }) ps xs
member_marked s r p skips some there is ps xs h = record {
  sized = record {
    least_skip = ap (λ (x : Marking). x.order) is ∙ h.sized.least_skip;
    least_turn = h.sized.least_turn;
    greatest_end = h.sized.greatest_end;
    skips = length-written r.skips skips (p - 1) (may_skip_by s p) is ∙ h.sized.skips;
    turns = h.sized.turns;
    ends = h.sized.ends;
  };
  skips = written (may_skip_by s) p ps r.skips skips is some there h.skips;
  turns = h.turns;
  ends = h.ends;
}

-- one that isn't there needs no look
pub member_absent : (s : State) (r : SettlingIndex) (p : ℕ) → (0 < p → length r.skips.marked < p) → (ps xs : List ℕ)
    → MarkedBut s r (p ∷ ps) xs → MarkedBut s r ps xs
member_absent s r p past ps xs h =
    let size = h.sized.skips in
    record {
      sized = h.sized;
      turns = h.turns;
      ends = h.ends;
      skips = absent (may_skip_by s) p ps r.skips.marked past
          (no_skip s p (row_past s.members p (λ some. let g = past some in omega arith))) h.skips;
    }

-- an action is looked at anew
pub action_marked : (s : State) (r : SettlingIndex) (a : ℕ) (turns ends : Marking) → 0 < a → a ≤ length r.turns.marked
    → a
    ≤ length r.ends.marked
    → turns ≡ record r.turns { marked = slice_set r.turns.marked (a - 1) (is_some (turn_by s a)) } → ends
    ≡ record r.ends { marked = slice_set r.ends.marked (a - 1) (is_some (end_by s a)) }
    → (ps xs : List ℕ) → MarkedBut s r ps (a ∷ xs) → MarkedBut s (record r { turns = turns; ends = ends }) ps xs
action_marked s r a turns ends some turn_there end_there turn_is end_is ps xs h = record {
  sized = record {
    least_skip = h.sized.least_skip;
    least_turn = ap (λ (x : Marking). x.order) turn_is ∙ h.sized.least_turn;
    greatest_end = ap (λ (x : Marking). x.order) end_is ∙ h.sized.greatest_end;
    skips = h.sized.skips;
    turns = length-written r.turns turns (a - 1) (is_some (turn_by s a)) turn_is ∙ h.sized.turns;
    ends = length-written r.ends ends (a - 1) (is_some (end_by s a)) end_is ∙ h.sized.ends;
  };
  skips = h.skips;
  turns = written (λ x. is_some (turn_by s x)) a xs r.turns turns turn_is some turn_there h.turns;
  ends = written (λ x. is_some (end_by s x)) a xs r.ends ends end_is some end_there h.ends;
}

-- one that isn't there needs no look
pub action_absent : (s : State) (r : SettlingIndex) (a : ℕ)
    → (0 < a → (length r.turns.marked < a) ⊎ (length r.ends.marked < a))
    → (ps xs : List ℕ) → MarkedBut s r ps (a ∷ xs) → MarkedBut s r ps xs
action_absent s r a past ps xs h =
    let turns = h.sized.turns in
    let ends = h.sized.ends in
    let beyond : 0 < a → length s.actions < a = λ some. elim (past some) [
      | inl g ↦ omega arith
      | inr g ↦ omega
          arith
    ] in
    let none = row_past s.actions a beyond in
    record {
      sized = h.sized;
      skips = h.skips;
      turns = absent (λ x. is_some (turn_by s x)) a xs r.turns.marked (λ some. let g = beyond some in omega arith)
          (no_turn s a none) h.turns;
      ends = absent (λ x. is_some (end_by s x)) a xs r.ends.marked (λ some. let g = beyond some in omega arith)
          (no_end s a none) h.ends;
    }

-- ---- loops over rows to be looked at

pub SameRoom-trans : (a b c : SettlingIndex) → SameRoom a b → SameRoom b c → SameRoom a c
SameRoom-trans a b c h k = record { skips = k.skips ∙ h.skips; turns = k.turns ∙ h.turns; ends = k.ends ∙ h.ends }

pub drop_first : (ns : List ℕ) (i : ℕ) → i < length ns → drop i ns ≡ get_or ns i 0 ∷ drop (i + 1) ns
drop_first ns i h = rw add-one (drop-cons ns i 0 h)

pub drop_past : (ns : List ℕ) (i : ℕ) → length ns ≤ i → drop i ns ≡ []
drop_past ns i h = drop_all i ns h

-- ---- rows of a history

not_found : {R : Type 0} (b : Bool) (r : R) → None ≡ cond b (Some r) None → b ≡ false
not_found true r h = absurd cc
not_found false r h = refl

found_there : {R : Type 0} (b : Bool) (r q : R) → Some q ≡ cond b (Some r) None → q ≡ r
found_there true r q h = cc
found_there false r q h = absurd cc

-- an action that isn't there has no parent
pub no_parent : (s : StateSnapshot) (K : History) → StandsFor s K → (a : ℕ) → None ≡ found_action K a → None
    ≡ parent K a
no_parent s K h a none = known (parent K a) refl
  where
    known : (o : Option ℕ) → parent K a ≡ o → None ≡ o
    known None e = refl
    known (Some b) e =
        let there = (parent_there h.version h.is_address K h.legal a b e).child in
        let absent = not_found (is_among (actions K) a) _ none in
        absurd cc

-- a member that isn't there is in no action
pub in_none : (s : StateSnapshot) (K : History) → StandsFor s K → (p : ℕ) → None ≡ found_member K p → action_of K p ≡ 0
in_none s K h p none = ap (λ (r : MemberRow). r.action) (absent_row h.version h.is_address K h.legal p
    (not_found (is_among (members K) p) _ none))

pub action_found : (K : History) (p : ℕ) (r : FoundMember) → Some r ≡ found_member K p → r.action ≡ action_of K p
action_found K p r h = ap (λ (x : FoundMember). x.action) (found_there (is_among (members K) p) _ r h)

-- a deed, known under another name
pub of_deed : (s : State) (r : SettlingIndex) (K : History) (d e : Deed) → d ≡ e
    → MarkedBut s r (members_concerned K d) (actions_concerned K d) → MarkedBut s r (members_concerned K e)
    (actions_concerned K e)
of_deed s r K d e same h = subst (λ (x : Deed). MarkedBut s r (members_concerned K x) (actions_concerned K x)) same h
