-- What may settle next stays the same for every member and action that a deed does not concern.
use Rattle.std.proofs.Common.{◌≡◌, ◌≢◌, ℕ, suc, Bool, true, false, List, [], ◌∷◌, ◌++◌, length, Option, Some, None}
use Rattle.std.proofs.Common.{refl, sym, ap, ◌∙◌, cond}
use Rattle.std.specs.Prelude.{◌&&◌, ◌||◌, not, is_some, option_map}
use Rattle.std.specs.Option.{option_map_or, option_and_then}
use Rattle.lra_model.specs.declared.status.ActionStatus.{ActionStatus}
use Rattle.lra_model.specs.declared.asks.Cause.TheVariants as cause
use Rattle.lra_model.specs.declared.entry.Deed.{Deed}
use Rattle.lra_model.specs.declared.entry.Deed.TheVariants.{Close, Cancel, End}
use Rattle.lra_model.specs.Words.{is_active, is_closing, is_cancelling, is_cancellable, is_untouched}
use Rattle.lra_model.specs.History.{is_among}
use Rattle.lra_model.specs.Facts.{ActionFacts}
use Rattle.lra_model.specs.Tests.{at_action, status_is, parent_is, may_close_with_parent, may_cancel_with_parent}
use Rattle.lra_model.specs.Tests.{may_skip}
use Rattle.lra_laws.specs.Rows.{MemberRow, ActionRow, State, row_at, change_row, change_member, change_status}
use Rattle.lra_laws.specs.Rows.{with_member, with_new_member, with_child, with_new_child}
use Rattle.lra_laws.specs.Ends.{settled_by}
use Rattle.lra_laws.specs.inner.RowFacts.{action_by, member_by, facts_by}
use Rattle.lra_laws.specs.Settles.{may_skip_by, turn_by, end_by}
use Rattle.lra_laws.proofs.RowChanges.{row_at-change_other, row_at-change_kept, row_at-push_other, length-change_row}

-- nothing changes of what settles next, but for some members and some actions
pub record Stays (s t : State) (ps xs : List ℕ) : Type 0 where
  pub skips : (p : ℕ) → is_among ps p ≡ false → may_skip_by t p ≡ may_skip_by s p
  pub turns : (a : ℕ) → is_among xs a ≡ false → is_some (turn_by t a) ≡ is_some (turn_by s a)
  pub ends : (a : ℕ) → is_among xs a ≡ false → is_some (end_by t a) ≡ is_some (end_by s a)

pub Stays-sym : (s t : State) (ps xs : List ℕ) → Stays s t ps xs → Stays t s ps xs
Stays-sym s t ps xs h = record {
  skips = λ p g. sym (h.skips p g);
  turns = λ a g. sym (h.turns a g);
  ends =
      λ a g. sym (h.ends a g);
}

pub Stays-trans : (s t u : State) (ps xs : List ℕ) → Stays s t ps xs → Stays t u ps xs → Stays s u ps xs
Stays-trans s t u ps xs h k = record {
  skips = λ p g. k.skips p g ∙ h.skips p g;
  turns = λ a g. k.turns a g ∙ h.turns a g;
  ends = λ a g. k.ends a g ∙ h.ends a g;
}

-- ---- what the tests read

-- an action's parent and its status
abbrev Face : Type 0
Face = Option ℕ × ActionStatus

abbrev face : ActionRow → Face
face r = (r.parent, r.status)

-- the status of an action, if it is there
abbrev status_at : State → ℕ → Option ActionStatus
status_at s a = option_map (λ (r : ActionRow). r.status) (row_at s.actions a)

-- its parent and its status
abbrev face_at : State → ℕ → Option Face
face_at s a = option_map face (row_at s.actions a)

status_from_face : (s t : State) (a : ℕ) → face_at t a ≡ face_at s a → status_at t a ≡ status_at s a
status_from_face s t a h = sym (split (row_at t.actions a)) ∙ ap (option_map (λ (x : Face). x.1)) h
    ∙ split (row_at s.actions a)
  where
    split : (o : Option ActionRow) → option_map (λ (x : Face). x.1) (option_map face o)
        ≡ option_map (λ (r : ActionRow). r.status) o
    split None = refl
    split (Some r) = refl

status_is_by : (test : ActionStatus → Bool) (s : State) (a : ℕ) → status_is test (facts_by s) a
    ≡ option_map_or test (status_at s a) false
status_is_by test s a = known (row_at s.actions a)
  where
    known : (o : Option ActionRow) → option_map_or (λ (x : ActionFacts). test x.status) (option_map (action_by s) o)
        false ≡ option_map_or test (option_map (λ (r : ActionRow). r.status) o) false
    known None = refl
    known (Some r) = refl

status_is_stays : (test : ActionStatus → Bool) (s t : State) (a : ℕ) → status_at t a ≡ status_at s a
    → status_is test (facts_by t) a ≡ status_is test (facts_by s) a
status_is_stays test s t a h = status_is_by test t a ∙ ap (λ (o : Option ActionStatus). option_map_or test o false) h
    ∙ sym (status_is_by test s a)

-- whether a member may be skipped goes by its row and the status of its action
skip_stays : (s t : State) (p : ℕ) → row_at t.members p ≡ row_at s.members p
    → ((r : MemberRow) → row_at s.members p ≡ Some r → status_at t r.action ≡ status_at s r.action) → may_skip_by t p
    ≡ may_skip_by s p
skip_stays s t p same status = known (row_at s.members p) refl same
  where
    test : State → Option MemberRow → Bool
    test u o = option_map_or (may_skip (facts_by u)) (option_map (member_by u) o) false

    known : (o : Option MemberRow) → row_at s.members p ≡ o → row_at t.members p ≡ o
        → option_map_or (may_skip (facts_by t)) (option_map (member_by t) (row_at t.members p)) false
        ≡ option_map_or (may_skip (facts_by s)) (option_map (member_by s) (row_at s.members p)) false
    known None e g =
        ap (λ (o : Option MemberRow). option_map_or (may_skip (facts_by t)) (option_map (member_by t) o) false) g
        ∙ sym (ap (λ (o : Option MemberRow). option_map_or (may_skip (facts_by s)) (option_map (member_by s) o) false)
        e)
    known (Some r) e g =
        ap (λ (o : Option MemberRow). option_map_or (may_skip (facts_by t)) (option_map (member_by t) o) false) g
        ∙ ap (λ (b : Bool). b && is_untouched r.status && not r.addresses.complete && r.addresses.compensate)
        (status_is_stays is_closing s t r.action (status r e))
        ∙ sym (ap (λ (o : Option MemberRow). option_map_or (may_skip (facts_by s)) (option_map (member_by s) o) false)
        e)

-- a test of an action's status and its parent's
abbrev with_parent : (ActionStatus → Bool) → (ActionStatus → Bool) → State → ℕ → Bool
with_parent own above s a = at_action (λ (x : ActionFacts). own x.status && parent_is above (facts_by s) x) (facts_by s)
    a

-- goes by these
with_parent_stays : (own above : ActionStatus → Bool) (s t : State) (a : ℕ) → face_at t a ≡ face_at s a
    → ((r : ActionRow) (b : ℕ) → row_at s.actions a ≡ Some r → r.parent ≡ Some b → status_at t b ≡ status_at s b)
    → with_parent own above t a ≡ with_parent own above s a
with_parent_stays own above s t a same status = known (row_at t.actions a) (row_at s.actions a) refl same
  where
    known : (o q : Option ActionRow) → row_at s.actions a ≡ q → option_map face o ≡ option_map face q
        → option_map_or (λ (x : ActionFacts). own x.status && parent_is above (facts_by t) x)
        (option_map (action_by t) o) false ≡ option_map_or (λ (x : ActionFacts). own x.status
        && parent_is above (facts_by s) x) (option_map (action_by s) q) false
    known None None e h = refl
    known None (Some r) e h = absurd cc
    known (Some r) None e h = absurd cc
    known (Some x) (Some r) e h =
        ap (λ (i : ActionStatus). own i && option_map_or (status_is above (facts_by t)) x.parent false)
        (ap (λ (o : Option Face). option_map_or (λ (i : Face). i.1) o r.status) h)
        ∙ ap (λ (o : Option ℕ). own r.status && option_map_or (status_is above (facts_by t)) o false)
        (ap (λ (o : Option Face). option_map_or (λ (i : Face). i.0) o None) h)
        ∙ ap (λ (b : Bool). own r.status && b) (parents r.parent refl)
      where
        parents : (o : Option ℕ) → r.parent ≡ o → option_map_or (status_is above (facts_by t)) o false
            ≡ option_map_or (status_is above (facts_by s)) o false
        parents None g = refl
        parents (Some b) g = status_is_stays above s t b (status r b e g)

-- whether its parent does anything to an action
turn_is : (s : State) (a : ℕ) → is_some (turn_by s a) ≡ (with_parent is_active is_closing s a
    || with_parent is_cancellable is_cancelling s a)
turn_is s a = known (at_action (may_close_with_parent (facts_by s)) (facts_by s) a)
    (at_action (may_cancel_with_parent (facts_by s)) (facts_by s) a)
  where
    known : (b c : Bool) → is_some (cond b (Some (Close a cause.Parent)) (cond c (Some (Cancel a cause.Parent)) None))
        ≡ (b || c)
    known true c = refl
    known false true = refl
    known false false = refl

turn_stays : (s t : State) (a : ℕ) → face_at t a ≡ face_at s a → ((r : ActionRow) (b : ℕ) → row_at s.actions a ≡ Some r
    → r.parent ≡ Some b → status_at t b ≡ status_at s b) → is_some (turn_by t a) ≡ is_some (turn_by s a)
turn_stays s t a same status =
    turn_is t a
    ∙ ap (λ (b : Bool). b || with_parent is_cancellable is_cancelling t a)
    (with_parent_stays is_active is_closing s t a same status)
    ∙ ap (λ (b : Bool). with_parent is_active is_closing s a || b) (with_parent_stays is_cancellable is_cancelling s t a
    same status)
    ∙ sym (turn_is s a)

-- whether an action may end goes by its row
end_is : (s : State) (a : ℕ) → is_some (end_by s a) ≡ option_map_or (λ (b : Bool). b)
    (option_map settled_by (row_at s.actions a)) false
end_is s a = known (row_at s.actions a)
  where
    by_test : (b : Bool) (d : Deed) → is_some (cond b (Some d) None) ≡ b
    by_test true d = refl
    by_test false d = refl

    known : (o : Option ActionRow)
        → is_some (option_and_then (λ (x : ActionFacts). cond x.settled (Some (End a x.right_end)) None)
        (option_map (action_by s) o)) ≡ option_map_or (λ (b : Bool). b) (option_map settled_by o) false
    known None = refl
    known (Some r) = by_test (settled_by r) (End a (action_by s r).right_end)

end_stays : (s t : State) (a : ℕ) → option_map settled_by (row_at t.actions a)
    ≡ option_map settled_by (row_at s.actions a) → is_some (end_by t a) ≡ is_some (end_by s a)
end_stays s t a h = end_is t a ∙ ap (λ (o : Option Bool). option_map_or (λ (b : Bool). b) o false) h ∙ sym (end_is s a)

-- ---- changes of the state

-- no row changes
pub rows_stay : (s t : State) (ps xs : List ℕ) → t.members ≡ s.members → t.actions ≡ s.actions → Stays s t ps xs
rows_stay s t ps xs same_members same_actions =
    let rows : (a : ℕ) → row_at t.actions a ≡ row_at s.actions a = λ a. ap (λ (rs : List ActionRow). row_at rs a)
    same_actions in
    record {
      skips = λ p g. skip_stays s t p (ap (λ (rs : List MemberRow). row_at rs p) same_members)
          (λ r e. ap (option_map (λ (x : ActionRow). x.status)) (rows r.action));
      turns = λ a g. turn_stays s t a (ap (option_map face) (rows a)) (λ r b e h. ap
          (option_map (λ (x : ActionRow). x.status)) (rows b));
      ends = λ a g. end_stays s t a (ap (option_map settled_by) (rows a));
    }

-- a change of actions' rows that leaves parents and statuses, and that of one what it may do
counts_stay : (s t : State) (ps xs : List ℕ) → ((p : ℕ) → is_among ps p ≡ false → row_at t.members p
    ≡ row_at s.members p) → ((a : ℕ) → face_at t a ≡ face_at s a)
    → ((a : ℕ) → is_among xs a ≡ false → option_map settled_by (row_at t.actions a)
    ≡ option_map settled_by (row_at s.actions a)) → Stays s t ps xs
counts_stay s t ps xs members faces settled = record {
  skips = λ p g. skip_stays s t p (members p g) (λ r e. status_from_face s t r.action (faces r.action));
  turns = λ a g. turn_stays s t a (faces a) (λ r b e h. status_from_face s t b (faces b));
  ends = λ a g. end_stays s t a (settled a g);
}

-- a member's row changes, and its action counts anew
pub member_stays : (f : MemberRow → MemberRow) (p : ℕ) (s : State) (ps xs : List ℕ)
    → ((q : ℕ) → is_among ps q ≡ false → q ≢ p) → ((r : MemberRow) → row_at s.members p ≡ Some r → (a : ℕ)
    → is_among xs a ≡ false → a ≢ r.action)
    → Stays s (change_member f p s) ps xs
member_stays f p s ps xs others apart = known (row_at s.members p) refl
  where
    known : (o : Option MemberRow) → row_at s.members p ≡ o → Stays s (option_map_or
        (λ (r : MemberRow). record s {
          members = change_row f p s.members;
          actions =
              change_row (with_member r (f r)) r.action s.actions;
        }) o s) ps xs
    known None e = rows_stay s s ps xs refl refl
    known (Some r) e = counts_stay s
        (record s { members = change_row f p s.members; actions = change_row (with_member r (f r)) r.action s.actions })
        ps xs
        (λ q g. row_at-change_other f p s.members q (others q g))
        (λ a. row_at-change_kept face (with_member r (f r)) r.action s.actions a (λ x. refl))
        (λ a g. ap (option_map settled_by) (row_at-change_other (with_member r (f r)) r.action s.actions a
        (apart r e a g)))

-- an action's limit is renewed
pub limit_stays : (f : ActionRow → ActionRow) (a : ℕ) (s : State) (ps xs : List ℕ)
    → ((r : ActionRow) → face (f r) ≡ face r) → ((r : ActionRow) → settled_by (f r) ≡ settled_by r)
    → Stays s (record s { actions = change_row f a s.actions }) ps xs
limit_stays f a s ps xs faces settled = counts_stay s (record s { actions = change_row f a s.actions }) ps xs
    (λ p g. refl) (λ x. row_at-change_kept face f a s.actions x faces)
    (λ x g. row_at-change_kept settled_by f a s.actions x settled)

-- a member joins
pub join_stays : (now : MemberRow) (a : ℕ) (s : State) (ps xs : List ℕ)
    → ((p : ℕ) → is_among ps p ≡ false → p ≢ suc (length s.members)) → ((x : ℕ) → is_among xs x ≡ false → x ≢ a)
    → Stays s (record s { members = s.members ++ now ∷ []; actions = change_row (with_new_member now) a s.actions }) ps
    xs
join_stays now a s ps xs fresh others =
    counts_stay s (record s { members = s.members ++ now ∷ []; actions = change_row (with_new_member now) a s.actions })
    ps xs
    (λ p g. row_at-push_other s.members now p (fresh p g))
    (λ x. row_at-change_kept face (with_new_member now) a s.actions x (λ r. refl))
    (λ x g. ap (option_map settled_by) (row_at-change_other (with_new_member now) a s.actions x (others x g)))

-- a change of actions' rows that may change the parent and the status of one
status_changes : (s t : State) (ps xs : List ℕ) (a : ℕ) → t.members ≡ s.members
    → ((x : ℕ) → x ≢ a → face_at t x ≡ face_at s x) → ((x : ℕ) → is_among xs x ≡ false
    → option_map settled_by (row_at t.actions x) ≡ option_map settled_by (row_at s.actions x))
    → ((p : ℕ) (r : MemberRow) → row_at s.members p ≡ Some r → is_among ps p ≡ false → r.action ≢ a)
    → ((x : ℕ) → is_among xs x ≡ false → x ≢ a)
    → ((x : ℕ) (r : ActionRow) (b : ℕ) → row_at s.actions x ≡ Some r → is_among xs x ≡ false → r.parent ≡ Some b → b
    ≢ a) → Stays s t ps xs
status_changes s t ps xs a same faces settled members others children = record {
  skips = λ p g. skip_stays s t p (ap (λ (rs : List MemberRow). row_at rs p) same)
      (λ r e. status_from_face s t r.action (faces r.action (members p r e g)));
  turns = λ x g. turn_stays s t x (faces x (others x g)) (λ r b e h. status_from_face s t b
      (faces b (children x r b e g h)));
  ends = λ x g. end_stays s t x (settled x g);
}

-- an action's status changes, and its parent counts anew
pub status_stays : (now : ActionStatus) (a : ℕ) (s : State) (ps xs : List ℕ)
    → ((p : ℕ) (r : MemberRow) → row_at s.members p ≡ Some r → is_among ps p ≡ false → r.action ≢ a)
    → ((x : ℕ) → is_among xs x ≡ false → x ≢ a)
    → ((x : ℕ) (r : ActionRow) (b : ℕ) → row_at s.actions x ≡ Some r → is_among xs x ≡ false → r.parent ≡ Some b → b
    ≢ a)
    → ((r : ActionRow) (b : ℕ) → row_at s.actions a ≡ Some r → r.parent ≡ Some b → (x : ℕ) → is_among xs x ≡ false → x
    ≢ b) → Stays s (change_status now a s) ps xs
status_stays now a s ps xs members others children parents = known (row_at s.actions a) refl
  where
    turned : List ActionRow
    turned = change_row (λ (x : ActionRow). record x { status = now }) a s.actions

    same : (x : ℕ) → x ≢ a → row_at turned x ≡ row_at s.actions x
    same x other = row_at-change_other (λ (r : ActionRow). record r { status = now }) a s.actions x other

    above : (r : ActionRow) (o : Option ℕ) → ((b : ℕ) → o ≡ Some b → (x : ℕ) → is_among xs x ≡ false → x ≢ b)
        → Stays s (record s { actions = option_map_or (λ b. change_row (with_child r.status now) b turned) o turned })
        ps xs
    above r None apart = status_changes s (record s { actions = turned }) ps xs a refl
        (λ x other. ap (option_map face) (same x other)) (λ x g. ap (option_map settled_by) (same x (others x g)))
        members others children
    above r (Some b) apart = status_changes s (record s { actions = change_row (with_child r.status now) b turned }) ps
        xs a refl
        (λ x other. row_at-change_kept face (with_child r.status now) b turned x (λ i. refl)
        ∙ ap (option_map face) (same x other))
        (λ x g. ap (option_map settled_by) (row_at-change_other (with_child r.status now) b turned x (apart b refl x g)
        ∙ same x (others x g)))
        members others children

    known : (o : Option ActionRow) → row_at s.actions a ≡ o → Stays s (option_map_or
        (λ (r : ActionRow). record s {
          actions = option_map_or (λ b. change_row (with_child r.status now) b turned)
              r.parent turned;
        }) o s) ps xs
    known None e = rows_stay s s ps xs refl refl
    known (Some r) e = above r r.parent (λ b h. parents r b e h)

-- an action starts
pub start_stays : (now : ActionRow) (parent : Option ℕ) (s : State) (ps xs : List ℕ)
    → ((p : ℕ) (r : MemberRow) → row_at s.members p ≡ Some r → r.action ≢ suc (length s.actions))
    → ((x : ℕ) → is_among xs x ≡ false → x ≢ suc (length s.actions))
    → ((x : ℕ) (r : ActionRow) (b : ℕ) → row_at s.actions x ≡ Some r → r.parent ≡ Some b → b ≢ suc (length s.actions))
    → ((b : ℕ) → parent ≡ Some b → (x : ℕ) → is_among xs x ≡ false → x ≢ b)
    → Stays s (record s {
      actions = option_map_or (λ b. change_row with_new_child b s.actions) parent s.actions ++ now
          ∷ [];
    }) ps xs
start_stays now None s ps xs members fresh children apart =
    status_changes s (record s { actions = s.actions ++ now ∷ [] }) ps xs (suc (length s.actions)) refl
    (λ x other. ap (option_map face) (row_at-push_other s.actions now x other))
    (λ x g. ap (option_map settled_by) (row_at-push_other s.actions now x (fresh x g)))
    (λ p r e g. members p r e) fresh (λ x r b e g h. children x r b e h)
start_stays now (Some b) s ps xs members fresh children apart =
    let counted = change_row with_new_child b s.actions in
    let size : length counted ≡ length s.actions = length-change_row with_new_child b s.actions in
    let same : (x : ℕ) → x ≢ suc (length s.actions) → row_at (counted ++ now ∷ []) x
    ≡ row_at counted x = λ x other. row_at-push_other counted now x (λ e. other (e ∙ ap suc size)) in
    status_changes s (record s { actions = counted ++ now ∷ [] }) ps xs (suc (length s.actions)) refl
    (λ x other. ap (option_map face) (same x other) ∙ row_at-change_kept face with_new_child b s.actions x (λ i. refl))
    (λ x g. ap (option_map settled_by) (same x (fresh x g) ∙ row_at-change_other with_new_child b s.actions x
    (apart b refl x g)))
    (λ p r e g. members p r e) fresh (λ x r c e g h. children x r c e h)
