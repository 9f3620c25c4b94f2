-- The counts of a journal with each entry.
use Rattle.std.proofs.Common.{◌≡◌, ℕ, zero, suc, ◌+◌, Bool, true, List, [], ◌∷◌, ◌++◌, length, map, Option, Some, None}
use Rattle.std.proofs.Common.{refl, sym, ap, ◌∙◌}
use Rattle.std.specs.Prelude.{slice_get, slice_set, count_by}
use Rattle.std.specs.Prelude.{false, Result, Ok, Err, OnOk}
use Rattle.std.specs.Option.{option_map_or}
use Rattle.std.specs.Result.{is_err}
use Rattle.std.proofs.lemmas.List.{length-map, map-append}
use Rattle.lra_model.specs.declared.status.ActionStatus.{ActionStatus}
use Rattle.lra_model.specs.declared.status.ActionStatus.TheVariants as action
use Rattle.lra_model.specs.declared.status.MemberStatus.TheVariants as member
use Rattle.lra_model.specs.declared.version.Version.{Version}
use Rattle.lra_model.specs.declared.entry.Entry.{Entry}
use Rattle.lra_model.specs.declared.entry.Deed.{Deed}
use Rattle.lra_model.specs.declared.entry.Deed.TheVariants.{Enrol, Start, Join, Leave, Close, Cancel, Skip, Ask, Reply}
use Rattle.lra_model.specs.declared.entry.Deed.TheVariants.{Report, End, Restart, Renew}
use Rattle.lra_model.specs.History.{History, actions, members, asks}
use Rattle.lra_model.specs.Rules.{is_legal}
use Rattle.lra_model.specs.Tallies.{count_actions}
use Rattle.lra_laws.specs.Rows.{ActionRow, MemberRow, State, row_at, change_row, change_member, change_status}
use Rattle.lra_laws.specs.Rows.{action_row}
use Rattle.lra_laws.specs.Rows.{with_member, with_new_member, with_child, with_new_child, new_member, with_ask}
use Rattle.lra_laws.specs.Rows.{with_reply}
use Rattle.lra_laws.specs.Rows.{with_report, with_skip, place_of, new_action, new_top, after_deed, is_unended, one}
use Rattle.lra_laws.specs.Rows.{state_of}
use Rattle.lra_laws.proofs.Legal.{legal_push}
use Rattle.lra_laws.proofs.Told.{told}
use Rattle.lra_laws.proofs.StatePush.{push_by_deed}
use Rattle.lra_laws.proofs.RowLists.{count_cons}
use Rattle.lra_totals.specs.Summaries.{summary}
use Rattle.lra_totals.proofs.TotalsLaw.{summary_agree}
use Rattle.lra_inspect.specs.inner.Statuses.{with_status, statuses_after}

-- the statuses of rows
abbrev pub statuses : List ActionRow → List ActionStatus
statuses rows = map (λ (r : ActionRow). r.status) rows

-- ---- a row that is changed

-- what is read of rows of which one is set, or none, with another row before them
pull : {R Y : Type 0} (g : R → Y) (f : R → R) (r : R) (k : ℕ) (rest : List R) (o : Option R)
    → map g (option_map_or (λ (x : R). r ∷ slice_set rest k (f x)) o (r ∷ rest))
    ≡ g r ∷ map g (option_map_or (λ (x : R). slice_set rest k (f x)) o rest)
pull g f r k rest None = refl
pull g f r k rest (Some x) = refl

-- a change of a row that keeps what is read of it
kept : {R Y : Type 0} (g : R → Y) (f : R → R) → ((r : R) → g (f r) ≡ g r) → (n : ℕ) (rows : List R)
    → map g (change_row f n rows) ≡ map g rows
kept {R = R} {Y = Y} g f e zero rows = refl
kept {R = R} {Y = Y} g f e (suc n) rows = at n rows
  where
    at : (k : ℕ) (rows : List R)
        → map g (option_map_or (λ (r : R). slice_set rows k (f r)) (slice_get rows k) rows) ≡ map g rows
    at k [] = refl
    at zero (r ∷ rest) = ap (λ (y : Y). y ∷ map g rest) (e r)
    at (suc k) (r ∷ rest) = pull g f r k rest (slice_get rest k) ∙ ap (λ (ys : List Y). g r ∷ ys) (at k rest)

-- a change of a row that sets what is read of it
set : {R Y : Type 0} (g : R → Y) (f : R → R) (y : Y) → ((r : R) → g (f r) ≡ y) → (n : ℕ) (rows : List R)
    → map g (change_row f n rows) ≡ change_row (λ _. y) n (map g rows)
set {R = R} {Y = Y} g f y e zero rows = refl
set {R = R} {Y = Y} g f y e (suc n) rows = at n rows
  where
    push : (z : Y) (k : ℕ) (rest : List Y) (o : Option Y)
        → z ∷ option_map_or (λ (_ : Y). slice_set rest k y) o rest
        ≡ option_map_or (λ (_ : Y). z ∷ slice_set rest k y) o (z ∷ rest)
    push z k rest None = refl
    push z k rest (Some x) = refl

    at : (k : ℕ) (rows : List R)
        → map g (option_map_or (λ (r : R). slice_set rows k (f r)) (slice_get rows k) rows)
        ≡ option_map_or (λ (_ : Y). slice_set (map g rows) k y) (slice_get (map g rows) k) (map g rows)
    at k [] = refl
    at zero (r ∷ rest) = ap (λ (z : Y). z ∷ map g rest) (e r)
    at (suc k) (r ∷ rest) = pull g f r k rest (slice_get rest k) ∙ ap (λ (ys : List Y). g r ∷ ys) (at k rest)
        ∙ push (g r) k (map g rest) (slice_get (map g rest) k)

-- no row is changed where none is
absent : {R : Type 0} (f : R → R) (n : ℕ) (rows : List R) → row_at rows n ≡ None → change_row f n rows ≡ rows
absent f zero rows e = refl
absent {R = R} f (suc n) rows e = ap (λ (o : Option R). option_map_or (λ (r : R). slice_set rows n (f r)) o rows) e

-- ---- one more deed

member_kept : (f : MemberRow → MemberRow) (p : ℕ) (s : State)
    → statuses (change_member f p s).actions ≡ statuses s.actions
member_kept f p s = decide (row_at s.members p)
  where
    decide : (o : Option MemberRow)
        → statuses (option_map_or (λ (r : MemberRow). record s {
          members = change_row f p s.members;
          actions = change_row (with_member r (f r)) r.action s.actions;
        }) o s).actions ≡ statuses s.actions
    decide None = refl
    decide (Some r) = kept (λ (x : ActionRow). x.status) (with_member r (f r)) (λ x. refl) r.action s.actions

parent_kept : (f : ActionRow → ActionRow) → ((r : ActionRow) → (f r).status ≡ r.status) → (o : Option ℕ)
    (rows : List ActionRow) → statuses (option_map_or (λ b. change_row f b rows) o rows) ≡ statuses rows
parent_kept f e None rows = refl
parent_kept f e (Some b) rows = kept (λ (x : ActionRow). x.status) f e b rows

turned : (now : ActionStatus) (a : ℕ) (s : State)
    → statuses (change_status now a s).actions ≡ with_status now a (statuses s.actions)
turned now a s =
    decide (row_at s.actions a) refl ∙ set (λ (x : ActionRow). x.status) to now (λ x. refl) a s.actions
  where
    to : ActionRow → ActionRow
    to x = record x { status = now }

    decide : (o : Option ActionRow) → row_at s.actions a ≡ o
        → statuses (option_map_or (λ (r : ActionRow). record s {
          actions = option_map_or (λ b. change_row (with_child r.status now) b (change_row to a s.actions)) r.parent
              (change_row to a s.actions);
        }) o s).actions ≡ statuses (change_row to a s.actions)
    decide None e = ap statuses (sym (absent to a s.actions e))
    decide (Some r) e = parent_kept (with_child r.status now) (λ x. refl) r.parent (change_row to a s.actions)

-- the statuses of the rows after one more deed
after_deed_turns : (m : ℕ) (d : Deed) (s : State)
    → statuses (after_deed m d s).actions ≡ statuses_after d (statuses s.actions)
after_deed_turns m Enrol s = refl
after_deed_turns m (Start a parent limit) s =
    map-append (λ (r : ActionRow). r.status)
    (option_map_or (λ b. change_row with_new_child b s.actions) parent s.actions)
    (new_action a parent (new_top s a parent) limit m ∷ [])
    ∙ ap (λ (ss : List ActionStatus). ss ++ action.Active ∷ [])
    (parent_kept with_new_child (λ x. refl) parent s.actions)
after_deed_turns m (Join p a u) s = kept (λ (x : ActionRow). x.status) (with_new_member (new_member a u)) (λ x. refl) a
    s.actions
after_deed_turns m (Leave p) s = member_kept (λ (r : MemberRow). record r { status = member.Left }) p s
after_deed_turns m (Close a cause) s = turned action.Closing a s
after_deed_turns m (Cancel a cause) s = turned action.Cancelling a s
after_deed_turns m (Skip p) s = member_kept with_skip p s
after_deed_turns m (Ask n p kind) s = member_kept (with_ask n kind) p (record s { asks = s.asks + 1 })
after_deed_turns m (Reply n o) s = member_kept (with_reply o) (place_of n s.members) s
after_deed_turns m (Report p o) s = member_kept (with_report o) p s
after_deed_turns m (End a status) s = turned status a s
after_deed_turns m Restart s = refl
after_deed_turns m (Renew a limit) s = kept (λ (x : ActionRow). x.status)
    (λ (r : ActionRow). record r { limit = record { length_of = limit; since = m } }) (λ x. refl) a s.actions

-- ---- histories

-- no entries have no actions
pub statuses_none : statuses (state_of []).actions ≡ []
unfolding actions
statuses_none = refl

-- the statuses after one more entry
pub statuses_push : (v : Version) (t : List ℕ → Bool) (J : History) (e : Entry) → is_legal v t (J ++ e ∷ []) ≡ true
    → statuses (state_of (J ++ e ∷ [])).actions ≡ statuses_after e.deed (statuses (state_of J).actions)
statuses_push v t J e legal =
    let (l, k) = legal_push v t J e legal in
    ap (λ (s : State). statuses s.actions)
    (push_by_deed v t J e.by e.moment e.deed l k (told v t J e.by e.moment e.deed k))
    ∙ after_deed_turns e.moment e.deed (record (state_of J) { moment = e.moment })

-- each action has one status
pub statuses_number : (J : History) → length (statuses (state_of J).actions) ≡ length (actions J)
statuses_number J = length-map (map (action_row J) (actions J)) (λ (r : ActionRow). r.status)
    ∙ length-map (actions J) (action_row J)

counted : (test : ActionStatus → Bool) (rows : List ActionRow)
    → count_by test (statuses rows) ≡ count_by (λ (r : ActionRow). test r.status) rows
counted test [] = refl
counted test (r ∷ rows) =
    count_cons test r.status (statuses rows)
    ∙ ap (λ (n : ℕ). one (test r.status) + n) (counted test rows)
    ∙ sym (count_cons (λ (x : ActionRow). test x.status) r rows)

-- the statuses of a legal history that aren't of an end are as many as its actions that haven't ended
pub unended_number : (v : Version) (t : List ℕ → Bool) (J : History) → is_legal v t J ≡ true
    → count_by is_unended (statuses (state_of J).actions) ≡ count_actions is_unended J
unfolding summary
unended_number v t J l =
    counted is_unended (state_of J).actions ∙ ap (λ (s : _). s.unended) (summary_agree v t J l)

-- ---- results

-- what holds of a result that is no error
pub without_error : {T E : Type 0} (r : Result T E) (P : Type 0) → OnOk r P → is_err r ≡ false → P
without_error (Ok x) P h e = h
without_error (Err x) P h e = absurd cc
