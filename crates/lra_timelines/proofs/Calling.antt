-- The calls of actions' members, gathered while a journal is read.
use Rattle.std.proofs.Common.{◌≡◌, ℕ, ◌+◌, ◌==◌, zero, suc, Bool, true, false, cond, List, [], ◌∷◌, ◌++◌, length}
use Rattle.std.proofs.Common.{Option, Some, None, refl, sym, ap, ◌∙◌, inl, inr}
use Rattle.std.specs.Prelude.{IfSome, filter, slice_get, slice_set, option_map, unwrap_or}
use Rattle.std.specs.Option.{option_map_or, option_and_then}
use Rattle.std.specs.List.{list_any}
use Rattle.std.proofs.lemmas.Bool.Decides.{eqb_tells}
use Rattle.std.proofs.lemmas.Option.{none-some}
use Rattle.std.proofs.lemmas.List.{append-nil}
use Rattle.std.proofs.lemmas.List.Elements.{filter-append}
use Rattle.lra_model.specs.declared.asks.Outcome.{Outcome}
use Rattle.lra_model.specs.declared.asks.Outcome.TheVariants as outcome
use Rattle.lra_model.specs.declared.entry.Deed.{Deed}
use Rattle.lra_model.specs.declared.entry.Deed.TheVariants as deed
use Rattle.lra_model.specs.declared.entry.Entry.{Entry}
use Rattle.lra_model.specs.declared.status.ActionStatus.{ActionStatus}
use Rattle.lra_model.specs.declared.version.Version.{Version}
use Rattle.lra_model.specs.Actions.{members_of}
use Rattle.lra_model.specs.History.{History}
use Rattle.lra_model.specs.Rules.{is_legal}
use Rattle.lra_model.specs.Wants.{stage_of}
use Rattle.lra_ids.specs.Addresses.{is_address}
use Rattle.lra_laws.specs.Snapshots.{snapshot_of}
use Rattle.lra_rows.specs.declared.found.AskRow.{AskRow}
use Rattle.lra_rows.specs.declared.found.MemberRow.{MemberRow}
use Rattle.lra_rows.specs.Found.{found_member, found_ask}
use Rattle.lra_timelines.specs.declared.calls.Call.{Call}
use Rattle.lra_timelines.specs.declared.calls.Calls.{Calls}
use Rattle.lra_timelines.specs.declared.timeline_items.TimelineItem.{TimelineItem}
use Rattle.lra_timelines.specs.declared.timeline_items.TimelineItem.TheVariants as timeline_item
use Rattle.lra_timelines.specs.declared.timeline_items.Told.{Told}
use Rattle.lra_timelines.specs.TimelineItems.{fact_in, when, is_at, is_member_of, is_child_of, is_asked}
use Rattle.lra_timelines.specs.TimelineItems.{status_now, stage_reported, told_of, told}
use Rattle.lra_timelines.specs.inner.Called.{is_call, tells_call, calls, of_answer, call_in}
use Rattle.lra_timelines.specs.inner.Called.{kept_at, kept_more, told_call, Keeps, Called}
use Rattle.lra_timelines.proofs.Hearing.{told_none, told_push}

-- ---- the calls of one entry

-- the calls among the timeline items of one entry
abbrev told_calls : ℕ → ℕ → ActionStatus → Option TimelineItem → List Told
told_calls line moment s o = filter tells_call (told_of line moment s o)

-- an item that is no call adds none
quiet : (line moment : ℕ) (s : ActionStatus) (b : Bool) (f : TimelineItem) → is_call f ≡ false
    → told_calls line moment s (when b f) ≡ []
quiet line moment s true f other =
    ap (λ (b : Bool). cond b (record { line = line; moment = moment; status = s; timeline_item = f } ∷ []) []) other
quiet line moment s false f other = refl

quiet_either : (line moment : ℕ) (s : ActionStatus) (b c : Bool) (f g : TimelineItem) → is_call f ≡ false
    → is_call g ≡ false
    → told_calls line moment s (cond b (Some f) (when c g)) ≡ []
quiet_either line moment s true c f g other neither = quiet line moment s true f other
quiet_either line moment s false c f g other neither = quiet line moment s c g neither

-- the item of a report for an action
abbrev reported : ℕ → ℕ → Outcome → MemberRow → Option TimelineItem
reported a p o r = when (r.action == a) (timeline_item.Reported p (stage_reported r.status) o)

quiet_report : (line moment : ℕ) (s : ActionStatus) (a p : ℕ) (o : Outcome) (r : Option MemberRow)
    → told_calls line moment s (option_and_then (reported a p o) r) ≡ []
quiet_report line moment s a p o None = refl
quiet_report line moment s a p o (Some r) =
    quiet line moment s (r.action == a) (timeline_item.Reported p (stage_reported r.status) o) refl

-- a call is added to the member's action alone
one_call : (K : History) (line moment a : ℕ) (f : TimelineItem) (o : Option MemberRow) → is_call f ≡ true
    → told_calls line moment (status_now K a) (when (option_map_or (λ (r : MemberRow). r.action == a) o false) f)
    ≡ told_call K line moment (option_map (λ (r : MemberRow). record { action = r.action; timeline_item = f }) o) a
one_call K line moment a f None so = refl
one_call K line moment a f (Some r) so = elim (eqb_tells r.action a) [
  | inl x ↦
      ap (λ (b : Bool). told_calls line moment (status_now K a) (when b f)) x.0
      ∙ ap (λ (b : Bool). cond b (tells a ∷ []) []) so
      ∙ ap (λ (n : ℕ). tells n ∷ []) (sym x.1)
      ∙ sym (ap (λ (b : Bool). cond b (tells r.action ∷ []) []) x.0)
  | inr x ↦
      ap (λ (b : Bool). told_calls line moment (status_now K a) (when b f)) x.0
      ∙ sym (ap (λ (b : Bool). cond b (tells r.action ∷ []) []) x.0)
]
  where
    tells : ℕ → Told
    tells n = record { line = line; moment = moment; status = status_now K n; timeline_item = f }

-- the item of an answer to the ask of a number
abbrev answered : ℕ → Outcome → AskRow → TimelineItem
answered n o x = timeline_item.Answered n x.member (stage_of x.kind x.direction) o

-- an answer is added just if the member is asked again after it
one_answer : (J K : History) (line moment a n : ℕ) (o : Outcome) (x : Option AskRow)
    → told_calls line moment (status_now K a)
    (option_and_then (λ (y : AskRow). when (is_member_of J a y.member) (answered n o y)) x)
    ≡ told_call K line moment (option_and_then (of_answer J n o) x) a
one_answer J K line moment a n o None = refl
one_answer J K line moment a n outcome.Done (Some x) =
    quiet line moment (status_now K a) (is_member_of J a x.member) (answered n outcome.Done x) refl
one_answer J K line moment a n outcome.Failed (Some x) =
    quiet line moment (status_now K a) (is_member_of J a x.member) (answered n outcome.Failed x) refl
one_answer J K line moment a n outcome.Accepted (Some x) =
    one_call K line moment a (answered n outcome.Accepted x) (found_member J x.member) refl
one_answer J K line moment a n outcome.Silent (Some x) =
    one_call K line moment a (answered n outcome.Silent x) (found_member J x.member) refl

-- an entry of this deed
abbrev entry_of : ℕ → ℕ → Deed → Entry
entry_of by moment d = record { by = by; moment = moment; deed = d }

one_entry : (J K : History) (line a by moment : ℕ) (d : Deed)
    → told_calls line moment (status_now K a) (fact_in a J (entry_of by moment d))
    ≡ told_call K line moment (call_in J (entry_of by moment d)) a
one_entry J K line a by moment deed.Enrol = refl
one_entry J K line a by moment (deed.Start b parent limit) =
    quiet_either line moment (status_now K a) (b == a) (is_at a parent)
    (timeline_item.Started by moment parent limit) (timeline_item.NestedStarted b) refl refl
one_entry J K line a by moment (deed.Join p b uris) = quiet line moment (status_now K a) (b == a)
    (timeline_item.Joined p) refl
one_entry J K line a by moment (deed.Leave p) =
    quiet line moment (status_now K a) (is_member_of J a p) (timeline_item.Left p) refl
one_entry J K line a by moment (deed.Close b cause) =
    quiet_either line moment (status_now K a) (b == a) (is_child_of J a b)
    (timeline_item.Closes cause) (timeline_item.NestedCloses b) refl refl
one_entry J K line a by moment (deed.Cancel b cause) =
    quiet_either line moment (status_now K a) (b == a) (is_child_of J a b)
    (timeline_item.Cancels cause) (timeline_item.NestedCancels b) refl refl
one_entry J K line a by moment (deed.Skip p) =
    quiet line moment (status_now K a) (is_member_of J a p) (timeline_item.Skipped p) refl
one_entry J K line a by moment (deed.Ask n p kind) =
    one_call K line moment a (timeline_item.Asked n p kind) (found_member J p) refl
one_entry J K line a by moment (deed.Reply n o) = one_answer J K line moment a n o (found_ask J n)
one_entry J K line a by moment (deed.Report p o) = quiet_report line moment (status_now K a) a p o (found_member J p)
one_entry J K line a by moment (deed.End b status) =
    quiet_either line moment (status_now K a) (b == a) (is_child_of J a b)
    timeline_item.Ended (timeline_item.NestedEnded b status) refl refl
one_entry J K line a by moment deed.Restart =
    quiet line moment (status_now K a) (list_any (is_asked J) (members_of J a)) timeline_item.Restarted refl
one_entry J K line a by moment (deed.Renew b limit) =
    quiet line moment (status_now K a) (b == a) (timeline_item.Renewed limit) refl

-- ---- the calls of a history

-- the calls of no entries
pub calls_none : (a : ℕ) → calls a [] ≡ []
calls_none a = ap (filter tells_call) (told_none a)

-- the calls with one more entry
calls_push : (a : ℕ) (J : History) (e : Entry)
    → calls a (J ++ e ∷ []) ≡ calls a J ++ told_call (J ++ e ∷ []) (length J + 2) e.moment (call_in J e) a
calls_push a J e =
    ap (filter tells_call) (told_push a J e)
    ∙ filter-append tells_call (told a J) (told_of (length J + 2) e.moment (status_now (J ++ e ∷ []) a) (fact_in a J e))
    ∙ ap (λ (ts : List Told). calls a J ++ ts) (one_entry J (J ++ e ∷ []) (length J + 2) a e.by e.moment e.deed)

-- the rows of calls with one more entry
pub kept_on : (J : History) (e d : Entry) (before after : List (List Told)) (line : ℕ) (call : Option Call) → d ≡ e
    → ((a : ℕ) → kept_at before a ≡ calls a J) → line ≡ length J + 2 → call ≡ call_in J d
    → ((a : ℕ) → kept_at after a ≡ kept_at before a ++ told_call (J ++ d ∷ []) line d.moment call a)
    → (a : ℕ) → kept_at after a ≡ calls a (J ++ e ∷ [])
kept_on J e d before after line call same had at is more a =
    more a
    ∙ ap (λ (ts : List Told). ts ++ told_call (J ++ d ∷ []) line d.moment call a) (had a)
    ∙ ap (λ (n : ℕ). calls a J ++ told_call (J ++ d ∷ []) n d.moment call a) at
    ∙ ap (λ (c : Option Call). calls a J ++ told_call (J ++ d ∷ []) (length J + 2) d.moment c a) is
    ∙ sym (calls_push a J d)
    ∙ ap (λ (x : Entry). calls a (J ++ x ∷ [])) same

-- no entries have no rows of calls
pub kept_none : (a : ℕ) → kept_at [] a ≡ calls a []
kept_none a = sym (calls_none a)

-- the items that a call adds, or no call
pub call_told : (J : History) (line moment : ℕ) (o : Option Call) (c : Call) (s : ActionStatus) (a : ℕ)
    (kept : List Told) → o ≡ Some c → s ≡ status_now J c.action
    → kept ++ kept_more c.action (record { line = line; moment = moment; status = s; timeline_item = c.timeline_item })
    a
    ≡ kept ++ told_call J line moment o a
call_told J line moment o c s a kept is now =
    ap (λ (t : ActionStatus). kept ++ kept_more c.action (tells t) a) now
    ∙ sym (ap (λ (x : Option Call). kept ++ told_call J line moment x a) is)
  where
    tells : ActionStatus → Told
    tells t = record { line = line; moment = moment; status = t; timeline_item = c.timeline_item }

pub none_told : (J : History) (line moment : ℕ) (o : Option Call) (a : ℕ) (kept : List Told) → o ≡ None
    → kept ≡ kept ++ told_call J line moment o a
none_told J line moment o a kept is =
    sym (ap (λ (x : Option Call). kept ++ told_call J line moment x a) is ∙ append-nil kept)

-- the calls of a history are those of the same history, which is legal
pub all_called : (o : Option Calls) (v : Version) (J K : History) → is_legal v is_address J ≡ true → K ≡ J
    → IfSome o (λ c. Keeps c K) → IfSome o (λ c. Called c J)
all_called None v J K legal same keeps = tt
all_called (Some c) v J K legal same keeps = record {
  stands = record {
    version = v;
    is_address = is_address;
    legal = legal;
    snapshot = keeps.snapshot ∙ ap snapshot_of
        same;
  };
  told = λ a. keeps.told a ∙ ap (calls a) same;
}

-- ---- rows of calls

-- one more empty row adds no call
pub empty_more : (before after : List (List Told)) (row : List Told) (a : ℕ) → row ≡ [] → after ≡ before ++ row ∷ []
    → kept_at after a ≡ kept_at before a
empty_more before after row a none more =
    ap (λ (rows : List (List Told)). kept_at rows a) (more ∙ ap (λ (x : List Told). before ++ x ∷ []) none)
    ∙ past before a
  where
    past : (rows : List (List Told)) (b : ℕ) → kept_at (rows ++ [] ∷ []) b ≡ kept_at rows b
    past [] zero = refl
    past [] (suc b) = refl
    past (x ∷ rows) zero = refl
    past (x ∷ rows) (suc b) = past rows b

-- a row in the place of another
set_there : (rows : List (List Told)) (k : ℕ) (x n : List Told) → slice_get rows k ≡ Some x
    → slice_get (slice_set rows k n) k ≡ Some n
set_there [] k x n e = absurd (none-some x e)
set_there (y ∷ rows) zero x n e = refl
set_there (y ∷ rows) (suc k) x n e = set_there rows k x n e

set_elsewhere : (rows : List (List Told)) (k j : ℕ) (n : List Told) → (j ≡ k → ⊥)
    → slice_get (slice_set rows k n) j ≡ slice_get rows j
set_elsewhere [] k j n apart = refl
set_elsewhere (y ∷ rows) zero zero n apart = absurd (apart refl)
set_elsewhere (y ∷ rows) zero (suc j) n apart = refl
set_elsewhere (y ∷ rows) (suc k) zero n apart = refl
set_elsewhere (y ∷ rows) (suc k) (suc j) n apart = set_elsewhere rows k j n (λ e. apart (ap suc e))

-- one more item in an action's row
pub kept_pushed : (rows : List (List Told)) (k : ℕ) (x n : List Told) (t : Told)
    → slice_get rows k ≡ Some x → n ≡ x ++ t ∷ []
    → (a : ℕ) → kept_at (slice_set rows k n) a ≡ kept_at rows a ++ kept_more k t a
kept_pushed rows k x n t there is a = elim (eqb_tells k a) [
  | inl y ↦
      ap (kept_at (slice_set rows k n)) (sym y.1)
      ∙ ap (λ (o : Option (List Told)). unwrap_or o []) (set_there rows k x n there)
      ∙ is
      ∙ ap (λ (o : Option (List Told)). unwrap_or o [] ++ t ∷ []) (sym there)
      ∙ ap (λ (j : ℕ). kept_at rows j ++ t ∷ []) y.1
      ∙ ap (λ (b : Bool). kept_at rows a ++ cond b (t ∷ []) []) (sym y.0)
  | inr y ↦
      ap (λ (o : Option (List Told)). unwrap_or o []) (set_elsewhere rows k a n (λ e. y.1 (sym e)))
      ∙ sym (ap (λ (b : Bool). kept_at rows a ++ cond b (t ∷ []) []) y.0 ∙ append-nil (kept_at rows a))
]
