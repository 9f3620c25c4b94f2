-- The notes on an action depend only on its calls.
use Rattle.std.proofs.Common.{◌≡◌, ℕ, ◌+◌, ◌<◌, ◌≤◌, ◌==◌, Bool, true, false, ◌&&◌, cond}
use Rattle.std.proofs.Common.{List, [], ◌∷◌, ◌++◌, length, take, get_or, map}
use Rattle.std.proofs.Common.{Option, Some, None, Global, refl, sym, ap, ◌∙◌}
use Rattle.std.specs.Prelude.{filter, String, string_bytes}
use Rattle.std.specs.Option.{option_map_or}
use Rattle.std.specs.List.{find, flat_map}
use Rattle.std.proofs.lemmas.Bool.{false≢true}
use Rattle.std.proofs.lemmas.List.{flat_map_more, map_more, take_all}
use Rattle.lra_model.specs.declared.asks.AskKind.{AskKind}
use Rattle.lra_model.specs.declared.status.ActionStatus.{ActionStatus}
use Rattle.lra_model.specs.Actions.{members_of, children}
use Rattle.lra_model.specs.History.{History}
use Rattle.lra_model.specs.Words.{same_kind, is_undecided}
use Rattle.lra_laws.proofs.Tested.{both}
use Rattle.lra_rows.specs.declared.found.ActionRow.{ActionRow}
use Rattle.lra_rows.specs.declared.found.AskRow.{AskRow}
use Rattle.lra_rows.specs.declared.found.MemberRow.{MemberRow}
use Rattle.lra_rows.specs.Found.{found_action, found_member, found_ask}
use Rattle.lra_timelines.specs.declared.timeline_items.TimelineItem.{TimelineItem}
use Rattle.lra_timelines.specs.declared.timeline_items.TimelineItem.TheVariants.{Asked, Answered}
use Rattle.lra_timelines.specs.declared.timeline_items.Told.{Told}
use Rattle.lra_timelines.specs.TimelineItems.{told}
use Rattle.lra_timelines.specs.Lines.{indented, waits_text}
use Rattle.lra_timelines.specs.Waits.{is_ask, is_repeat, since_text, open_line, address_at, asked_note, ask_note}
use Rattle.lra_timelines.specs.Waits.{stage_now, repeats_line, repeats_note, row_note, row_notes, member_notes}
use Rattle.lra_timelines.specs.Waits.{own_note, action_note, notes}
use Rattle.lra_timelines.specs.inner.Called.{is_call, tells_call, calls}

-- ---- a search after a filter

-- a search finds the same after a filter that passes all that the search may find
find_left : (p q : Told → Bool) → ((t : Told) → p t ≡ true → q t ≡ true) → (ts : List Told)
    → find p (filter q ts) ≡ find p ts
find_left p q all [] = refl
find_left p q all (t ∷ ts) = either (p t) (q t) refl refl (find_left p q all ts)
  where
    either : (b c : Bool) → p t ≡ b → q t ≡ c → find p (filter q ts) ≡ find p ts
        → find p (filter q (t ∷ ts)) ≡ find p (t ∷ ts)
    either b true is has rest =
        ap (λ (x : Bool). find p (cond x (t ∷ filter q ts) (filter q ts))) has
        ∙ ap (λ (o : Option Told). cond (p t) (Some t) o) rest
    either true false is has rest = absurd (false≢true (sym has ∙ all t is))
    either false false is has rest =
        ap (λ (x : Bool). find p (cond x (t ∷ filter q ts) (filter q ts))) has
        ∙ rest
        ∙ sym (ap (λ (x : Bool). cond x (Some t) (find p ts)) is)

filter_left : (p q : Told → Bool) → ((t : Told) → p t ≡ true → q t ≡ true) → (ts : List Told)
    → filter p (filter q ts) ≡ filter p ts
filter_left p q all [] = refl
filter_left p q all (t ∷ ts) = either (p t) (q t) refl refl (filter_left p q all ts)
  where
    either : (b c : Bool) → p t ≡ b → q t ≡ c → filter p (filter q ts) ≡ filter p ts
        → filter p (filter q (t ∷ ts)) ≡ filter p (t ∷ ts)
    either b true is has rest =
        ap (λ (x : Bool). filter p (cond x (t ∷ filter q ts) (filter q ts))) has
        ∙ ap (λ (l : List Told). cond (p t) (t ∷ l) l) rest
    either true false is has rest = absurd (false≢true (sym has ∙ all t is))
    either false false is has rest =
        ap (λ (x : Bool). filter p (cond x (t ∷ filter q ts) (filter q ts))) has
        ∙ rest
        ∙ sym (ap (λ (x : Bool). cond x (t ∷ filter p ts) (filter p ts)) is)

-- ---- notes

-- the ask of a number is a call
ask_calls : (n : ℕ) (t : Told) → is_ask n t ≡ true → tells_call t ≡ true
ask_calls n t = of_fact t.timeline_item
  where
    of_fact : (f : TimelineItem) → is_ask n (record t { timeline_item = f }) ≡ true → is_call f ≡ true
    of_fact (Asked m p kind) so = refl
    of_fact _ so = absurd (false≢true so)

-- an answer after which a member is asked again is a call
repeat_calls : (p : ℕ) (stage : AskKind) (t : Told) → is_repeat p stage t ≡ true → tells_call t ≡ true
repeat_calls p stage t = of_fact t.timeline_item
  where
    of_fact : (f : TimelineItem) → is_repeat p stage (record t { timeline_item = f }) ≡ true → is_call f ≡ true
    of_fact (Answered n q s o) so =
        let rest = (both (q == p) (same_kind s stage && is_undecided o) so).1 in
        (both (same_kind s stage) (is_undecided o) rest).1
    of_fact _ so = absurd (false≢true so)

asked_left : (J : History) (ts : List Told) (p n : ℕ) (x : AskRow)
    → asked_note J (filter tells_call ts) p n x ≡ asked_note J ts p n x
asked_left J ts p n x =
    ap (λ (o : Option Told). open_line p x.kind (address_at J p x.kind) (since_text n o))
    (find_left (is_ask n) tells_call (ask_calls n) ts)

ask_left : (J : History) (ts : List Told) (p : ℕ) (r : MemberRow)
    → ask_note J (filter tells_call ts) p r ≡ ask_note J ts p r
ask_left J ts p r = of_ask r.outstanding
  where
    asks : List Told → Option ℕ → List ℕ
    asks us o = ask_note J us p (record r { outstanding = o })

    of_ask : (o : Option ℕ) → asks (filter tells_call ts) o ≡ asks ts o
    of_ask None = refl
    of_ask (Some n) = λ i. option_map_or (λ x. asked_left J ts p n x i) (found_ask J n) []

repeats_left : (J : History) (ts : List Told) (p : ℕ) (r : MemberRow)
    → repeats_note J (filter tells_call ts) p r ≡ repeats_note J ts p r
repeats_left J ts p r = λ i.
    option_map_or
    (λ (stage : AskKind). repeats_line p (filter_left (is_repeat p stage) tells_call (repeat_calls p stage) ts i))
    (stage_now J r) []

row_left : (J : History) (ts : List Told) (status : ActionStatus) (p : ℕ) (r : MemberRow)
    → row_notes J (filter tells_call ts) status p r ≡ row_notes J ts status p r
row_left J ts status p r = λ i. row_note J status p r ∷ ask_left J ts p r i ∷ repeats_left J ts p r i ∷ []

member_left : (J : History) (ts : List Told) (status : ActionStatus) (p : ℕ)
    → member_notes J (filter tells_call ts) status p ≡ member_notes J ts status p
member_left J ts status p = λ i. option_map_or (λ r. row_left J ts status p r i) (found_member J p) []

-- the notes on an action depend only on its calls
pub notes_left : (J : History) (ts : List Told) (a : ℕ) (r : ActionRow)
    → notes J (filter tells_call ts) a r ≡ notes J ts a r
notes_left J ts a r = λ i.
    own_note r ∷ []
    ++ flat_map (λ p. member_left J ts r.status p i) (members_of J a)
    ++ map (action_note J r.status) (children J a)

-- ---- lines

-- the notes on an action, an indented line each, if it exists
abbrev noted : List ℕ → History → ℕ → Option ActionRow → List ℕ
noted prefix J a o = option_map_or (λ (r : ActionRow). flat_map (indented prefix) (notes J (told a J) a r)) o []

-- the notes on an action, by its calls
pub waits_known : (prefix : List ℕ) (J : History) (a : ℕ) (o : Option ActionRow) (r : ActionRow) (kept : List Told)
    (ns : List (List ℕ)) (text : List ℕ) → o ≡ found_action J a → o ≡ Some r → kept ≡ calls a J → ns ≡ notes J kept a r
    → text ≡ flat_map (indented prefix) ns → text ≡ waits_text prefix J a
waits_known prefix J a o r kept ns text found is had are lines =
    lines
    ∙ ap (flat_map (indented prefix))
    (are ∙ ap (λ (ts : List Told). notes J ts a r) had ∙ notes_left J (told a J) a r)
    ∙ sym (ap (noted prefix J a) (sym found ∙ is))

-- an action that doesn't exist has no notes
pub waits_unknown : (prefix : List ℕ) (J : History) (a : ℕ) (o : Option ActionRow) → o ≡ found_action J a → o ≡ None
    → [] ≡ waits_text prefix J a
waits_unknown prefix J a o found is = sym (ap (noted prefix J a) (sym found ∙ is))

-- the lines of one more note
pub indented_more : (prefix : List ℕ) (notes : List (String Global)) (i : ℕ) (d : String Global)
    (before after line : List ℕ) → i < length notes
    → before ≡ flat_map (indented prefix) (map string_bytes (take i notes))
    → line ≡ indented prefix (string_bytes (get_or notes i d)) → after ≡ before ++ line
    → after ≡ flat_map (indented prefix) (map string_bytes (take (i + 1) notes))
indented_more prefix notes i d before after line lt was is now =
    now
    ∙ ap (λ (t : List ℕ). t ++ line) was
    ∙ ap (λ (t : List ℕ). flat_map (indented prefix) (map string_bytes (take i notes)) ++ t) is
    ∙ flat_map_more (indented prefix) [] (map string_bytes (take i notes)) (string_bytes (get_or notes i d))
    ∙ ap (flat_map (indented prefix)) (sym (map_more string_bytes notes i d lt))

-- the lines of all notes
pub indented_whole : (prefix : List ℕ) (notes : List (String Global)) (n : ℕ) (text : List ℕ) → length notes ≤ n
    → text ≡ flat_map (indented prefix) (map string_bytes (take n notes))
    → text ≡ flat_map (indented prefix) (map string_bytes notes)
indented_whole prefix notes n text all is =
    is ∙ ap (λ (ns : List (String Global)). flat_map (indented prefix) (map string_bytes ns)) (take_all n notes all)
