-- The lines of a journal's actions.
use Rattle.std.proofs.Common.{◌≡◌, ℕ, ◌+◌, ◌-◌, ◌<◌, ◌≤◌, zero, suc, ◌==◌, Bool, true, false, ◌&&◌, cond, List, [], ◌∷◌}
use Rattle.std.proofs.Common.{◌++◌, length, take, drop, get_or, set, map, Option, Some, None, Global, refl, sym, ap}
use Rattle.std.proofs.Common.{subst, ◌∙◌, inl, inr, arith}
use Rattle.std.specs.Prelude.{codes, option_map, option_to_list, unwrap_or, eqb, slice_get, IfOk, IfSome, Result, Ok}
use Rattle.std.specs.Prelude.{Err, String, string_bytes}
use Rattle.std.specs.Fmt.{decimal}
use Rattle.std.specs.List.{filter_map, flat_map, cons_option, join_by}
use Rattle.std.proofs.lemmas.Bool.{false≢true}
use Rattle.std.proofs.lemmas.Bool.Decides.{eqb_tells}
use Rattle.std.proofs.lemmas.List.{length-append, get_or-set_same, get_or-set_other, length-set, map-append, take_more}
use Rattle.std.proofs.lemmas.List.{take_all, length-map}
use Rattle.std.proofs.lemmas.List.Filters.{length-filter_more}
use Rattle.std.proofs.lemmas.Result.{IfOk-weaker}
use Rattle.std.proofs.Math.Seq.{drop-append_seam}
use Rattle.std.proofs.lemmas.Option.{same_Some, none-some, slice_get-map, get_or_from_slice_get, slice_get_within}
use Rattle.lra_model.specs.declared.status.MemberStatus.{MemberStatus}
use Rattle.lra_model.specs.declared.status.MemberStatus.TheVariants as member
use Rattle.lra_model.specs.declared.entry.Entry.{Entry}
use Rattle.lra_model.specs.declared.version.Version.{Version}
use Rattle.lra_model.specs.History.{History, read_deeds, started_by, actions, last_moment}
use Rattle.lra_laws.specs.Rows.{row_at}
use Rattle.lra_laws.proofs.Push.{read_push}
use Rattle.lra_lines.proofs.Apart.{texts_apart}
use Rattle.lra_ids.specs.Identifiers.{id_text, action_uri}
use Rattle.lra_ids.proofs.IdentifierFacts.{length-id_text}
use Rattle.lra_course.specs.declared.listing.ListedAction.{ListedAction}
use Rattle.lra_course.specs.declared.listing.ListedMember.{ListedMember}
use Rattle.lra_course.specs.Listed.{Listed}
use Rattle.lra_course.specs.Listings.{listed_action, listing}
use Rattle.lra_auditor.specs.Heard.{Heard}
use Rattle.lra_auditor.specs.Feeding.{Feed, IsFollowed, StandsFor}
use Rattle.lra_auditor.specs.Verdicts.{IsTextOf}
use Rattle.lra_auditor.proofs.Feeds.{read_anyway}
use Rattle.lra_reports.specs.Paging.{IsPaged}
use Rattle.lra_verdict_lines.specs.VerdictLines.{joined}
use Rattle.lra_model.specs.Names.{member_status_name}
use Rattle.lra_reports.proofs.Lines.{IsPaged-line}
use Rattle.lra_timelines.specs.declared.listing.Choice.{Choice}
use Rattle.lra_timelines.specs.declared.start_times.StartTimes.{StartTimes}
use Rattle.lra_timelines.specs.Lines.{Begun, begun_by, starts, place_of, is_counted, count_of}
use Rattle.lra_timelines.specs.Lines.{counted, listed_words, statuses, tally_text}
use Rattle.lra_timelines.specs.Lines.{is_chosen, action_line, asked_waits, chosen_lines, start_lines, lines_text}
use Rattle.lra_timelines.specs.inner.Registered.{start_moments, Hears, Registers}
use Rattle.lra_timelines.specs.inner.Tallied.{Tallied, IsMore}
use Rattle.lra_timelines.proofs.Calling.{all_called}

-- ---- starts

-- the start of an action of a number at a moment
abbrev begun_at : ℕ → ℕ → Begun
begun_at moment a = record { action = a; moment = moment }

begun_more : (o : Option ℕ) (moment : ℕ) (ns : List ℕ) (bs : List Begun) → ns ≡ map (λ (b : Begun). b.action) bs
    → cons_option o ns ≡ map (λ (b : Begun). b.action) (cons_option (option_map (begun_at moment) o) bs)
begun_more (Some a) moment ns bs same = ap (λ (ms : List ℕ). a ∷ ms) same
begun_more None moment ns bs same = same

begun_all : (J : History) → read_deeds started_by J ≡ map (λ (b : Begun). b.action) (filter_map begun_by J)
begun_all [] = refl
begun_all (e ∷ J) = begun_more (started_by e.deed) e.moment (read_deeds started_by J) (filter_map begun_by J)
    (begun_all J)

-- the actions of a history are those that start in it
pub actions_begun : (J : History) → actions J ≡ map (λ (b : Begun). b.action) (starts J)
unfolding actions starts
actions_begun J = begun_all J

moment_one : (o : Option ℕ) (moment : ℕ) → map (λ (b : Begun). b.moment)
    (option_to_list (option_map (begun_at moment) o))
    ≡ option_to_list (option_map (λ (b : Begun). b.moment) (option_map (begun_at moment) o))
moment_one (Some a) moment = refl
moment_one None moment = refl

-- the moments of starts with one more entry
pub moments_push : (J : History) (e : Entry) → start_moments (J ++ e ∷ []) ≡ start_moments J
    ++ option_to_list (option_map (λ (b : Begun). b.moment) (begun_by e))
unfolding starts
moments_push J e =
    ap (map (λ (b : Begun). b.moment)) (read_push begun_by J e)
    ∙ map-append (λ (b : Begun). b.moment) (filter_map begun_by J) (option_to_list (begun_by e))
    ∙ ap (λ (t : List ℕ). start_moments J ++ t) (moment_one (started_by e.deed) e.moment)

-- the moments that a register has with one more entry
pub moments_on : (J : History) (e : Entry) (before after : List ℕ) (o : Option ℕ) → before ≡ start_moments J → o
    ≡ option_map (λ (b : Begun). b.moment) (begun_by e)
    → after ≡ before ++ option_to_list o → after ≡ start_moments (J ++ e ∷ [])
moments_on J e before after o was is now =
    now ∙ ap (λ (ns : List ℕ). ns ++ option_to_list o) was ∙ ap (λ (x : Option ℕ). start_moments J ++ option_to_list x)
    is ∙ sym (moments_push J e)

-- an empty history has no start, and so no moment of one
pub moments_none : start_moments [] ≡ []
unfolding starts
moments_none = refl

pub last_none : last_moment [] ≡ 0
unfolding last_moment
last_none = refl

-- ---- lines

-- the value from which a result was made
item_made : {X Y : Type 0} (f : X → Y) (o : Option X) (y : Y) → option_map f o ≡ Some y → (x : X) × (o ≡ Some x)
    × (y ≡ f x)
item_made f (Some x) y same = (x, refl, sym (same_Some (f x) y same))
item_made f None y same = absurd (none-some y same)

-- the start at a place has the action that is listed there, and the moment
pub start_at : (J : History) (xs : List ListedAction) (ms : List ℕ) (i : ℕ) (x : ListedAction) (m d : ℕ) → xs
    ≡ map (λ (b : Begun). listed_action J b.action) (starts J) → ms ≡ start_moments J
    → row_at xs (i + 1) ≡ Some x → m ≡ get_or ms i d → (b : Begun) × (row_at (starts J) (i + 1) ≡ Some b)
    × (x ≡ listed_action J b.action) × (m ≡ b.moment)
start_at J xs ms i x m d is_xs is_ms here at =
    let on : i + 1 ≡ suc i = omega arith in
    let found = item_made (λ (b : Begun). listed_action J b.action) (slice_get (starts J) i) x
    (sym (slice_get-map (λ (b : Begun). listed_action J b.action) (starts J) i)
    ∙ ap (λ (ys : List ListedAction). slice_get ys i) (sym is_xs) ∙ sym (ap (row_at xs) on) ∙ here) in
    let b = found.0 in
    let moment : slice_get ms i ≡ Some b.moment =
    ap (λ (ns : List ℕ). slice_get ns i) is_ms ∙ slice_get-map (λ (c : Begun). c.moment) (starts J) i
    ∙ ap (option_map (λ (c : Begun). c.moment)) found.1 in
    (b, ap (row_at (starts J)) on ∙ found.1, found.2, at ∙ get_or_from_slice_get ms i b.moment d moment)

-- the actions that are listed are those that start
pub listed_begun : (J : History) (l : Listed) → l ≡ listing J → l.actions
    ≡ map (λ (b : Begun). listed_action J b.action) (starts J)
unfolding listing
listed_begun J l is =
    ap (λ (x : Listed). x.actions) is ∙ ap (map (listed_action J)) (actions_begun J) ∙ map_twice (starts J)
  where
    map_twice : (bs : List Begun) → map (listed_action J) (map (λ (b : Begun). b.action) bs)
        ≡ map (λ (b : Begun). listed_action J b.action) bs
    map_twice [] = refl
    map_twice (b ∷ bs) = ap (λ (t : List ListedAction). listed_action J b.action ∷ t) (map_twice bs)

-- the lines of an action that is to be listed are its line and its notes
pub chosen_told : {E : Type 0} (c : Choice) (prefix : List ℕ) (i : ℕ) (ms : List ListedMember) (x : ListedAction)
    (n m : ℕ) (waits : List ℕ) (r : Result (String Global) E) → is_chosen c x.status n ≡ true → m ≡ n
    → IfOk r (λ text. string_bytes text ≡ action_line prefix i ms x m ++ waits)
    → IfOk r (λ text. string_bytes text ≡ chosen_lines c prefix i ms x n waits)
chosen_told c prefix i ms x n m waits r is same = IfOk-weaker r _ _ (λ text told.
    told
    ∙ ap (λ (k : ℕ). action_line prefix i ms x k ++ waits) same
    ∙ sym (ap (λ (b : Bool). cond b (action_line prefix i ms x n ++ waits) []) is))

-- the lines of a start, by the action that is listed and the start's moment
pub start_told : (c : Choice) (prefix : List ℕ) (i : ℕ) (J : History) (l : Listed) (b : Begun) (x : ListedAction)
    (m end : ℕ) (text : List ℕ)
    → l ≡ listing J → x ≡ listed_action J b.action → m ≡ b.moment → end ≡ unwrap_or c.now (last_moment J)
    → text ≡ chosen_lines c prefix i l.members x (end - m) (asked_waits c prefix J x.action)
    → text ≡ start_lines c prefix i J b
start_told c prefix i J l b x m end text is_l is_x is_m is_end told =
    told
    ∙ ap (λ (y : Listed). chosen_lines c prefix i y.members x (end - m) (asked_waits c prefix J x.action)) is_l
    ∙ ap (λ (y : ListedAction). of_action y (end - m)) is_x
    ∙ ap (λ (n : ℕ). of_action (listed_action J b.action) (end - n)) is_m
    ∙ ap (λ (n : ℕ). of_action (listed_action J b.action) (n - b.moment)) is_end
  where
    of_action : ListedAction → ℕ → List ℕ
    of_action y n = chosen_lines c prefix i (listing J).members y n (asked_waits c prefix J y.action)

-- the lines of one more start are paged
pub line_more : (c : Choice) (prefix : List ℕ) (i : ℕ) (J : History) (l : Listed) (ms : List ℕ) (place : ℕ)
    (x : ListedAction) (m d end : ℕ) (text : List ℕ) (k p q : List ℕ) (r s t : Option (List ℕ))
    → l ≡ listing J → ms ≡ start_moments J → row_at l.actions (place + 1) ≡ Some x → m ≡ get_or ms place d
    → end ≡ unwrap_or c.now (last_moment J)
    → text ≡ chosen_lines c prefix i l.members x (end - m) (asked_waits c prefix J x.action)
    → IsPaged r s k p (flat_map (start_lines c prefix i J) (take place (starts J))) → IsPaged s t p q text
    → IsPaged r t k q (flat_map (start_lines c prefix i J) (take (place + 1) (starts J)))
line_more c prefix i J l ms place x m d end text k p q r s t is_l is_ms here at is_end told before now =
    let (b, found, is_x, is_m) = start_at J l.actions ms place x m d (listed_begun J l is_l) is_ms here at in
    IsPaged-line (start_lines c prefix i J) (starts J) place b text k p q r s t found
    (start_told c prefix i J l b x m end text is_l is_x is_m is_end told) before now

-- the lines of all starts are the list of a history
pub lines_whole : (c : Choice) (prefix : List ℕ) (i : ℕ) (J : History) (ms : List ℕ) (n : ℕ) → ms ≡ start_moments J
    → length ms ≤ n
    → flat_map (start_lines c prefix i J) (take n (starts J)) ≡ lines_text c prefix i J
unfolding lines_text
lines_whole c prefix i J ms n is_ms all =
    let size : length (starts J) ≡ length ms = sym (length-map (starts J) (λ (b : Begun). b.moment))
    ∙ ap length (sym is_ms) in
    ap (flat_map (start_lines c prefix i J)) (take_all n (starts J) (omega (arith, size, all)))

-- ---- an auditor and a register

-- an auditor stands for the bytes that it was fed, whatever its follower
pub followed_anyway : (H : Option Heard → Type 0) (a : Feed) (b : List ℕ) → IsFollowed H a b → StandsFor a b
followed_anyway H a b s = record { fed = s.fed; reads = read_anyway H a.stage a.unfinished b s.reads }

-- a register that got the history of a journal is a register of it
pub heard_registers : (r : StartTimes) (v w : Version) (i j : ℕ) (J K : History) (b : List ℕ) → IsTextOf v i J b
    → IsTextOf w j K b → Hears r (Some (record { version = w; instance = j; entries = K }))
    → Registers r i J
heard_registers r v w i j J K b t u (instance, moments, end, keeps) =
    let same = texts_apart v w i j J K t.spelled u.spelled (sym t.whole ∙ u.whole) in
    record {
      instance = instance ∙ ap Some (sym same.1);
      moments = moments ∙ ap start_moments (sym same.2);
      end = end ∙ ap last_moment (sym same.2);
      called = all_called r.calls v J K t.legal (sym same.2) keeps;
    }

-- a property that holds of a result for each possible input holds for the known input, if there is one
pub ok_for_some : {E : Type 0} (o : Option (List ℕ)) (r : Result ℕ E) (P : List ℕ → ℕ → Type 0)
    → ((b : List ℕ) → o ≡ Some b → IfOk r (P b)) → IfOk r (λ status. IfSome o (λ b. P b status))
ok_for_some (Some b) (Ok status) P holds = holds b refl
ok_for_some None (Ok status) P holds = tt
ok_for_some o (Err e) P holds = tt

-- ---- identifiers

-- the end of an action's URI is its UUID
pub id_at_end : (uri base id : List ℕ) (i n : ℕ) → uri ≡ action_uri i base n → id ≡ drop (length uri - 36) uri → id
    ≡ id_text i n
id_at_end uri base id i n is at =
    let front = base ++ codes "lra-coordinator/" in
    let whole : uri ≡ front ++ id_text i n = is in
    let all = length-append front (id_text i n) in
    let long = length-id_text i n in
    let size = ap length whole in
    let place : length uri - 36 ≡ length front = omega (arith, all, long, size) in
    at ∙ ap (λ (p : ℕ). drop p uri) place ∙ ap (drop (length front)) whole ∙ drop-append_seam front (id_text i n)

-- ---- counts

place_small : (s : MemberStatus) → place_of s < 8
place_small member.Active = omega arith
place_small member.Completing = omega arith
place_small member.Completed = omega arith
place_small member.FailedToComplete = omega arith
place_small member.Compensating = omega arith
place_small member.Compensated = omega arith
place_small member.FailedToCompensate = omega arith
place_small member.Left = omega arith

-- a member counts for its own action and status
counted_there : (m : ListedMember) (a p : ℕ) → m.action ≡ a → place_of m.status ≡ p → is_counted a p m ≡ true
counted_there m a p one other = grind (arith, one, other)

-- a member counts for no other action or status
counted_elsewhere : (m : ListedMember) (a p : ℕ) → (m.action ≡ a → place_of m.status ≡ p → ⊥) → is_counted a p m ≡ false
counted_elsewhere m a p apart = elim (eqb_tells m.action a) [
  | inl x ↦ elim (eqb_tells (place_of m.status) p) [
    | inl y ↦ absurd (apart x.1 y.1)
    | inr y ↦ ap (λ (b : Bool). (eqb m.action a) && b) y.0 ∙ ap (λ (b : Bool). b && false) x.0
  ]
  | inr x ↦ ap (λ (b : Bool). b && (eqb (place_of m.status) p)) x.0
]

-- the counts with one more member
pub tallied_more : (ms : List ListedMember) (i : ℕ) (d : ListedMember) (before after : List ℕ) → i < length ms
    → IsMore (get_or ms i d) before after → Tallied (take i ms) before
    → Tallied (take (i + 1) ms) after
tallied_more ms i d before after lt more was slot a p place small within =
    let m = get_or ms i d in
    let counts = length-filter_more (is_counted a p) ms i d lt in
    let size : length after ≡ length before = ap length more.changed ∙ length-set before more.slot
    (get_or before more.slot 0 + 1) in
    let inside : slot < length before = omega (arith, size, within) in
    let old = was slot a p place small inside in
    elim (eqb_tells slot more.slot) [
      | inl x ↦
          let least = place_small m.status in
          let stands = more.place in
          let one : m.action ≡ a = omega (arith, x.1, place, stands, small, least) in
          let other : place_of m.status ≡ p = omega (arith, x.1, place, stands, small, least) in
          let yes = counted_there m a p one other in
          let now : get_or after slot 0 ≡ get_or before slot 0 + 1 =
          ap (λ (xs : List ℕ). get_or xs slot 0) more.changed
          ∙ ap (λ (k : ℕ). get_or (set before more.slot (get_or before more.slot 0 + 1)) k 0) x.1
          ∙ get_or-set_same before more.slot (get_or before more.slot 0 + 1) 0 more.within
          ∙ ap (λ (k : ℕ). get_or before k 0 + 1) (sym x.1) in
          now ∙ ap (λ (n : ℕ). n + 1) old ∙ sym (counts ∙ ap (λ (b : Bool). count_of (take i ms) a p + cond b 1 0) yes)
      | inr x ↦
          let no = counted_elsewhere m a p
          (λ one other. x.1 (let stands = more.place in omega (arith, one, other, place, stands))) in
          let now : get_or after slot 0 ≡ get_or before slot 0 =
          ap (λ (xs : List ℕ). get_or xs slot 0) more.changed ∙ get_or-set_other before more.slot slot
          (get_or before more.slot 0 + 1) 0 x.1 in
          let same : count_of (take i ms) a p + cond false 1 0 ≡ count_of (take i ms) a p = omega arith in
          now ∙ old ∙ sym (counts ∙ ap (λ (b : Bool). count_of (take i ms) a p + cond b 1 0) no ∙ same)
    ]

-- counts of 0 are those of no members
pub tallied_none : (counts : List ℕ) → ((slot : ℕ) → get_or counts slot 0 ≡ 0) → Tallied [] counts
tallied_none counts none slot a p place small within = none slot

-- the counts with one more member, by the member at that place
pub tallied_next : (ms : List ListedMember) (i : ℕ) (m : ListedMember) (before after : List ℕ) → row_at ms (i + 1)
    ≡ Some m → IsMore m before after → Tallied (take i ms) before
    → Tallied (take (i + 1) ms) after
tallied_next ms i m before after here more was =
    let on : i + 1 ≡ suc i = omega arith in
    let at : slice_get ms i ≡ Some m = sym (ap (row_at ms) on) ∙ here in
    tallied_more ms i m before after (slice_get_within ms i m at) (subst (λ (x : ListedMember). IsMore x before after)
    (sym (get_or_from_slice_get ms i m m at)) more) was

-- ---- words

-- the word for a status that a member has is added
pub word_pushed : (s : MemberStatus) (n : ℕ) (before after : List (String Global)) (word : String Global) → (n ≡ 0 → ⊥)
    → string_bytes word ≡ joined (member_status_name s ∷ codes "=" ∷ decimal n ∷ []) → after ≡ before ++ word ∷ []
    → map string_bytes after ≡ map string_bytes before ++ option_to_list (counted s n)
word_pushed s zero before after word some is now = absurd (some refl)
word_pushed s (suc n) before after word some is now =
    ap (map string_bytes) now ∙ map-append string_bytes before (word ∷ [])
    ∙ ap (λ (t : List ℕ). map string_bytes before ++ t ∷ []) is

commas_same : (ws : List (String Global)) → flat_map (λ (w : String Global). codes "," ++ string_bytes w) ws
    ≡ flat_map (λ (u : List ℕ). codes "," ++ u) (map string_bytes ws)
commas_same [] = refl
commas_same (w ∷ ws) = ap (λ (t : List ℕ). (codes "," ++ string_bytes w) ++ t) (commas_same ws)

-- words with commas between them, if there is a word
pub listed_same : (ws : List (String Global)) → false ≡ (length ws == 0) → join_by string_bytes (codes ",") ws
    ≡ listed_words (map string_bytes ws)
listed_same [] some = absurd (false≢true some)
listed_same (w ∷ ws) some = ap (λ (t : List ℕ). string_bytes w ++ t) (commas_same ws)

-- the words of one more status
pub words_more : (f : MemberStatus → Option (List ℕ)) (ss : List MemberStatus) (i : ℕ) (d : MemberStatus)
    (before after : List (List ℕ)) → i < length ss
    → before ≡ filter_map f (take i ss) → after ≡ before ++ option_to_list (f (get_or ss i d)) → after
    ≡ filter_map f (take (i + 1) ss)
words_more f ss i d before after lt was now =
    now ∙ ap (λ (t : List (List ℕ)). t ++ option_to_list (f (get_or ss i d))) was
    ∙ sym (read_push f (take i ss) (get_or ss i d)) ∙ ap (filter_map f) (sym (take_more ss i d lt))

-- the words of all statuses
pub words_whole : (count : ℕ → ℕ) (ws items : List (String Global)) (n : ℕ) → ws ≡ items
    → map string_bytes items ≡ filter_map (λ s. counted s (count (place_of s))) (take n statuses) → 8 ≤ n
    → listed_words (map string_bytes ws) ≡ tally_text count
words_whole count ws items n same was all =
    ap (λ (xs : List (String Global)). listed_words (map string_bytes xs)) same
    ∙ ap listed_words was
    ∙ ap (λ (ss : List MemberStatus). listed_words (filter_map (λ s. counted s (count (place_of s))) ss))
    (take_all n statuses all)
