-- The growth of a timeline with each entry.
use Rattle.std.proofs.Common.{◌≡◌, ℕ, ◌+◌, ◌<◌, true, List, [], ◌∷◌, ◌++◌, length, Option, None, refl, sym, ap, ◌∙◌}
use Rattle.std.proofs.Common.{arith, length-append}
use Rattle.std.specs.Prelude.{codes, ⊤}
use Rattle.std.specs.Fmt.{decimal}
use Rattle.std.specs.List.{join_with_byte, flat_map}
use Rattle.std.proofs.lemmas.List.{flat_map_more}
use Rattle.lra_model.specs.declared.version.Version.{Version}
use Rattle.lra_model.specs.declared.version.Version.TheVariants.{One, Two}
use Rattle.lra_model.specs.declared.status.ActionStatus.{ActionStatus}
use Rattle.lra_model.specs.Names.{version_name}
use Rattle.lra_model.specs.declared.entry.Entry.{Entry}
use Rattle.lra_model.specs.History.{History, steps}
use Rattle.lra_model.specs.Rules.{is_legal, allows}
use Rattle.lra_laws.specs.Snapshots.{StateSnapshot, snapshot_of, StandsFor, Follows}
use Rattle.lra_laws.proofs.Legal.{legal_push, allows_from}
use Rattle.lra_laws.proofs.Push.{step, steps_push}
use Rattle.lra_ids.specs.Addresses.{is_address}
use Rattle.lra_lines.specs.Line.{line, line_of, header, text}
use Rattle.lra_auditor.specs.declared.reading.Stage.{Stage}
use Rattle.lra_auditor.specs.declared.reading.Stage.TheVariants.{Header, Entries, Faulty, Spent}
use Rattle.lra_auditor.specs.Heard.{Heard}
use Rattle.lra_auditor.specs.Feeding.{Feed, IsFollowed}
use Rattle.lra_auditor.specs.inner.Reading.{Reads}
use Rattle.lra_timelines.specs.declared.timeline_items.TimelineItem.{TimelineItem}
use Rattle.lra_timelines.specs.declared.timeline_items.Told.{Told}
use Rattle.lra_timelines.specs.TimelineItems.{fact_in, status_now, told_of, told_at, told}

-- the rows of the entries so far stand for them
pub heard_stands : (h : Heard) (s : StateSnapshot) (e : Entry) → s ≡ snapshot_of h.entries
    → is_legal h.version is_address (h.entries ++ e ∷ []) ≡ true → StandsFor s h.entries
heard_stands h s e k l = record {
  version = h.version;
  is_address = is_address;
  legal =
      (legal_push h.version is_address h.entries e l).0;
  snapshot = k;
}

-- the next entry is allowed
pub heard_allows : (h : Heard) (e d : Entry) → is_legal h.version is_address (h.entries ++ e ∷ []) ≡ true → d ≡ e
    → allows h.version is_address h.entries d ≡ true
heard_allows h e d l same = ap (λ (x : Entry). allows h.version is_address h.entries x) same
    ∙ allows_from h.version is_address h.entries e (legal_push h.version is_address h.entries e l).1

pub heard_follows : (h : Heard) (s : StateSnapshot) (e d : Entry) → s ≡ snapshot_of h.entries
    → is_legal h.version is_address (h.entries ++ e ∷ []) ≡ true → d ≡ e → Follows s d
heard_follows h s e d k l same = record {
  history = h.entries;
  stands = record {
    version = h.version;
    is_address = is_address;
    legal =
        (legal_push h.version is_address h.entries e l).0;
    snapshot = k;
  };
  allowed = heard_allows h e d l same;
}

-- the rows with one more entry stand for the entries with it
pub stands_on : (h : Heard) (s t : StateSnapshot) (e d : Entry) → s ≡ snapshot_of h.entries
    → is_legal h.version is_address (h.entries ++ e ∷ []) ≡ true → d ≡ e
    → ((J : History) (k : StandsFor s J) → allows k.version k.is_address J d ≡ true → StandsFor t (J ++ d ∷ []))
    → StandsFor t (h.entries ++ d ∷ [])
stands_on h s t e d k l same next =
    next h.entries (record {
      version = h.version;
      is_address = is_address;
      legal =
          (legal_push h.version is_address h.entries e l).0;
      snapshot = k;
    }) (heard_allows h e d l same)

-- no entries have no timeline items
pub told_none : (a : ℕ) → told a [] ≡ []
unfolding told steps
told_none a = refl

-- one more entry adds its item to a timeline
pub told_push : (a : ℕ) (J : History) (e : Entry) → told a (J ++ e ∷ []) ≡ told a J
    ++ told_of (length J + 2) e.moment (status_now (J ++ e ∷ []) a) (fact_in a J e)
unfolding told
told_push a J e = ap (flat_map (told_at a)) (steps_push J e) ∙ sym (flat_map_more (told_at a) [] (steps J) (step J e))

-- the timeline with one more entry
pub told_on : (a : ℕ) (J : History) (e d : Entry) (before after : List Told) (line : ℕ) (status : ActionStatus)
    (timeline_item : Option TimelineItem) → d ≡ e → before ≡ told a J
    → line ≡ length J + 2 → status ≡ status_now (J ++ d ∷ []) a → timeline_item ≡ fact_in a J d → after ≡ before
    ++ told_of line d.moment status timeline_item → after ≡ told a (J ++ e ∷ [])
told_on a J e d before after line status timeline_item same had at now is more =
    more
    ∙ ap (λ (ts : List Told). ts ++ told_of line d.moment status timeline_item) had
    ∙ ap (λ (n : ℕ). told a J ++ told_of n d.moment status timeline_item) at
    ∙ ap (λ (s : ActionStatus). told a J ++ told_of (length J + 2) d.moment s timeline_item) now
    ∙ ap (λ (f : Option TimelineItem). told a J ++ told_of (length J + 2) d.moment (status_now (J ++ d ∷ []) a) f) is
    ∙ sym (told_push a J d)
    ∙ ap (λ (x : Entry). told a (J ++ x ∷ [])) same

pub snapshot_same : (J : History) (t : StateSnapshot) (e d : Entry) → StandsFor t (J ++ d ∷ []) → d ≡ e → t
    ≡ snapshot_of (J ++ e ∷ [])
snapshot_same J t e d s same = s.snapshot ∙ ap (λ (x : Entry). snapshot_of (J ++ x ∷ [])) same

-- ---- before the first line

-- a line has a line feed
line_some : (ws : List (List ℕ)) → 0 < length (line_of ws)
line_some ws = omega (arith, length-append (join_with_byte 32 ws) (10 ∷ []))

-- a journal has a header
text_some : (v : Version) (i : ℕ) (J : History) → 0 < length (text v i J)
text_some One i J = omega (
  arith,
  line_some (codes "lra-journal" ∷ version_name One ∷ decimal i ∷ []),
  length-append (header One i) (flat_map line J),
)
text_some Two i J = omega (
  arith,
  line_some (codes "lra-journal" ∷ version_name Two ∷ decimal i ∷ []),
  length-append (header Two i) (flat_map line J),
)

reads_nothing : (H : Option Heard → Type 0) (s : Stage) (unfinished : List ℕ) → H None → Reads (λ _. ⊤) s unfinished []
    → Reads H s unfinished []
reads_nothing H Header unfinished n (lines, (none, _), lacks, same) = (lines, (none, n), lacks, same)
reads_nothing H (Entries c) unfinished n (lines, (i, J, t, come, _), lacks, same) =
    absurd (omega (arith, ap length same, length-append lines unfinished, ap length t.whole, text_some c.version i J))
reads_nothing H (Faulty number r) unfinished n h = h
reads_nothing H Spent unfinished n (lines, h, lacks, same) = absurd h

-- a follower that got nothing follows an auditor that was fed nothing
pub followed_nothing : (H : Option Heard → Type 0) (a : Feed) → IsFollowed (λ _. ⊤) a [] → H None → IsFollowed H a []
followed_nothing H a s n = record { fed = s.fed; reads = reads_nothing H a.stage a.unfinished n s.reads }
