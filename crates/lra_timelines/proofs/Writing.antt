-- The output of a timeline.
use Rattle.std.proofs.Common.{◌≡◌, ℕ, ◌+◌, ◌<◌, List, [], ◌∷◌, ◌++◌, length, map, take, get_or, Global, Option, Some}
use Rattle.std.proofs.Common.{None, refl, sym, ap, inl, inr, ◌∙◌}
use Rattle.std.specs.Prelude.{IfOk, OnOk, Result, Ok, Err, String, string_bytes}
use Rattle.std.specs.Option.{option_map_or}
use Rattle.std.specs.List.{flat_map}
use Rattle.std.specs.Io.KnownBytes.{Appends}
use Rattle.std.proofs.lemmas.List.{map-append, flat_map_more, take_more}
use Rattle.lra_model.specs.declared.version.Version.{Version}
use Rattle.lra_model.specs.declared.rule.Rule.{Rule}
use Rattle.lra_model.specs.History.{History}
use Rattle.lra_ids.specs.Addresses.{is_address}
use Rattle.lra_rows.specs.declared.found.ActionRow.{ActionRow}
use Rattle.lra_auditor.specs.Verdicts.{IsTextOf, IsFault}
use Rattle.lra_audits.specs.declared.fault.RunFault.{RunFault}
use Rattle.lra_audits.specs.Report.{ReportsAudit}
use Rattle.lra_verdict_lines.specs.VerdictLines.{joined}
use Rattle.lra_timelines.specs.declared.wanted.Wanted.{Wanted}
use Rattle.lra_timelines.specs.declared.timeline.Timeline.{Timeline}
use Rattle.lra_timelines.specs.declared.explaining.Form.{Form}
use Rattle.lra_timelines.specs.Explained.{found, timeline_text, missing_line, explained, explained_status, Explains}
use Rattle.lra_timelines.specs.inner.Hears.{Hears, Tells}
use Rattle.lra_timelines.proofs.Rows.{one_more}

-- the texts of one more item
pub note_more : {X : Type 0} (f : X → List ℕ) (xs : List X) (i : ℕ) (d : X) (first before after : List (String Global))
    (note : String Global) → i < length xs
    → string_bytes note ≡ f (get_or xs i d) → map string_bytes before ≡ map string_bytes first ++ map f (take i xs)
    → after ≡ before ++ note ∷ []
    → map string_bytes after ≡ map string_bytes first ++ map f (take (i + 1) xs)
note_more f xs i d first before after note lt is was now =
    ap (map string_bytes) now
    ∙ map-append string_bytes before (note ∷ [])
    ∙ ap (λ (t : List (List ℕ)). t ++ string_bytes note ∷ []) was
    ∙ ap (λ (n : List ℕ). (map string_bytes first ++ map f (take i xs)) ++ n ∷ []) is
    ∙ one_more f xs i d (map string_bytes first) lt

-- the results of one more item
pub more_of : {X Y : Type 0} (f : X → List Y) (xs : List X) (i : ℕ) (d : X) (first before after more : List Y) → i
    < length xs → more ≡ f (get_or xs i d)
    → before ≡ first ++ flat_map f (take i xs) → after ≡ before ++ more → after ≡ first ++ flat_map f (take (i + 1) xs)
more_of f xs i d first before after more lt is was now =
    now
    ∙ ap (λ l. l ++ more) was
    ∙ ap (λ l. (first ++ flat_map f (take i xs)) ++ l) is
    ∙ flat_map_more f first (take i xs) (get_or xs i d)
    ∙ ap (λ l. first ++ flat_map f l) (sym (take_more xs i d lt))

-- texts one after another
pub joined_texts : (notes : List (String Global)) → flat_map string_bytes notes ≡ joined (map string_bytes notes)
joined_texts [] = refl
joined_texts (note ∷ notes) = ap (λ (t : List ℕ). string_bytes note ++ t) (joined_texts notes)

-- the output for an action that exists
pub explained_some : (form : Form) (w : Wanted) (name : List ℕ) (i : ℕ) (J : History) (o : Option ActionRow)
    (row : ActionRow) (a : ℕ) (bytes : List ℕ) → o ≡ found w i J → o ≡ Some row → a ≡ w.action
    → bytes ≡ timeline_text form J a row → bytes ≡ explained form w name i J
explained_some form w name i J o row a bytes at is same text =
    text ∙ ap (λ (b : ℕ). timeline_text form J b row) same
    ∙ sym (ap (λ (x : Option ActionRow). option_map_or (timeline_text form J w.action) x (missing_line name))
    (sym at ∙ is))

-- the output for an action that doesn't exist
pub explained_none : (form : Form) (w : Wanted) (name : List ℕ) (i : ℕ) (J : History) (o : Option ActionRow)
    (bytes : List ℕ) → o ≡ found w i J → o ≡ None → bytes ≡ missing_line name → bytes ≡ explained form w name i J
explained_none form w name i J o bytes at is text =
    text ∙ sym (ap (λ (x : Option ActionRow). option_map_or (timeline_text form J w.action) x (missing_line name))
    (sym at ∙ is))

-- a timeline that got the history of a journal is that of the history
pub heard_tells : (s : Timeline) (v : Version) (i : ℕ) (J : History) (b : List ℕ) → IsTextOf v i J b
    → Hears s (Some (record { version = v; instance = i; entries = J })) → Tells s i J
heard_tells s v i J b t h =
    record {
      instance = h.0;
      stands = record { version = v; is_address = is_address; legal = t.legal; snapshot = h.1 };
      told = h.2;
    }

-- the output for a fault
pub fault_explains : (form : Form) (w : Wanted) (name b : List ℕ) (line : ℕ) (rule : Rule) (r : Result ℕ RunFault)
    (before after : Option (List ℕ))
    → IfOk r (λ status. (input : List ℕ) → IsFault input line rule → ReportsAudit input status before after)
    → IfOk r (λ status. status ≡ 1) → IsFault b line rule
    → IfOk r (λ status. Explains form w name b status before after)
fault_explains form w name b line rule (Ok status) before after reports one f = inr (one, reports b f)
fault_explains form w name b line rule (Err e) before after reports one f = tt

-- the output for a sound journal
pub timeline_explains : (form : Form) (w : Wanted) (name b : List ℕ) (v : Version) (i : ℕ) (J : History)
    (r : Result ℕ RunFault) (before after : Option (List ℕ)) → IsTextOf v i J b
    → OnOk r (Appends before after (explained form w name i J)) → IfOk r (λ status. status ≡ explained_status w i J)
    → IfOk r (λ status. Explains form w name b status before after)
timeline_explains form w name b v i J (Ok status) before after t written answered =
    inl (v, i, J, record { sound = t; written = written; answered = answered })
timeline_explains form w name b v i J (Err e) before after t written answered = tt
