-- One journal more.
use Rattle.std.proofs.Common.{◌≡◌, ℕ, ◌+◌, ◌<◌, ◌≤◌, List, [], ◌∷◌, ◌++◌, length, take, drop, get_or, String, Global}
use Rattle.std.proofs.Common.{Vec, Result, Ok, Err, string_bytes, codes, Option, Some, None, arith, zero, suc, refl}
use Rattle.std.proofs.Common.{sym, ap, subst, ◌∙◌, append_assoc, append-nil}
use Rattle.std.specs.Prelude.{IfSome, IfOk, vec_len}
use Rattle.std.specs.declared.alloc.AllocError.{AllocError}
use Rattle.std.proofs.lemmas.List.{take_more, take-append-drop, get_or_read, get_or-take, length-take, length_push}
use Rattle.lra_course.specs.declared.verdict.Verdict.{Verdict}
use Rattle.lra_course.specs.declared.verdict.Verdict.TheVariants.{Sound, Unsound}
use Rattle.std.specs.Io.KnownBytes.{Appends}
use Rattle.lra_verdict_lines.specs.VerdictLines.{report_of, status_of}
use Rattle.lra_words.specs.Asked.{texts}
use Rattle.lra_audits.specs.declared.fault.RunFault.{RunFault}
use Rattle.lra_folders.specs.declared.deed.Deed.{Deed}
use Rattle.lra_folders.specs.declared.deed.Deed.TheVariants.{Audit}
use Rattle.lra_folders.specs.declared.deed.Line.{Line}
use Rattle.lra_folders.specs.declared.journals.Tally.{Tally}
use Rattle.lra_folders.specs.Folders.{path_of, counted, counted_as, behind, Progress, IsOpened, AuditsNext, AuditsEach}
use Rattle.lra_folders.specs.Folders.{AuditsAll, TellsNext, TellsEach, TellsAll}
use Rattle.lra_folders.specs.inner.Told.{IsTold, IsToldOf, AllTold}

-- those of two lists of names
pub each_append : (deed : Deed) (bytes : List ℕ → List ℕ) (folder : List ℕ) (names others : List (List ℕ))
    (p q r : Progress)
    → TellsEach deed bytes folder names p q → TellsEach deed bytes folder others q r
    → TellsEach deed bytes folder (names ++ others) p r
each_append deed bytes folder [] others p q r same rest = subst (λ (x : Progress). TellsEach deed bytes folder others x
    r) same rest
each_append deed bytes folder (n ∷ names) others p q r (line, s, first, before) rest =
    (line, s, first, each_append deed bytes folder names others s q r before rest)

-- the texts of two lists of words
pub texts_append : (words others : List (String Global)) → texts (words ++ others) ≡ texts words ++ texts others
texts_append [] others = refl
texts_append (w ∷ words) others = ap (λ (ts : List (List ℕ)). string_bytes w ∷ ts) (texts_append words others)

-- one more journal of the folder's names
pub each_more : (deed : Deed) (bytes : List ℕ → List ℕ) (folder : List ℕ) (words : List (String Global))
    (all : List (Result (Option Line) RunFault)) (i : ℕ) (word : String Global)
    (journal : Result (Option Line) RunFault) (path : List ℕ) (p q r : Progress)
    → i < length words → word ≡ get_or words i word → journal ≡ get_or all i journal → path
    ≡ path_of folder (string_bytes word) → AllTold deed bytes folder words (length words) all
    → TellsEach deed bytes folder (texts (take i words)) p q
    → ((deed : Deed) (bytes name : List ℕ) → IsTold deed bytes (name ++ behind deed) journal
    → (line : Option (ℕ × List ℕ)) × TellsNext deed bytes path name line q r)
    → TellsEach deed bytes folder (texts (take (i + 1) words)) p r
each_more deed bytes folder words all i word journal path p q r lt is told at each before next =
    let more : texts (take (i + 1) words) ≡ texts (take i words) ++ string_bytes word ∷ [] =
    ap texts (take_more words i word lt ∙ ap (λ (w : String Global). take i words ++ w ∷ []) (sym is))
    ∙ texts_append (take i words) (word ∷ []) in
    let here : IsTold deed (bytes (path_of folder (string_bytes word))) (string_bytes word ++ behind deed) journal =
    subst (λ (x : Result (Option Line) RunFault). IsTold deed (bytes (path_of folder (string_bytes word)))
    (string_bytes word ++ behind deed) x) (sym told)
    (subst (λ (w : String Global). IsTold deed (bytes (path_of folder (string_bytes w))) (string_bytes w ++ behind deed)
    (get_or all i journal)) (sym is) (each i word journal lt)) in
    let written = next deed (bytes (path_of folder (string_bytes word))) (string_bytes word) here in
    subst (λ (ts : List (List ℕ)). TellsEach deed bytes folder ts p r) (sym more)
    (each_append deed bytes folder (texts (take i words)) (string_bytes word ∷ []) p q r before (
      written.0,
      r,
      subst (λ (x : List ℕ). TellsNext deed (bytes (path_of folder (string_bytes word))) x
          (string_bytes word) written.0 q r) at written.1,
      refl,
    ))

-- what holds at each place of a list holds at each of one that is longer by one
pub placed_push : {A : Type 0} (P : ℕ → A → Type 0) (xs : List A) (x : A)
    → ((i : ℕ) (d : A) → i < length xs → P i (get_or xs i d)) → P (length xs) x
    → (i : ℕ) (d : A) → i < length (xs ++ x ∷ []) → P i (get_or (xs ++ x ∷ []) i d)
placed_push P [] x all last zero d lt = last
placed_push P [] x all last (suc i) d lt = absurd (omega (arith, lt))
placed_push P (y ∷ xs) x all last zero d lt = all 0 d (omega arith)
placed_push P (y ∷ xs) x all last (suc i) d lt = placed_push (λ k. P (suc k)) xs x
    (λ k e less. all (suc k) e (omega (arith, less))) last i d (omega (arith, lt))

-- one more name, and its file
pub opened_more : {F : Type 0} → (named : List ℕ → Option (List ℕ)) (remaining : F → Option (List ℕ)) (folder : List ℕ)
    (words : List (String Global)) (jobs more : List (String Global × Option F)) (i : ℕ) (word : String Global)
    (name : List ℕ) (job : String Global × Option F)
    → i < length words → word ≡ get_or words i word → name ≡ string_bytes word → length jobs ≡ i → more ≡ jobs ++ job
    ∷ []
    → ((k : ℕ) (w : String Global) (d : String Global × Option F) → k < i
    → IsOpened named remaining folder (string_bytes (get_or words k w)) (get_or jobs k d))
    → IsOpened named remaining folder name job
    → (k : ℕ) (w : String Global) (d : String Global × Option F) → k < i + 1
    → IsOpened named remaining folder (string_bytes (get_or words k w)) (get_or more k d)
opened_more {F} named remaining folder words jobs more i word name job lt is called long longer before opened k w d less
    =
    subst (λ (js : List (String Global × Option F)). IsOpened named remaining folder (string_bytes (get_or words k w))
    (get_or js k d)) (sym longer)
    (placed_push (λ n j. (v : String Global) → IsOpened named remaining folder (string_bytes (get_or words n v)) j) jobs
    job
    (λ n e under v. before n v e (omega (arith, long, under)))
    (λ v. subst (λ (xs : List ℕ). IsOpened named remaining folder xs job)
    (called ∙ ap string_bytes (get_or_read words i word lt is v) ∙ ap (λ (n : ℕ). string_bytes (get_or words n v))
    (sym long)) opened)
    k d (let more_by_one = length_push jobs job in omega (arith, long, less, more_by_one)) w)

-- what is returned for a name and its file is returned for the journal
pub told_on : {F : Type 0} → (deed : Deed) (named : List ℕ → Option (List ℕ)) (remaining : F → Option (List ℕ))
    (folder name bytes : List ℕ) (job : String Global × Option F) (told : Result (Option Line) RunFault)
    → named (path_of folder name) ≡ Some bytes → IsOpened named remaining folder name job
    → IsToldOf deed remaining job told → IsTold deed bytes (name ++ behind deed) told
told_on deed named remaining folder name bytes (own, None) told known (is, _) tells =
    subst (λ (xs : List ℕ). IsTold deed bytes (xs ++ behind deed) told) is (tells bytes tt)
told_on deed named remaining folder name bytes (own, Some file) told known (is, opened) tells =
    subst (λ (xs : List ℕ). IsTold deed bytes (xs ++ behind deed) told) is
    (tells bytes (subst (λ (o : Option (List ℕ)). IfSome o (λ (all : List ℕ). remaining file ≡ Some all)) known opened))

-- what is returned for all names of a folder
pub all_told : {F : Type 0} → (deed : Deed) (named : List ℕ → Option (List ℕ)) (remaining : F → Option (List ℕ))
    (bytes : List ℕ → List ℕ) (folder : List ℕ) (words : List (String Global)) (jobs : List (String Global × Option F))
    (n : ℕ) (all : Result (Vec (Result (Option Line) RunFault) Global) AllocError)
    → ((path : List ℕ) → named path ≡ Some (bytes path))
    → ((i : ℕ) (w : String Global) (d : String Global × Option F) → i < n
    → IsOpened named remaining folder (string_bytes (get_or words i w)) (get_or jobs i d))
    → IfOk all (λ told. vec_len told ≡ n)
    → IfOk all (λ told. (i : ℕ) (e : String Global × Option F) (d : Result (Option Line) RunFault) → i < n
    → IsToldOf deed remaining (get_or jobs i e) (get_or told.items i d))
    → IfOk all (λ told. AllTold deed bytes folder words (vec_len told) told.items)
all_told deed named remaining bytes folder words jobs n (Err e) known opened long told = tt
all_told {F} deed named remaining bytes folder words jobs n (Ok all) known opened long told = λ i w d lt.
    let job : String Global × Option F = get_or jobs i (w, None) in
    told_on deed named remaining folder (string_bytes (get_or words i w))
    (bytes (path_of folder (string_bytes (get_or words i w)))) job (get_or all.items i d)
    (known (path_of folder (string_bytes (get_or words i w)))) (opened i w (w, None) (omega (arith, lt, long)))
    (told i (w, None) d (omega (arith, lt, long)))

-- what is returned for the first of some names is returned for the prefix that they are
pub front_told : (deed : Deed) (bytes : List ℕ → List ℕ) (folder : List ℕ) (words next done : List (String Global))
    (w n m : ℕ) (all : List (Result (Option Line) RunFault))
    → next ≡ take w words → done ≡ take m words → m ≡ n → n ≤ w → AllTold deed bytes folder next n all
    → AllTold deed bytes folder done (length done) all
front_told deed bytes folder words next done w n m all first front same le told i v d lt =
    let long = length-take m words in
    let short = ap length front in
    subst (λ (word : String Global). IsTold deed (bytes (path_of folder (string_bytes word)))
    (string_bytes word ++ behind deed) (get_or all i d))
    (ap (λ (ws : List (String Global)). get_or ws i v) first ∙ get_or-take w words i v
    (omega (arith, lt, long, short, same, le)) ∙ sym (get_or-take m words i v (omega (arith, lt, long, short)))
    ∙ sym (ap (λ (ws : List (String Global)). get_or ws i v) front)) (told i v d (omega (arith, lt, long, short, same)))

-- those of a prefix of some words, and then those of the rest
pub each_before : (deed : Deed) (bytes : List ℕ → List ℕ) (folder : List ℕ) (n : ℕ)
    (words front back : List (String Global)) (p q r : Progress)
    → front ≡ take n words → back ≡ drop n words → TellsEach deed bytes folder (texts front) p q
    → TellsEach deed bytes folder (texts back) q r → TellsEach deed bytes folder (texts words) p r
each_before deed bytes folder n words front back p q r first rest told more =
    subst (λ (ts : List (List ℕ)). TellsEach deed bytes folder ts p r)
    (sym (texts_append front back) ∙ ap texts (ap (λ (ws : List (String Global)). ws ++ back) first
    ∙ ap (λ (ws : List (String Global)). take n words ++ ws) rest ∙ take-append-drop n words))
    (each_append deed bytes folder (texts front) (texts back) p q r told more)

-- a verdict's status counts as the verdict
counted_is : (verdict : Verdict) (t : Tally) → counted_as (status_of verdict) t ≡ counted verdict t
counted_is (Sound s) t = refl
counted_is (Unsound line rule) t = refl

-- a journal of an audit
next_audited : (bytes path name : List ℕ) (line : Option (ℕ × List ℕ)) (p q : Progress)
    → TellsNext Audit bytes path name line p q → (verdict : Option Verdict) × AuditsNext bytes path name verdict p q
next_audited bytes path name None p q next = (None, next)
next_audited bytes path name (Some (status, text)) p q (r, written, told, tally) = (
  Some r.verdict,
  (
    r.right,
    subst (Appends p.written q.written) (r.written ∙ append_assoc name (codes " ") (report_of r.verdict)
        ∙ ap (λ (xs : List ℕ). name ++ (codes " " ++ xs)) (sym (append-nil (report_of r.verdict)))) written,
    told,
    tally ∙ ap (λ (n : ℕ). counted_as n p.tally) r.answered ∙ counted_is r.verdict p.tally,
  ),
)

-- each of them
each_audited : (bytes : List ℕ → List ℕ) (folder : List ℕ) (names : List (List ℕ)) (p q : Progress)
    → TellsEach Audit bytes folder names p q → AuditsEach bytes folder names p q
each_audited bytes folder [] p q same = same
each_audited bytes folder (name ∷ names) p q (line, r, next, rest) =
    let audited = next_audited (bytes (path_of folder name)) (path_of folder name) name line p r next in
    (audited.0, r, audited.1, each_audited bytes folder names r q rest)

-- what is written of all in an audit
pub all_audited : (bytes : List ℕ → List ℕ) (folder : List ℕ) (names : List (List ℕ)) (before after : Option (List ℕ))
    (told : List ℕ) (status : ℕ)
    → TellsAll Audit bytes folder names before after told status → AuditsAll bytes folder names before after told status
all_audited bytes folder names before after told status all = record {
  last = all.last;
  each = each_audited bytes folder names _ all.last all.each;
  counts = all.counts;
  tells = all.tells;
  answered = all.answered;
}
