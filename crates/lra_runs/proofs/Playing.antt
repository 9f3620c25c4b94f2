-- A script that is played line by line.
use Rattle.std.proofs.Common.{◌≡◌, ◌≢◌, ℕ, ◌+◌, ◌<◌, Bool, true, false, cond, ◌||◌, List, [], ◌∷◌, ◌++◌, length, take}
use Rattle.std.proofs.Common.{drop, eqb, Option, Some, None, refl, sym, ap, subst, ◌∙◌, append_assoc, arith}
use Rattle.std.specs.Prelude.{All, IsTrue, Result, Ok, Err, IfErr}
use Rattle.std.specs.Result.{IsErrAnd, is_err}
use Rattle.std.specs.List.{flat_map, join_with_byte}
use Rattle.std.specs.Io.KnownBytes.{Appends}
use Rattle.std.proofs.KnownBytes.{Appends-trans}
use Rattle.std.proofs.lemmas.Bool.{false≢true, eqb-false}
use Rattle.std.proofs.lemmas.Option.{none-some, same_Some}
use Rattle.std.proofs.lemmas.List.{append-nil, length_push, length-append, take-append-drop}
use Rattle.std.proofs.lemmas.List.Elements.{All-nil, All-push}
use Rattle.lra_model.specs.declared.version.Version.TheVariants.{Two}
use Rattle.lra_lines.specs.Line.{header}
use Rattle.lra_lines.specs.Lines.{IsLine}
use Rattle.lra_lines.proofs.Texts.{feed_in, line_front, one_more}
use Rattle.lra_core.specs.Shape.{Shape}
use Rattle.lra_audits.specs.declared.fault.RunFault.{RunFault}
use Rattle.lra_audits.specs.declared.fault.RunFault.TheVariants as fault
use Rattle.lra_runs.specs.declared.player.Player.{Player}
use Rattle.lra_runs.specs.declared.requests.RequestLine.{RequestLine}
use Rattle.lra_runs.specs.Requests.{words_of_request_line, request_line, IsRequestLine}
use Rattle.lra_runs.specs.Script.{player, Stage, first_stage, is_playable, line_answer, after_line, after_lines}
use Rattle.lra_runs.specs.Script.{ArePlayable, BeginsWithNone}
use Rattle.lra_runs.specs.Play.{marked, played_line, played_lines, played, some_refused, Plays, PlaysUpToLine}
use Rattle.lra_audits.specs.Faults.{IsOfOutput}
use Rattle.lra_runs.specs.inner.Causes.{IsOfPlay}
use Rattle.lra_runs.specs.inner.Players.{holding, stage_of, IsPlayedLine, IsPlayed}
use Rattle.lra_runs.proofs.RequestLines.{lacks_feed}

-- ---- one line more

after_push : (s : Stage) (ls : List RequestLine) (l : RequestLine) → after_lines s (ls ++ l ∷ [])
    ≡ after_line (after_lines s ls) l
after_push s [] l = refl
after_push s (k ∷ ls) l = after_push (after_line s k) ls l

playable_push : (s : Stage) (ls : List RequestLine) (l : RequestLine) → ArePlayable s ls
    → IsTrue (is_playable (after_lines s ls) l) → ArePlayable s (ls ++ l ∷ [])
playable_push s [] l h may = (may, tt)
playable_push s (k ∷ ls) l h may = (h.0, playable_push (after_line s k) ls l h.1 may)

played_push : (s : Stage) (ls : List RequestLine) (l : RequestLine) → played_lines s (ls ++ l ∷ []) ≡ played_lines s ls
    ++ played_line (after_lines s ls) l
played_push s [] l = append-nil (played_line s l)
played_push s (k ∷ ls) l =
    ap (λ (t : List ℕ). played_line s k ++ t) (played_push (after_line s k) ls l)
    ∙ sym (append_assoc (played_line s k) (played_lines (after_line s k) ls) (played_line (after_lines s (k ∷ ls)) l))

or_none : (a : Bool) → (a || false) ≡ a
or_none true = refl
or_none false = refl

or_assoc : (a b c : Bool) → (a || (b || c)) ≡ ((a || b) || c)
or_assoc true b c = refl
or_assoc false b c = refl

refused_push : (s : Stage) (ls : List RequestLine) (l : RequestLine) → some_refused s (ls ++ l ∷ [])
    ≡ (some_refused s ls || is_err (line_answer (after_lines s ls) l))
refused_push s [] l = or_none (is_err (line_answer s l))
refused_push s (k ∷ ls) l =
    let first = is_err (line_answer s k) in
    let next : Stage = after_line s k in
    ap (λ (b : Bool). first || b) (refused_push next ls l) ∙ or_assoc first (some_refused next ls)
    (is_err (line_answer (after_lines next ls) l))

-- ---- lines with which a script doesn't begin

pub none_torn : (s : Stage) (rest : List ℕ) → All (λ b. b ≢ 10) rest → BeginsWithNone s rest
none_torn s rest h = λ l more has may same.
    let whole : rest ≡ join_with_byte 32 (words_of_request_line l) ++ (10 ∷ more) = same
    ∙ append_assoc (join_with_byte 32 (words_of_request_line l)) (10 ∷ []) more in
    feed_in (join_with_byte 32 (words_of_request_line l)) more (subst (All (λ b. b ≢ 10)) whole h)

-- if bytes begin with a line of a script, that is their first line
first_is : (rest : List ℕ) (n : ℕ) (more : List ℕ) (l : RequestLine) → IsLine (take n rest) → IsRequestLine l → rest
    ≡ request_line l ++ more → take n rest ≡ request_line l
first_is rest n more l is has same = line_front (take n rest) (drop n rest)
    (join_with_byte 32 (words_of_request_line l)) more is (lacks_feed l has) (take-append-drop n rest ∙ same)

pub none_at : (s : Stage) (rest : List ℕ) (n : ℕ) → IsLine (take n rest)
    → ((l : RequestLine) → IsRequestLine l → take n rest ≡ request_line l → None ≡ Some l) → BeginsWithNone s rest
none_at s rest n is none = λ l more has may same. none-some l (none l has (first_is rest n more l is has same))

pub none_playable : (s : Stage) (rest : List ℕ) (n : ℕ) (x : RequestLine) → IsLine (take n rest)
    → ((l : RequestLine) → IsRequestLine l → take n rest ≡ request_line l → Some x ≡ Some l) → is_playable s x ≡ false
    → BeginsWithNone s rest
none_playable s rest n x is one bad = λ l more has may same.
    let equal : x ≡ l = same_Some x l (one l has (first_is rest n more l is has same)) in
    false≢true (sym bad ∙ ap (is_playable s) equal ∙ may)

-- ---- between two lines

pub played_none : (script : List ℕ) (before now : Option (List ℕ)) (p : Player) → stage_of p ≡ first_stage
    → Appends before now (marked (header Two 7)) → IsPlayed script before now p false 0 script
played_none script before now p first written =
    record {
      lines = [];
      read = record { allowed = All-nil IsRequestLine; playable = tt; whole = refl };
      written = subst (Appends before now) (sym (append-nil (marked (header Two 7)))) written;
      stage = first;
      refused = refl;
      counted = refl;
    }

-- a coordinator with no history, and no errand that is held
pub stands_first : (p : Player) (d : Shape) → p.coordinator ≡ d → d.history ≡ []
    → ((ask : ℕ) → holding p.held ask ≡ None) → stage_of p ≡ first_stage
stands_first p d same none held = λ i. record { history = history i; held = λ ask. held ask i }
  where
    history : p.coordinator.history ≡ []
    history = ap (λ (c : Shape). c.history) same ∙ none

pub played_more : (script : List ℕ) (before now next : Option (List ℕ)) (p q : Player) (b r : Bool) (n : ℕ)
    (rest front others : List ℕ) (l : RequestLine) → IsPlayed script before now p b n rest
    → IsRequestLine l → rest ≡ front ++ others → front ≡ request_line l
    → IsPlayedLine (stage_of p) l (stage_of q) r now next
    → IsPlayed script before next q (b || r) (n + 1) others
played_more script before now next p q b r n rest front others l d has parts is h =
    record {
      lines = d.lines ++ l ∷ [];
      read = record {
        allowed = All-push IsRequestLine d.lines l d.read.allowed has;
        playable = playable_push first_stage d.lines l d.read.playable k.playable;
        whole = one_more request_line script rest front others d.lines l d.read.whole parts is;
      };
      written = subst (Appends before next) (sym whole) (Appends-trans before now next (played d.lines)
          (played_line (after_lines first_stage d.lines) l) d.written k.written);
      stage = k.stage ∙ sym (after_push first_stage d.lines l);
      refused = (λ i. d.refused i || k.refused i) ∙ sym (refused_push first_stage d.lines l);
      counted = omega (arith, d.counted, length_push d.lines l);
    }
  where
    k : IsPlayedLine (after_lines first_stage d.lines) l (stage_of q) r now next
    k = subst (λ (s : Stage). IsPlayedLine s l (stage_of q) r now next) d.stage h

    whole : played (d.lines ++ l ∷ []) ≡ played d.lines ++ played_line (after_lines first_stage d.lines) l
    whole = ap (λ (t : List ℕ). marked (header Two 7) ++ t) (played_push first_stage d.lines l)
        ∙ sym (append_assoc (marked (header Two 7)) (played_lines first_stage d.lines)
        (played_line (after_lines first_stage d.lines) l))

pub plays_whole : (script : List ℕ) (before now : Option (List ℕ)) (p : Player) (b : Bool) (n status : ℕ)
    (rest : List ℕ) → IsPlayed script before now p b n rest → rest ≡ [] → status ≡ cond b 1 0
    → Plays script status before now
plays_whole script before now p b n status rest d end e =
    record {
      lines = d.lines;
      read = record {
        allowed = d.read.allowed;
        playable = d.read.playable;
        whole = d.read.whole
            ∙ ap (λ (r : List ℕ). flat_map request_line d.lines ++ r) end;
      };
      written = d.written;
      answered = e ∙ ap (λ (x : Bool). cond x 1 0) d.refused;
    }

-- ---- faults

number_of : Result ℕ RunFault → ℕ
number_of (Err (fault.Line n)) = n
number_of _ = 0

-- the fault names the next line, if more bytes follow and they don't begin with a line that can be played
pub stops_here : (script : List ℕ) (before now : Option (List ℕ)) (p : Player) (b : Bool) (n m : ℕ) (rest : List ℕ)
    (r : Result ℕ RunFault) → IsPlayed script before now p b n rest → eqb (length rest) 0 ≡ false
    → BeginsWithNone (stage_of p) rest → r ≡ Err (fault.Line (n + 1)) → r ≡ Err (fault.Line m)
    → PlaysUpToLine script m before now
unfolding number_of
stops_here script before now p b n m rest r d some bad named is =
    let more : length rest ≢ 0 = eqb-false _ _ some in
    let place : n + 1 ≡ m = ap number_of (sym named ∙ is) in
    record {
      lines = d.lines;
      rest = rest;
      read = d.read;
      goes_on = omega (arith, more);
      bad = subst (λ (s : Stage). BeginsWithNone s rest) d.stage bad;
      place = sym place ∙ ap (λ (k : ℕ). k + 1) d.counted;
      written = d.written;
    }

-- a fault of a write is a fault of the play
output_is_play : (f : RunFault) → IsOfOutput f → IsOfPlay f
output_is_play fault.Write h = tt
output_is_play fault.Memory h = tt
output_is_play fault.Read h = absurd h
output_is_play fault.TooLong h = absurd h
output_is_play fault.Changed h = absurd h
output_is_play (fault.Line n) h = absurd h

-- so is the fault of a result that passes such a fault on
pub play_fault : {X : Type 0} (r : Result X RunFault) (f : RunFault) → IsErrAnd r (λ g. g ≡ f) → IsOfOutput f
    → IfErr r IsOfPlay
play_fault (Ok x) f h k = absurd h
play_fault (Err g) f h k = subst IsOfPlay (sym h) (output_is_play f k)
