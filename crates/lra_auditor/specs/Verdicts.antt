-- What an audit returns, in the words of histories and of the journal's text.
use Rattle.std.specs.Prelude.{◌≡◌, ℕ, ◌+◌, ◌<◌, true, List, ◌++◌, length, Some, ◌⊎◌}
use Rattle.lra_model.specs.declared.version.Version.{Version}
use Rattle.lra_model.specs.declared.rule.Rule.{Rule}
use Rattle.lra_model.specs.declared.rule.Rule.TheVariants as rule
use Rattle.lra_model.specs.declared.entry.Entry.{Entry}
use Rattle.lra_model.specs.History.{History}
use Rattle.lra_model.specs.Rules.{broken, is_legal}
use Rattle.lra_model.specs.GoodEnds.{GoodEnds}
use Rattle.lra_lines.specs.Line.{line, text, HasLine, HasText}
use Rattle.lra_lines.specs.Lines.{HasNoHeader, HasNoLine}
use Rattle.lra_course.specs.declared.verdict.Verdict.{Verdict}
use Rattle.lra_course.specs.declared.verdict.Verdict.TheVariants.{Sound, Unsound}
use Rattle.lra_totals.specs.Summaries.{summary}
use Rattle.lra_addresses.specs.Addresses.{is_address}

-- bytes are the text of a history that is legal in the version of their header
pub record IsTextOf (v : Version) (i : ℕ) (J : History) (bytes : List ℕ) : Type 0 where
  pub spelled : HasText v i J
  pub legal : is_legal v is_address J ≡ true
  pub whole : bytes ≡ text v i J

-- bytes after a legal history break a rule: no entry's line comes next, or one that isn't allowed
abbrev pub Breaks : Version → History → List ℕ → Rule → Type 0
Breaks v J rest r =
    ((r ≡ rule.Grammar) × HasNoLine v rest)
    ⊎ ((e : Entry) × (more : List ℕ) × HasLine v e × (rest ≡ line e ++ more) × (broken v is_address J e ≡ Some r))

-- bytes go on after the text of a legal history, and what comes next breaks a rule
pub record IsFaultAfter (bytes : List ℕ) (number : ℕ) (r : Rule) (v : Version) (i : ℕ) (J : History)
    (rest : List ℕ) : Type 0 where
  pub place : number ≡ length J + 2
  pub front : IsTextOf v i J (text v i J)
  pub whole : bytes ≡ text v i J ++ rest
  pub goes_on : 0 < length rest
  pub breaks : Breaks v J rest r

-- line `number` of the bytes, counted from 1, is the first at fault, and r the first rule that it breaks: line 1 is no
-- header, or a later line follows a legal history and isn't spelled or isn't allowed
abbrev pub IsFault : List ℕ → ℕ → Rule → Type 0
IsFault bytes number r =
    ((number ≡ 1) × (r ≡ rule.Header) × HasNoHeader bytes)
    ⊎ ((v : Version) × (i : ℕ) × (J : History) × (rest : List ℕ) × IsFaultAfter bytes number r v i J rest)

-- the verdict on bytes: the summary of the legal history whose text they are, or their first fault
abbrev pub IsVerdict : List ℕ → Verdict → Type 0
IsVerdict bytes (Sound s) = (v : Version) × (i : ℕ) × (J : History) × IsTextOf v i J bytes × (s ≡ summary J)
IsVerdict bytes (Unsound number r) = IsFault bytes number r

-- where the verdict is Sound, the history that the bytes are the text of has good ends
abbrev pub EndsWell : List ℕ → Verdict → Type 0
EndsWell bytes (Sound s) = (v : Version) × (i : ℕ) × (J : History) × IsTextOf v i J bytes × (s ≡ summary J) × GoodEnds J
EndsWell bytes (Unsound number r) = Unit {0}
