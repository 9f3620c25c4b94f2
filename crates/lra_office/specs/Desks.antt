-- What an office keeps behind its lock: a coordinator, and what the writer of its journal took.
use Rattle.std.specs.Prelude.{◌≡◌, ℕ, ◌-◌, ◌^◌, ◌<◌, min, true, false, Bool, List, [], ◌++◌, length, take, Option}
use Rattle.std.specs.List.{flat_map}
use Rattle.std.specs.Io.KnownBytes.{Appends}
use Rattle.lra_model.specs.History.{History}
use Rattle.lra_lines.specs.Line.{line, text}
use Rattle.lra_commands.specs.Calls.{Call, IsCall}
use Rattle.lra_commands.specs.Answers.{growth}
use Rattle.lra_commands.specs.Counters.{Setting, terms_of}
use Rattle.lra_core.specs.Shape.{Shape, IsCoordinator, IsAtRest}
use Rattle.lra_office.specs.Origins.{Origin}

-- the lines of what a call would append
abbrev pub growth_text : Setting → History → Call → List ℕ
growth_text g J c = flat_map line (growth (terms_of g) J c)

-- the beginning of a block's text, cut short: of one that some call could have appended next
pub record IsCut (g : Setting) (J : History) (tail : List ℕ) : Type 0 where
  pub call : Call
  pub possible : IsCall call
  pub count : ℕ
  pub short : count < length (growth_text g J call)
  pub front : tail ≡ take count (growth_text g J call)

-- what the writer took since the office was made: behind the journal prefix that is the text of the history, and, once
-- the scribe has stopped, the beginning of a block, cut short; the scribe's count of it stands at 2^64 - 1 for more
pub record IsWritten (o : Origin) (J : History) (contents : Option (List ℕ)) (count : ℕ) (is_stopped : Bool)
    : Type 0 where
  pub taken : List ℕ
  pub tail : List ℕ
  pub grown : Appends o.had contents taken
  pub counted : count ≡ min (length taken) (2 ^ 64 - 1)
  pub text : o.front ++ taken ≡ text o.setting.version o.setting.instance J ++ tail
  pub going : is_stopped ≡ false → tail ≡ []
  pub stopped : is_stopped ≡ true → IsCut o.setting J tail

-- what holds of a desk whenever the lock is free: its coordinator can be, nothing is left to settle, and its journal is
-- written
pub record IsDesk (o : Origin) (c : Shape) (contents : Option (List ℕ)) (count : ℕ) (is_stopped : Bool) : Type 0 where
  pub coordinator : IsCoordinator c
  pub rest : IsAtRest c
  pub written : IsWritten o c.history contents count is_stopped
