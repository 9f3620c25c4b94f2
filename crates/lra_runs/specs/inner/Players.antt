-- The state of a player between two lines, and its change by a line.
use Rattle.std.specs.Prelude.{◌≡◌, ◌≤◌, ◌+◌, ℕ, Bool, true, false, List, length, Option, Some, None, nat_eq}
use Rattle.std.specs.HashMap.{HashMap, get}
use Rattle.std.specs.Io.KnownBytes.{Appends}
use Rattle.std.specs.Result.{is_err}
use Rattle.std.specs.declared.hash.FoldHasher.{FoldHasher}
use Rattle.std.specs.declared.hash.BuildHasherDefault.{BuildHasherDefault}
use Rattle.lra_model.specs.Addresses.{Addresses}
use Rattle.lra_commands.specs.declared.command.Command.TheVariants.{Join, Record}
use Rattle.lra_commands.specs.Errands.{Asking}
use Rattle.lra_commands.specs.Calls.{Command, Call}
use Rattle.lra_commands.specs.Answers.{answer, after_call}
use Rattle.lra_commands.specs.Counters.{terms_of}
use Rattle.lra_core.specs.Shape.{Shape, IsGrown}
use Rattle.lra_runs.specs.declared.player.Performed.{Performed}
use Rattle.lra_runs.specs.declared.player.Player.{Player}
use Rattle.lra_runs.specs.declared.requests.Request.{Request}
use Rattle.lra_runs.specs.declared.requests.Request.TheVariants as request
use Rattle.lra_runs.specs.declared.requests.RequestLine.{RequestLine}
use Rattle.lra_runs.specs.Script.{player, Holding, Stage, lent, given_by, line_answer, is_playable, first_stage}
use Rattle.lra_runs.specs.Script.{after_line, after_lines, Begins}
use Rattle.lra_runs.specs.Play.{call_text, played_line, played, some_refused}

-- a map of errands by the numbers of their asks
abbrev pub Shelf : Type 0
Shelf = HashMap ℕ Asking (BuildHasherDefault FoldHasher)

-- the errands that a map has
abbrev pub holding : Shelf → Holding
holding m = λ ask. get nat_eq m ask

-- the state of a player between two lines
abbrev pub stage_of : Player → Stage
stage_of p = record { history = p.coordinator.history; held = holding p.held }

-- the errand that a reply is about, if it is held
abbrev pub held_for : Holding → Request → Option Asking
held_for held (request.Reply ask outcome) = held ask
held_for held _ = None

-- the addresses of a request to join
abbrev pub uris_in : Request → Option Addresses
uris_in (request.Join action uris) = Some uris
uris_in _ = None

-- a command, apart from the addresses in memory of what it borrows
abbrev pub placed : Command → Command
placed (Join action uris) = Join action (lent uris.now)
placed (Record errand outcome) = Record (lent errand.now) outcome
placed c = c

-- a call was performed: its outcome, and the output for it
pub record IsPerformed (before : Shape) (c : Call) (after : Shape) (x : Performed) (was now : Option (List ℕ)) : Type 0
  where
    pub refused : x.is_refused ≡ is_err (answer (terms_of player) before.history c)
    pub given : x.given ≡ given_by before.history c
    pub grown : IsGrown before after (after_call (terms_of player) before.history c)
    pub written : Appends was now (call_text before.history c)

-- a line was played: whether it was refused, the state after it, and the output for it
pub record IsPlayedLine (s : Stage) (l : RequestLine) (t : Stage) (is_refused : Bool)
    (was now : Option (List ℕ)) : Type 0 where
  pub playable : is_playable s l ≡ true
  pub refused : is_refused ≡ is_err (line_answer s l)
  pub stage : t ≡ after_line s l
  pub written : Appends was now (played_line s l)

-- a line was played; or it can't be played, and nothing was written
abbrev pub ComesTo : Stage → RequestLine → Stage → Option (List ℕ) → Option (List ℕ) → Option Bool → Type 0
ComesTo s l t was now None = (is_playable s l ≡ false) × (now ≡ was)
ComesTo s l t was now (Some is_refused) = IsPlayedLine s l t is_refused was now

-- lines were read and played, their output was written, and the rest is left to read
pub record IsPlayed (script : List ℕ) (before now : Option (List ℕ)) (p : Player) (is_refused : Bool) (number : ℕ)
    (rest : List ℕ) : Type 0 where
  pub lines : List RequestLine
  pub read : Begins script lines rest
  pub written : Appends before now (played lines)
  pub stage : stage_of p ≡ after_lines first_stage lines
  pub refused : is_refused ≡ some_refused first_stage lines
  pub counted : number ≡ length lines
