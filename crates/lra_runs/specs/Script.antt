-- The calls that the lines of a script make to a coordinator, one after another (this project's own format).
use Rattle.std.specs.Prelude.{◌≡◌, ℕ, ◌==◌, Bool, true, false, IsTrue, List, [], ◌∷◌, ◌++◌, All, codes, Option, Some}
use Rattle.std.specs.Prelude.{None, if◌then◌else◌, option_map, Result, Err}
use Rattle.std.specs.Borrow.{Bor}
use Rattle.std.specs.List.{flat_map}
use Rattle.std.specs.Option.{option_map_or, option_and_then}
use Rattle.std.specs.Result.{is_err}
use Rattle.lra_model.specs.declared.version.Version.TheVariants.{Two}
use Rattle.lra_model.specs.History.{History}
use Rattle.lra_commands.specs.declared.command.Command.TheVariants as command
use Rattle.lra_commands.specs.declared.command.Told.{Told}
use Rattle.lra_commands.specs.declared.refusal.Refusal.{Refusal}
use Rattle.lra_commands.specs.declared.refusal.Refusal.TheVariants.{NotAsked}
use Rattle.lra_commands.specs.Terms.{usual}
use Rattle.lra_commands.specs.Errands.{Asking}
use Rattle.lra_commands.specs.Calls.{Command, Call}
use Rattle.lra_commands.specs.Answers.{answer, after_call}
use Rattle.lra_commands.specs.Counters.{Setting, terms_of}
use Rattle.lra_commands.specs.Given.{errand_of}
use Rattle.lra_core.specs.Prepares.{is_suited}
use Rattle.lra_runs.specs.declared.requests.Request.{Request}
use Rattle.lra_runs.specs.declared.requests.Request.TheVariants as request
use Rattle.lra_runs.specs.declared.requests.RequestLine.{RequestLine}
use Rattle.lra_runs.specs.Requests.{request_line, IsRequestLine}

-- the setting of the player's coordinator: a journal of version 2 and of instance 7, and the usual limits
abbrev pub player : Setting
player = record { version = Two; instance = 7; base = codes "http://127.0.0.1:8080/"; limits = usual }

-- the errands that are held, each by the number of its ask
abbrev pub Holding : Type 0
Holding = ℕ → Option Asking

-- the state between two lines: the coordinator's history, and the errands that are held
pub record Stage : Type 0 where
  pub history : History
  pub held : Holding

-- the state before the first line: the history is empty, and no errand is held
abbrev pub first_stage : Stage
first_stage = record { history = []; held = λ ask. None }

-- a value as a command borrows it; its address in memory doesn't matter
abbrev pub lent : {X : Type 0} → X → Bor X
lent x = record { ref_ptr = (0, 0); now = x }

-- the command of a request; a reply records the outcome of the errand that is held for its ask, and is no command if
-- none is held
abbrev pub command_of : Holding → Request → Option Command
command_of held request.Enrol = Some command.Enrol
command_of held (request.Start parent limit) = Some (command.Start parent limit)
command_of held (request.Join action uris) = Some (command.Join action (lent uris))
command_of held (request.Leave action member) = Some (command.Leave action member)
command_of held (request.Close action) = Some (command.Close action)
command_of held (request.Cancel action) = Some (command.Cancel action)
command_of held request.Tick = Some command.Tick
command_of held request.Ask = Some command.NextAsk
command_of held (request.Reply ask outcome) = option_map (λ errand. command.Record (lent errand) outcome) (held ask)
command_of held (request.Report member ending) = Some (command.Report member ending)
command_of held request.Restart = Some command.Restart
command_of held (request.Renew action limit) = Some (command.Renew action limit)
command_of held (request.Status action) = Some (command.Status action)
command_of held (request.Member member) = Some (command.MemberStatus member)

-- the call that a line makes, if it makes one
abbrev pub call_of : Stage → RequestLine → Option Call
call_of s l = option_map (λ (c : Command). record { by = l.by; moment = l.moment; command = c })
    (command_of s.held l.request)

-- a line can be played: if it records an outcome, its ask may have that outcome
abbrev pub is_playable : Stage → RequestLine → Bool
is_playable s l = option_map_or is_suited (command_of s.held l.request) true

-- the answer to a line: that to its call; a reply is refused if its errand isn't held
abbrev pub line_answer : Stage → RequestLine → Result Told Refusal
line_answer s l = option_map_or (answer (terms_of player) s.history) (call_of s l) (Err NotAsked)

-- the errand that a call gives, unless it is refused
abbrev pub given_by : History → Call → Option Asking
given_by J c = if is_err (answer (terms_of player) J c) then None else errand_of player J c

-- the errand that a line gives
abbrev pub line_errand : Stage → RequestLine → Option Asking
line_errand s l = option_and_then (given_by s.history) (call_of s l)

-- the errands that are held after a request was answered: without the one whose outcome was recorded; a refusal records
-- none
abbrev pub left : Holding → Request → Bool → Holding
left held (request.Reply ask outcome) false = λ n. if ask == n then None else held n
left held _ is_refused = held

-- the errands that are held after an errand was given
abbrev pub with_given : Holding → Option Asking → Holding
with_given held None = held
with_given held (Some errand) = λ n. if errand.ask == n then Some errand else held n

-- the state after a line
abbrev pub after_line : Stage → RequestLine → Stage
after_line s l = record {
  history = option_map_or (after_call (terms_of player) s.history) (call_of s l) s.history;
  held = with_given (left s.held l.request (is_err (line_answer s l))) (line_errand s l);
}

-- the state after lines, one after another
abbrev pub after_lines : Stage → List RequestLine → Stage
after_lines s [] = s
after_lines s (l ∷ ls) = after_lines (after_line s l) ls

-- each of these lines can be played at its position
abbrev pub ArePlayable : Stage → List RequestLine → Type 0
ArePlayable s [] = Unit {0}
ArePlayable s (l ∷ ls) = IsTrue (is_playable s l) × ArePlayable (after_line s l) ls

-- bytes are these lines, and then the rest
pub record Begins (input : List ℕ) (lines : List RequestLine) (rest : List ℕ) : Type 0 where
  pub allowed : All IsRequestLine lines
  pub playable : ArePlayable first_stage lines
  pub whole : input ≡ flat_map request_line lines ++ rest

-- bytes that don't begin with a line of a script that can be played here
abbrev pub BeginsWithNone : Stage → List ℕ → Type 0
BeginsWithNone s rest = (l : RequestLine) (more : List ℕ) → IsRequestLine l → IsTrue (is_playable s l) → rest
    ≡ request_line l ++ more → ⊥
