-- The output of the program that plays a script (this project's own format).
use Rattle.std.specs.Prelude.{◌≡◌, ℕ, ◌+◌, ◌<◌, Bool, false, ◌||◌, List, [], ◌∷◌, ◌++◌, length, codes, Option, Result}
use Rattle.std.specs.Prelude.{Ok, Err, cond}
use Rattle.std.specs.Fmt.{decimal}
use Rattle.std.specs.List.{flat_map}
use Rattle.std.specs.Option.{option_map_or}
use Rattle.std.specs.Result.{is_err}
use Rattle.std.specs.Io.KnownBytes.{Appends}
use Rattle.lra_model.specs.declared.entry.Entry.{Entry}
use Rattle.lra_model.specs.declared.version.Version.TheVariants.{Two}
use Rattle.lra_model.specs.Names.{action_status_name, member_status_name, ask_kind_name}
use Rattle.lra_model.specs.History.{History}
use Rattle.lra_lines.specs.Line.{line, header}
use Rattle.lra_commands.specs.declared.command.Told.{Told}
use Rattle.lra_commands.specs.declared.command.Told.TheVariants as told
use Rattle.lra_commands.specs.declared.refusal.Refusal.{Refusal}
use Rattle.lra_commands.specs.declared.refusal.Refusal.TheVariants as refusal
use Rattle.lra_commands.specs.Names.{refusal_name, resource_name}
use Rattle.lra_commands.specs.Errands.{Asking}
use Rattle.lra_commands.specs.Calls.{Call}
use Rattle.lra_commands.specs.Answers.{answer, growth}
use Rattle.lra_commands.specs.Counters.{terms_of}
use Rattle.lra_runs.specs.declared.requests.RequestLine.{RequestLine}
use Rattle.lra_verdict_lines.specs.VerdictLines.{joined, line_feed}
use Rattle.lra_runs.specs.Script.{player, Stage, first_stage, call_of, line_answer, given_by, after_line, after_lines}
use Rattle.lra_runs.specs.Script.{Begins, BeginsWithNone}

-- the words of an answer that isn't a refusal; those of an ask have its number alone, since its errand says the rest
abbrev pub told_text : Told → List ℕ
told_text (told.Clerk n) = codes "clerk " ++ decimal n
told_text (told.Action n) = codes "action " ++ decimal n
told_text (told.Now status) = codes "now " ++ action_status_name status
told_text (told.Already status) = codes "already " ++ action_status_name status
told_text (told.ActionIs status) = codes "status " ++ action_status_name status
told_text (told.Member n) = codes "member " ++ decimal n
told_text (told.AlreadyMember n) = codes "already " ++ decimal n
told_text told.Left = codes "left"
told_text (told.Fired n) = codes "fired " ++ decimal n
told_text told.Idle = codes "idle"
told_text (told.Asked n) = codes "ask " ++ decimal n
told_text told.Recorded = codes "recorded"
told_text (told.MemberNow status) = codes "now " ++ member_status_name status
told_text (told.MemberAlready status) = codes "already " ++ member_status_name status
told_text told.Restarted = codes "restarted"
told_text told.Renewed = codes "renewed"
told_text (told.MemberIs status) = codes "status " ++ member_status_name status

-- the detail of a refusal: the action's status, or the resource that is full
abbrev pub refusal_detail : Refusal → List ℕ
refusal_detail (refusal.NotActive status) = codes " " ++ action_status_name status
refusal_detail (refusal.Full resource) = codes " " ++ resource_name resource
refusal_detail refusal.NoSuchClerk = []
refusal_detail refusal.OldJournal = []
refusal_detail refusal.NoSuchAction = []
refusal_detail refusal.NoSuchMember = []
refusal_detail refusal.WrongAction = []
refusal_detail refusal.HasLeft = []
refusal_detail refusal.BadAddresses = []
refusal_detail refusal.LimitTooFar = []
refusal_detail refusal.TooDeep = []
refusal_detail refusal.NotAsked = []
refusal_detail refusal.Stopped = []
refusal_detail refusal.Memory = []

-- the line of an answer
abbrev pub answer_line : Result Told Refusal → List ℕ
answer_line (Ok t) = told_text t ++ line_feed
answer_line (Err r) = joined (codes "refused " ∷ refusal_name r ∷ refusal_detail r ∷ line_feed ∷ [])

-- the line of an errand: the ask, the member, the kind and the address
abbrev pub errand_line : Asking → List ℕ
errand_line e = joined (codes "ask " ∷ decimal e.ask ∷ codes " " ∷ decimal e.member ∷ codes " " ∷ ask_kind_name e.kind
    ∷ codes " " ∷ e.address ∷ line_feed ∷ [])

-- a new line of the journal
abbrev pub marked : List ℕ → List ℕ
marked text = codes "+ " ++ text

-- the new lines of the journal
abbrev pub marked_entries : List Entry → List ℕ
marked_entries es = flat_map (λ (e : Entry). marked (line e)) es

-- the output for a call: the line of the errand that it gives, else that of its answer; then each new line of the
-- journal
abbrev pub call_text : History → Call → List ℕ
call_text J c = option_map_or errand_line (given_by J c) (answer_line (answer (terms_of player) J c))
    ++ marked_entries (growth (terms_of player) J c)

-- the output for a script's line: that for its call, or the line of its answer if it makes no call
abbrev pub played_line : Stage → RequestLine → List ℕ
played_line s l = option_map_or (call_text s.history) (call_of s l) (answer_line (line_answer s l))

-- the output for lines, one after another
abbrev pub played_lines : Stage → List RequestLine → List ℕ
played_lines s [] = []
played_lines s (l ∷ ls) = played_line s l ++ played_lines (after_line s l) ls

-- the output for a script: the journal's header, and the output for its lines
abbrev pub played : List RequestLine → List ℕ
played ls = marked (header Two 7) ++ played_lines first_stage ls

-- a line is refused, of lines played one after another
abbrev pub some_refused : Stage → List RequestLine → Bool
some_refused s [] = false
some_refused s (l ∷ ls) = is_err (line_answer s l) || some_refused (after_line s l) ls

-- the program's status: 1 if a line was refused, else 0
abbrev pub play_status : List RequestLine → ℕ
play_status ls = cond (some_refused first_stage ls) 1 0

-- a script was played to its end
pub record Plays (input : List ℕ) (status : ℕ) (before after : Option (List ℕ)) : Type 0 where
  pub lines : List RequestLine
  pub read : Begins input lines []
  pub written : Appends before after (played lines)
  pub answered : status ≡ play_status lines

-- a script was played up to line `number`, counted from 1, which can't be played there
pub record PlaysUpToLine (input : List ℕ) (number : ℕ) (before after : Option (List ℕ)) : Type 0 where
  pub lines : List RequestLine
  pub rest : List ℕ
  pub read : Begins input lines rest
  pub goes_on : 0 < length rest
  pub bad : BeginsWithNone (after_lines first_stage lines) rest
  pub place : number ≡ length lines + 1
  pub written : Appends before after (played lines)
