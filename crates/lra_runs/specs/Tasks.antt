-- The tasks that a command line may request (this project's choice).
use Rattle.std.specs.Prelude.{◌≡◌, ℕ, ◌≤◌, List, [], ◌∷◌, codes}
use Rattle.std.specs.Fmt.{decimal}
use Rattle.lra_reports.specs.Words.{IsQuestion}
use Rattle.lra_runs.specs.declared.task.Task.{Task}
use Rattle.lra_runs.specs.declared.task.Task.TheVariants.{Question, Play, Serve}

-- words that ask a question; or `play SCRIPT`; or `serve ADDRESS FILE WORKERS`, with a number from 1 to 16
abbrev pub IsTask : List (List ℕ) → Task → Type 0
IsTask words (Question question) = IsQuestion words question
IsTask words (Play script) = words ≡ codes "play" ∷ script.now ∷ []
IsTask words (Serve address file workers) =
    (words ≡ codes "serve" ∷ address.now ∷ file.now ∷ decimal workers ∷ []) × (1 ≤ workers) × (workers ≤ 16)
