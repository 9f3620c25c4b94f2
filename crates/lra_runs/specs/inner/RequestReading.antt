-- The parser of a script's lines (this project's own format), from left to right. If a word can't be read, the line
-- isn't one that a script may have.
use Rattle.std.specs.Prelude.{ℕ, ◌^◌, ◌==◌, List, ◌∷◌, [], Option, Some, None, codes, option_map, if◌then◌else◌}
use Rattle.std.specs.Str.{bytes_eq, is_utf8}
use Rattle.lra_model.specs.declared.asks.Outcome.{Outcome}
use Rattle.lra_model.specs.declared.asks.Outcome.TheVariants as outcome
use Rattle.lra_model.specs.declared.status.Ending.{Ending}
use Rattle.lra_model.specs.declared.status.Ending.TheVariants as ending
use Rattle.lra_model.specs.Addresses.{Addresses}
use Rattle.lra_model.specs.Names.{outcome_name, ending_name}
use Rattle.lra_lines.specs.Fields.{split_words}
use Rattle.lra_lines.specs.Reading.{Words, number_or_star_of, next_of, number_at}
use Rattle.lra_entries.specs.inner.Digits.{◌>>=◌}
use Rattle.lra_lines.specs.inner.Combinators.{named, whole_of, unended}
use Rattle.lra_runs.specs.declared.requests.Request.{Request}
use Rattle.lra_runs.specs.declared.requests.Request.TheVariants as request
use Rattle.lra_runs.specs.declared.requests.RequestName.{RequestName}
use Rattle.lra_runs.specs.declared.requests.RequestName.TheVariants as name
use Rattle.lra_runs.specs.declared.requests.RequestLine.{RequestLine}
use Rattle.lra_runs.specs.Requests.{is_script_address}

-- the word with which `request_words` begins
abbrev pub request_name : RequestName → List ℕ
request_name name.Enrol = codes "enrol"
request_name name.Start = codes "start"
request_name name.Join = codes "join"
request_name name.Leave = codes "leave"
request_name name.Close = codes "close"
request_name name.Cancel = codes "cancel"
request_name name.Tick = codes "tick"
request_name name.Ask = codes "ask"
request_name name.Reply = codes "reply"
request_name name.Report = codes "report"
request_name name.Restart = codes "restart"
request_name name.Renew = codes "renew"
request_name name.Status = codes "status"
request_name name.Member = codes "member"

-- every request
abbrev pub request_names : List RequestName
request_names = name.Enrol ∷ name.Start ∷ name.Join ∷ name.Leave ∷ name.Close ∷ name.Cancel ∷ name.Tick ∷ name.Ask
    ∷ name.Reply ∷ name.Report ∷ name.Restart ∷ name.Renew ∷ name.Status ∷ name.Member ∷ []

-- every outcome
abbrev pub outcomes : List Outcome
outcomes = outcome.Done ∷ outcome.Accepted ∷ outcome.Failed ∷ outcome.Silent ∷ []

-- every end of a member
abbrev pub endings : List Ending
endings = ending.Completed ∷ ending.FailedToComplete ∷ ending.Compensated ∷ ending.FailedToCompensate ∷ []

-- the address that a word is; `*` is an absent one
unfoldable pub address_field : List ℕ → Option (Option (List ℕ))
address_field word = if bytes_eq word (codes "*") then Some None else (if is_script_address word then Some
    (Some word) else None)

-- the address that the first word is
abbrev pub address_at : Words → Option (Option (List ℕ) × Words)
address_at = next_of address_field

-- five addresses
unfoldable pub addresses_at : Words → Option (Addresses × Words)
addresses_at words = do
  compensate ← address_at words
  complete ← address_at compensate.1
  status ← address_at complete.1
  forget ← address_at status.1
  after ← address_at forget.1
  Some (
    record {
      compensate = compensate.0;
      complete = complete.0;
      status = status.0;
      forget = forget.0;
      after =
          after.0;
    },
    after.1,
  )

-- the fields of `enrol`: none; a clerk that enrols has no number yet, which is written 0
abbrev pub enrol_at : ℕ → Words → Option (Request × Words)
enrol_at by words = if by == 0 then Some (request.Enrol, words) else None

-- the fields of `start`
unfoldable pub start_at : Words → Option (Request × Words)
start_at words = do
  parent ← next_of number_or_star_of words
  limit ← number_at (2 ^ 64) parent.1
  Some (request.Start parent.0 limit.0, limit.1)

-- the fields of `join`
unfoldable pub join_at : Words → Option (Request × Words)
join_at words = do
  action ← number_at (2 ^ 64) words
  uris ← addresses_at action.1
  Some (request.Join action.0 uris.0, uris.1)

-- two numbers: the fields of `leave` and `renew`
unfoldable pub pair_at : Words → Option ((ℕ × ℕ) × Words)
pair_at words = do
  first ← number_at (2 ^ 64) words
  second ← number_at (2 ^ 64) first.1
  Some ((first.0, second.0), second.1)

-- the fields of `reply`
unfoldable pub reply_at : Words → Option (Request × Words)
reply_at words = do
  ask ← number_at (2 ^ 64) words
  outcome ← next_of (named outcome_name outcomes) ask.1
  Some (request.Reply ask.0 outcome.0, outcome.1)

-- the fields of `report`
unfoldable pub report_at : Words → Option (Request × Words)
report_at words = do
  member ← number_at (2 ^ 64) words
  ending ← next_of (named ending_name endings) member.1
  Some (request.Report member.0 ending.0, ending.1)

-- the fields after the word of a request that a clerk makes
unfoldable pub fields_at : ℕ → RequestName → Words → Option (Request × Words)
fields_at by name.Enrol words = enrol_at by words
fields_at by name.Start words = start_at words
fields_at by name.Join words = join_at words
fields_at by name.Leave words = option_map (λ x. (request.Leave x.0.0 x.0.1, x.1)) (pair_at words)
fields_at by name.Close words = option_map (λ x. (request.Close x.0, x.1)) (number_at (2 ^ 64) words)
fields_at by name.Cancel words = option_map (λ x. (request.Cancel x.0, x.1)) (number_at (2 ^ 64) words)
fields_at by name.Tick words = Some (request.Tick, words)
fields_at by name.Ask words = Some (request.Ask, words)
fields_at by name.Reply words = reply_at words
fields_at by name.Report words = report_at words
fields_at by name.Restart words = Some (request.Restart, words)
fields_at by name.Renew words = option_map (λ x. (request.Renew x.0.0 x.0.1, x.1)) (pair_at words)
fields_at by name.Status words = option_map (λ x. (request.Status x.0, x.1)) (number_at (2 ^ 64) words)
fields_at by name.Member words = option_map (λ x. (request.Member x.0, x.1)) (number_at (2 ^ 64) words)

-- a request: its word, and its fields
unfoldable pub request_at : ℕ → Words → Option (Request × Words)
request_at by words = do
  name ← next_of (named request_name request_names) words
  fields_at by name.0 name.1

-- a line: the clerk, the moment and the request
unfoldable pub request_line_at : Words → Option (RequestLine × Words)
request_line_at words = do
  by ← number_at (2 ^ 32) words
  moment ← number_at (2 ^ 64) by.1
  request ← request_at by.0 moment.1
  Some (record { by = by.0; moment = moment.0; request = request.0 }, request.1)

-- the text of a line before its line feed, if it is UTF-8
unfoldable pub text_of : List ℕ → Option (List ℕ)
text_of bytes = do
  body ← unended bytes
  if is_utf8 body then Some body else None

-- the line of a script that bytes are, if they are such a line
unfoldable pub request_line_of : List ℕ → Option RequestLine
request_line_of bytes = do
  body ← text_of bytes
  whole_of (request_line_at (split_words body))
