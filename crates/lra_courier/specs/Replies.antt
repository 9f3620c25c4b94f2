-- The outcome of a member's reply (MicroProfile LRA 2.0, participant methods; which outcome a reply has is this
-- project's choice).
use Rattle.std.specs.Prelude.{ℕ, ◌-◌, Bool, ◌&&◌, ◌||◌, ◌==◌, nat_le, nat_lt, if◌then◌else◌, List, [], ◌∷◌, length}
use Rattle.std.specs.Prelude.{reverse, slice_index, slice_range, bytes_eq, Option}
use Rattle.std.specs.Option.{option_map_or}
use Rattle.std.specs.List.{find}
use Rattle.lra_model.specs.declared.status.MemberStatus.{MemberStatus}
use Rattle.lra_model.specs.declared.status.MemberStatus.TheVariants as member
use Rattle.lra_model.specs.declared.asks.AskKind.{AskKind}
use Rattle.lra_model.specs.declared.asks.AskKind.TheVariants as ask
use Rattle.lra_model.specs.declared.asks.Direction.{Direction}
use Rattle.lra_model.specs.declared.asks.Direction.TheVariants as direction
use Rattle.lra_model.specs.declared.asks.Outcome.{Outcome}
use Rattle.lra_model.specs.declared.asks.Outcome.TheVariants as outcome
use Rattle.lra_model.specs.Names.{member_status_name}

-- ---- the body of a reply

-- a space, a tab, CR or LF (this project's choice)
abbrev pub is_blank : ℕ → Bool
is_blank b = b == 32 || b == 9 || b == 13 || b == 10

-- the bytes without blanks at the front
abbrev pub skip_blanks : List ℕ → List ℕ
skip_blanks [] = []
skip_blanks (b ∷ bytes) = if is_blank b then skip_blanks bytes else b ∷ bytes

-- the bytes without blanks at both ends
abbrev pub trimmed : List ℕ → List ℕ
trimmed bytes = reverse (skip_blanks (reverse (skip_blanks bytes)))

-- a `"` stands at each end
abbrev pub is_quoted : List ℕ → Bool
is_quoted bytes = nat_le 2 (length bytes) && (slice_index bytes 0 == 34 && slice_index bytes (length bytes - 1) == 34)

-- the bytes between the two quotes, where both are there, and else all of them
abbrev pub unquoted : List ℕ → List ℕ
unquoted bytes = if is_quoted bytes then slice_range bytes 1 (length bytes - 1) else bytes

-- the text of a body: without blanks at its ends, and then without one enclosing pair of quotes (this project's choice)
abbrev pub text_in : List ℕ → List ℕ
text_in body = unquoted (trimmed body)

-- the states that a body can name: a member that has left is asked nothing (MicroProfile LRA 2.0, ParticipantStatus)
abbrev pub states : List MemberStatus
states = member.Active ∷ member.Completing ∷ member.Completed ∷ member.FailedToComplete ∷ member.Compensating
    ∷ member.Compensated ∷ member.FailedToCompensate ∷ []

-- the state that a text names
abbrev pub state_named : List ℕ → Option MemberStatus
state_named text = find (λ state. bytes_eq text (member_status_name state)) states

-- the outcome of a member's state in a direction: a state of another direction, or of none, is Silent (this project's
-- choice)
abbrev pub outcome_in : Direction → MemberStatus → Outcome
outcome_in direction.Completion member.Completing = outcome.Accepted
outcome_in direction.Completion member.Completed = outcome.Done
outcome_in direction.Completion member.FailedToComplete = outcome.Failed
outcome_in direction.Compensation member.Compensating = outcome.Accepted
outcome_in direction.Compensation member.Compensated = outcome.Done
outcome_in direction.Compensation member.FailedToCompensate = outcome.Failed
outcome_in _ _ = outcome.Silent

-- the outcome of a body: that of the state that it names in the direction, or `otherwise` where it names none
abbrev pub said : Direction → List ℕ → Outcome → Outcome
said way body otherwise = option_map_or (outcome_in way) (state_named (text_in body)) otherwise

-- ---- the table

-- a row: whether it is about this reply, and the outcome that the reply then has
abbrev pub Row : Type 0
Row = Bool × Outcome

-- the first row that is about the reply decides; where there is none, the outcome is Silent
abbrev pub first_row : List Row → Outcome
first_row [] = outcome.Silent
first_row (row ∷ rows) = if row.0 then row.1 else first_row rows

-- a reply to complete or compensate (MicroProfile LRA 2.0: 200 with a state, 202, 204, 409 and 410)
abbrev pub call_rows : Direction → ℕ → List ℕ → List Row
call_rows way code body =
    (code == 200, said way body outcome.Done)
    ∷ (code == 202, outcome.Accepted)
    ∷ (code == 204 || code == 410, outcome.Done)
    ∷ (code == 409, outcome.Failed)
    ∷ []

-- a reply to status (MicroProfile LRA 2.0: 200 with a state, 202 and 410)
abbrev pub status_rows : Direction → ℕ → List ℕ → List Row
status_rows way code body =
    (code == 200, said way body outcome.Silent)
    ∷ (code == 202, outcome.Accepted)
    ∷ (code == 410, outcome.Done)
    ∷ []

-- a reply to forget or after: it succeeded, or the member is no longer there (MicroProfile LRA 2.0, forget and
-- AfterLRA)
abbrev pub notice_rows : ℕ → List Row
notice_rows code = ((nat_le 200 code && nat_lt code 300) || code == 410, outcome.Done) ∷ []

-- the rows of a kind
abbrev pub rows_of : AskKind → Direction → ℕ → List ℕ → List Row
rows_of ask.Complete way code body = call_rows way code body
rows_of ask.Compensate way code body = call_rows way code body
rows_of ask.Status way code body = status_rows way code body
rows_of ask.Forget way code body = notice_rows code
rows_of ask.After way code body = notice_rows code

-- the outcome of a reply of this code and body, where a member was asked for the kind in the direction
unfoldable pub classify : AskKind → Direction → ℕ → List ℕ → Outcome
classify kind way code body = first_row (rows_of kind way code body)
