-- The summary, by the rows.
use Rattle.std.specs.Prelude.{ℕ, zero, suc, ◌==◌, ◌+◌, Bool, false, ◌&&◌, ◌||◌, not, cond, List, [], ◌∷◌, length}
use Rattle.std.specs.Prelude.{Option, Some, None, option_map, count_by}
use Rattle.std.specs.Option.{option_map_or}
use Rattle.lra_model.specs.Words.{is_closed, has_failed, has_gone, member_has_failed}
use Rattle.lra_laws.specs.Rows.{ActionRow}
use Rattle.lra_laws.specs.Rows.{MemberRow}
use Rattle.lra_totals.specs.declared.totals.FailedEnd.{FailedEnd}
use Rattle.lra_totals.specs.declared.totals.Summary.{Summary}
use Rattle.lra_laws.specs.Rows.{State}
use Rattle.lra_laws.specs.Rows.{row_at}
use Rattle.lra_laws.specs.Rows.{is_unended}
use Rattle.lra_totals.specs.Summaries.{ended_cancelled}

-- whether an action is t or stands below it, by the parents in the rows
abbrev pub is_within_by : ℕ → List ActionRow → ℕ → ℕ → Bool
is_within_by zero rows t a = a == t
is_within_by (suc n) rows t a = (a == t) || option_map_or (is_within_by n rows t)
    (option_map_or (λ (r : ActionRow). r.parent) (row_at rows a) None) false

-- a member that stays and has failed
abbrev pub has_failed_here : MemberRow → Bool
has_failed_here r = r.addresses.compensate && not (has_gone r.status) && member_has_failed r.status

-- the number of the first row that passes, where the first is number n
abbrev pub number_of_first : {R : Type 0} → (R → Bool) → ℕ → List R → Option ℕ
number_of_first test n [] = None
number_of_first test n (r ∷ rows) = cond (test r) (Some n) (number_of_first test (n + 1) rows)

-- the least member that stays in an action or below it and has failed
abbrev pub least_failed_by : State → ℕ → Option ℕ
least_failed_by s t = number_of_first (λ (r : MemberRow). has_failed_here r
    && is_within_by r.action s.actions t r.action) 1 s.members

-- the failed ends from the row of number n on
abbrev pub failed_ends_from : (ℕ → Option ℕ) → ℕ → List ActionRow → List FailedEnd
failed_ends_from least n [] = []
failed_ends_from least n (r ∷ rows) = onto (option_map (λ p. record { action = n; status = r.status; member = p })
    (cond (has_failed r.status) (least n) None)) (failed_ends_from least (n + 1) rows)
  where
    onto : Option FailedEnd → List FailedEnd → List FailedEnd
    onto None ends = ends
    onto (Some end) ends = end ∷ ends

-- the state that has these rows, and nothing else
abbrev pub of_rows : List ActionRow → List MemberRow → State
of_rows rs ms = record { moment = 0; clerks = 0; asks = 0; void = 0; actions = rs; members = ms }

-- the summary of a state after n entries
abbrev pub summary_by : ℕ → State → Summary
summary_by n s = record {
  entries = n;
  actions = length s.actions;
  unended = count_by (λ (r : ActionRow). is_unended r.status) s.actions;
  closed = count_by (λ (r : ActionRow). is_closed r.status) s.actions;
  cancelled = count_by (λ (r : ActionRow). ended_cancelled r.status) s.actions;
  failed = failed_ends_from (least_failed_by s) 1 s.actions;
}
