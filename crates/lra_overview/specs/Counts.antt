-- Counts of no journal, and sums of the counts of several (this project's own).
use Rattle.std.specs.Prelude.{ℕ, ◌+◌, ◌-◌, ◌^◌, min}
use Rattle.lra_overview.specs.declared.counts.Counts.{Counts}
use Rattle.lra_overview.specs.declared.counts.Totals.{Totals}
use Rattle.lra_overview.specs.declared.overdue.Overdue.{Overdue}

-- the sum of two counts, or the greatest number of 64 bits if the sum is greater
abbrev pub summed : ℕ → ℕ → ℕ
summed a b = min (a + b) (2 ^ 64 - 1)

-- the counts of no member
abbrev pub no_overdue : Overdue
no_overdue = record { silent = 0; waiting = 0; at_it = 0 }

-- the counts of the members of two journals
abbrev pub overdue_in_both : Overdue → Overdue → Overdue
overdue_in_both o p = record {
  silent = summed o.silent p.silent;
  waiting = summed o.waiting p.waiting;
  at_it = summed o.at_it p.at_it;
}

-- the totals of no journal
abbrev pub no_totals : Totals
no_totals = record { actions = 0; members = 0; failed = 0 }

-- totals with the counts of one more journal, or of several
abbrev pub totals_with : Totals → Counts → Totals
totals_with t c = record {
  actions = summed t.actions c.actions;
  members = summed t.members c.members;
  failed = summed t.failed c.failures;
}
