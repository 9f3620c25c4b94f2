use Rattle.std.proofs.Common.{◌≡◌, ◌++◌, take}
use Rattle.std.specs.List.{flat_map}
use Rattle.lra_overview.specs.Pages as pages
use Rattle.lra_overview.proofs.home_page.put_rows.Given as goal

-- the page has the lines of the actions so far
abbrev pub invariant-loop-row : goal.invariant-loop-row
invariant-loop-row l = l.page.items ≡ l.initial.page.items ++ flat_map
    (pages.waiting l.names.instance l.forms.token.now l.forms.have_key) (take l.row-index l.rows)
