use Rattle.std.proofs.Common.{◌≡◌, ◌++◌, take}
use Rattle.std.specs.List.{flat_map}
use Rattle.lra_overview.specs.Pages as pages
use Rattle.lra_overview.proofs.action_page.put_lines.Given as goal

-- the page has the lines of the members so far
abbrev pub invariant-loop-line : goal.invariant-loop-line
invariant-loop-line l = l.page.items ≡ l.initial.page.items ++ flat_map
    (pages.line l.names.instance l.forms.token.now l.forms.have_key) (take l.line-index l.lines)
