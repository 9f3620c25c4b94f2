use Rattle.std.proofs.Common.{ap, ◌∙◌}
use Rattle.std.specs.Prelude.{count_by}
use Rattle.lra_laws.specs.Rows.{is_unended}
use Rattle.lra_inspect.proofs.Counting.{unended_number}
use Rattle.lra_inspect.proofs.counts.FollowCounts.unended.Goals as goal

pub returns : goal.returns
returns c = λ v t J counts legal. c.count_unended.ensures
    ∙ ap (count_by is_unended) (c.deref.ensures.value ∙ counts.statuses) ∙ unended_number v t J legal
