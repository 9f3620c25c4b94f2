use Rattle.std.proofs.Common.{ap, ◌∙◌}
use Rattle.lra_commands.specs.declared.query.QueryResult.{QueryResult}
use Rattle.lra_commands.specs.Queries.{most_rows}
use Rattle.lra_validator.specs.inner.Walks.{first_some, look, last_of, none_told}
use Rattle.lra_validator.proofs.Walks.{walk_told}
use Rattle.lra_validator.proofs.walk.tell_from.Goals as goal

pub returns : goal.returns
returns c = λ J k.
    walk_told c.args.limits.now c.args.tables.now.snapshot J k c.args.walk c.args.place c.unwrap_or.result
    (c.unwrap_or.ensures ∙ c.first_told.ensures J c.none_told-none.result k
    ∙ ap (λ (none : QueryResult). first_some (look c.args.limits.now J c.args.walk) none c.args.place most_rows)
    (c.none_told-none.ensures ∙ ap (λ (last : QueryResult). none_told last c.count_rows.result c.args.place)
    c.last_of.ensures
    ∙ ap (λ n. none_told (last_of c.args.walk) n c.args.place) (c.count_rows.ensures J k)))
