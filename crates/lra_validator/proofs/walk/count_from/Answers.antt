use Rattle.std.proofs.Common.{◌≡◌, ℕ, Option, ap, ◌∙◌, length}
use Rattle.lra_commands.specs.declared.query.QueryResult.TheVariants as known
use Rattle.lra_commands.specs.Queries.{rows_along, next_of, count_from}
use Rattle.lra_validator.proofs.Listings.{count_is}
use Rattle.lra_validator.proofs.walk.count_from.Goals as goal

pub returns : goal.returns
unfolding count_from
returns c = λ J k.
    let next : c.next_of-next.result ≡ next_of (length (rows_along c.args.limits.now J c.args.listing)) c.args.place =
    c.next_of-next.ensures ∙ ap (λ n. next_of n c.args.place) (c.count_listed.ensures J k
    ∙ count_is c.args.limits.now J c.args.listing) in
    λ i. known.Counted (c.count_belonging.ensures J k i) (next i)
