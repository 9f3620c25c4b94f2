use Rattle.std.proofs.lemmas.Result.{IfOk-weaker}
use Rattle.lra_office.proofs.Torn.{fed_front}
use Rattle.lra_opening.proofs.Going.{begun_of, goes_on}
use Rattle.lra_opening.proofs.opening.open_office.Goals as goal

pub returns-then-is_new-clause-opened : goal.returns-then-is_new-clause-opened
returns-then-is_new-clause-opened g c =
    IfOk-weaker c.begin.result _ _ (λ x h b fed.
    begun_of c.args.base c.args.limits b c.args.moment (g.W.Write.contents c.args.writer) x.0 x.1
    ((c.is_new.ensures b fed).0 c.if-is_new.true) h) c.begin.ensures.opened

pub returns-in-Ok-clause-opened : goal.returns-in-Ok-clause-opened
returns-in-Ok-clause-opened g c = λ b fed.
    goes_on c.args.base c.args.limits b c.args.opening.front c.args.moment (g.W.Write.contents c.args.writer)
    c.in-Ok.opened.0 c.in-Ok.opened.1
    ((c.is_new.ensures b fed).1 c.if-is_new.false) (fed_front b c.args.opening fed) c.in-Ok.ensures.reopened
