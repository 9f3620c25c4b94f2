use Rattle.std.proofs.Common.{Ok, subst}
use Rattle.std.proofs.lemmas.Result.{err_from_is_err_and}
use Rattle.lra_wire.specs.declared.response_parse.ResponseParse.{ResponseParse}
use Rattle.lra_wire.specs.ResponseParse.{IsComing}
use Rattle.lra_wire.proofs.TakenLemmas.{lasts_now, whole_last}
use Rattle.lra_wire.proofs.response_parse.response_at_end.Goals as goal

pub returns-in_err-response : goal.returns-in_err-response
returns-in_err-response c =
    let p = err_from_is_err_and c.from_residual.result c.from_residual.ensures.1 in
    rw (p.1, p.2) (lasts_now c.args.bytes.now c.in_err-response.field-0.0 c.in_err-response.ensures.response_parse)

pub returns-in-Whole : goal.returns-in-Whole
returns-in-Whole c =
    whole_last c.args.bytes.now c.in-Whole.response.code c.in-Whole.response.body.items c.in-Whole.len
    (subst (λ (response_parse : ResponseParse). IsComing c.args.bytes.now (Ok response_parse)) c.in-Whole.is
    c.in_ok-response.ensures.response_parse)
