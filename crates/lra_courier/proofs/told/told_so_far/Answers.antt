use Rattle.lra_courier.proofs.CarriedLemmas.{open_here, whole_replies}
use Rattle.lra_courier.proofs.told.told_so_far.Goals as goal

pub returns-in-Ok-Whole-clause-tells : goal.returns-in-Ok-Whole-clause-tells
returns-in-Ok-Whole-clause-tells c =
    let read = c.in-Ok-Whole.response in
    whole_replies c.args.asked.kind c.args.asked.direction c.args.bytes.now read.code read.body.items
    c.in-Ok-Whole.field-0-1 c.outcome.result
    (rw c.in-Ok-Whole.field-0-is at c.in-Ok-Whole.ensures.response_parse) c.outcome.ensures.class
    c.outcome.ensures.suits

pub returns-in-Ok-Open-clause-tells : goal.returns-in-Ok-Open-clause-tells
returns-in-Ok-Open-clause-tells c = open_here c.args.bytes.now c.in-Ok-Open.field-0-0
    (rw c.in-Ok-Open.field-0-is at c.in-Ok-Open.ensures.response_parse)
