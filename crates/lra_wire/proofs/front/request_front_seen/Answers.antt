use Rattle.std.proofs.Common.{arith, inl}
use Rattle.lra_wire.proofs.FrontLemmas.{body_unfinished, sees_all, head_open, sees_head, sees_body, unfinished_awaits}
use Rattle.lra_wire.proofs.front.request_front_seen.Goals as goal

pub returns-then-stays_open-clause-front : goal.returns-then-stays_open-clause-front
returns-then-stays_open-clause-front c = let stays = c.stays_open.ensures c.if-stays_open.true in
    (stays.awaits, stays.bound)

pub returns-then-stays_open-clause-seen : goal.returns-then-stays_open-clause-seen
returns-then-stays_open-clause-seen c = sees_all c.args.seen.now c.args.bytes.now c.requires
    (c.stays_open.ensures c.if-stays_open.true)

pub returns-in-Ok-OpenHead-clause-front : goal.returns-in-Ok-OpenHead-clause-front
returns-in-Ok-OpenHead-clause-front c =
    let head = rw c.in-Ok-OpenHead.field-0-is at c.in-Ok-OpenHead.ensures in
    (inl (head_open c.args.bytes.now head.0 head.1), omega (arith, head.2))

pub returns-in-Ok-OpenHead-clause-seen : goal.returns-in-Ok-OpenHead-clause-seen
returns-in-Ok-OpenHead-clause-seen c =
    let head = rw c.in-Ok-OpenHead.field-0-is at c.in-Ok-OpenHead.ensures in
    sees_head c.args.bytes.now (head_open c.args.bytes.now head.0 head.1)

pub returns-in-Ok-OpenBody-clause-front : goal.returns-in-Ok-OpenBody-clause-front
returns-in-Ok-OpenBody-clause-front c =
    let lacks = rw c.in-Ok-OpenBody.field-0-is at c.in-Ok-OpenBody.ensures in
    let body = body_unfinished c.args.bytes.now c.in-Ok-OpenBody.wanted lacks in
    (unfinished_awaits c.args.bytes.now body.0, body.1)

pub returns-in-Ok-OpenBody-clause-seen : goal.returns-in-Ok-OpenBody-clause-seen
returns-in-Ok-OpenBody-clause-seen c =
    let lacks = rw c.in-Ok-OpenBody.field-0-is at c.in-Ok-OpenBody.ensures in
    sees_body c.args.seen.now c.args.bytes.now c.in-Ok-OpenBody.wanted c.requires lacks
