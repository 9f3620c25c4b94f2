use Rattle.std.proofs.Common.{◌∙◌, ap, sym}
use Rattle.lra_commands.specs.declared.query.Query.{Query}
use Rattle.lra_commands.specs.Queries.{tell}
use Rattle.lra_validator.proofs.Asking.{tell_status, tell_member, tell_awaited, tell_row, tell_count}
use Rattle.lra_validator.proofs.queries.tell.Goals as goal

pub returns-in-ActionStatus : goal.returns-in-ActionStatus
returns-in-ActionStatus c = λ J k. c.action_is.ensures J k ∙ sym (tell_status c.args.limits.now J
    c.in-ActionStatus.action) ∙ ap (λ (q : Query). tell c.args.limits.now J q) (sym c.in-ActionStatus.is)

pub returns-in-MemberStatus : goal.returns-in-MemberStatus
returns-in-MemberStatus c = λ J k. c.member_is.ensures J k ∙ sym (tell_member c.args.limits.now J
    c.in-MemberStatus.member) ∙ ap (λ (q : Query). tell c.args.limits.now J q) (sym c.in-MemberStatus.is)

pub returns-in-Awaited : goal.returns-in-Awaited
returns-in-Awaited c = λ J k. c.awaited.ensures J k ∙ sym (tell_awaited c.args.limits.now J c.in-Awaited.action
    c.in-Awaited.place) ∙ ap (λ (q : Query). tell c.args.limits.now J q) (sym c.in-Awaited.is)

pub returns-in-Row : goal.returns-in-Row
returns-in-Row c = λ J k. c.next_row.ensures J k ∙ sym (tell_row c.args.limits.now J c.in-Row.of c.in-Row.place)
    ∙ ap (λ (q : Query). tell c.args.limits.now J q) (sym c.in-Row.is)

pub returns-in-Count : goal.returns-in-Count
returns-in-Count c =
    λ J k. c.count_rows.ensures J k ∙ sym (tell_count c.args.limits.now J c.in-Count.of c.in-Count.place)
    ∙ ap (λ (q : Query). tell c.args.limits.now J q) (sym c.in-Count.is)
