use Rattle.std.proofs.Common.{map, sym, ap, ◌∙◌, cond, Option, Some, None, subst}
use Rattle.std.specs.Option.{option_map}
use Rattle.lra_wire.specs.Request.{Request, request_of}
use Rattle.lra_front.specs.declared.stream.StreamEnd.TheVariants.{Done, WriteFault}
use Rattle.lra_steps.specs.History.{History, Turn, IsServed}
use Rattle.lra_steps.specs.inner.Fields.{history_of, turn_of}
use Rattle.lra_steps.proofs.HistoryLemmas.{served_told, left_one}
use Rattle.lra_steps.proofs.connection.Connection.push_reply.Goals as goal

pub invariant_of-self : goal.invariant_of-self
invariant_of-self c =
    let h = history_of c.self.inside in
    let turn : Turn = record {
      request = request_of c.in-Some.request;
      moment = c.args.moment;
      answered =
          c.args.answered;
    } in
    let left = c.self.invariant.left in
    let base = c.requires.value ∙ ap (λ (h : History). h.base) (sym c.self.view_is) in
    let turns = map turn_of c.note_turn.new.log.items in
    let served : Option Request → Type 0 = λ stands. IsServed (record h {
      turns = turns;
      stands = stands;
      ended = c.end_after-self-inside.result;
      out =
          c.push_reply-replied.new.out;
    }) in
    record {
      served = subst served (sym (ap (option_map request_of) c.let_go.ensures))
          (served_told h turn c.args.base.now c.self.inside.left c.is_head-head.result c.closes_after-close.result
          c.push_reply-replied.result turns c.end_after-self-inside.result c.push_reply-replied.new.out
          c.self.invariant.served (ap (option_map request_of) c.in-Some.is) base left c.is_head-head.ensures
          c.closes_after-close.ensures c.note_turn.ensures
          (c.end_after-self-inside.ensures ∙ ap (λ b. cond b (cond c.closes_after-close.result (Some Done) None)
          (Some WriteFault)) c.is_ok.ensures.value) c.push_reply-replied.ensures.ok
          c.push_reply-replied.ensures.err);
      seen = c.self.invariant.seen;
      left = left_one h turn c.self.inside.left c.saturating_sub-self-inside.result turns left
          c.saturating_sub-self-inside.ensures c.note_turn.ensures;
    }
