use Rattle.std.proofs.Common.{rules, subst, ℕ, List}
use Rattle.lra_wire.specs.Writing.{Sends}
use Rattle.lra_operators.proofs.Replying.{none_sent, same_text}
use Rattle.lra_operators.proofs.reply.Reply.write.Goals as goal

pub returns-in_default-clause-text : goal.returns-in_default-clause-text
returns-in_default-clause-text g c = none_sent (g.W.Write.contents c.args.writer.now) c.args.self.now

pub returns-in_default-fields-clause-text : goal.returns-in_default-fields-clause-text
returns-in_default-fields-clause-text g c = none_sent (g.W.Write.contents c.args.writer.now) c.args.self.now

pub returns-clause-text : goal.returns-clause-text
returns-clause-text g c =
    let P : List ℕ → Type 0 =
    λ text. Sends (g.W.Write.contents c.args.writer.now) (g.W.Write.contents c.write_response_in.new.writer) text
    c.write_response_in.result in
    subst P
    (same_text c.args.self.now _ _ _ _ (search rules) (search rules) (search rules) (search rules))
    c.write_response_in.ensures.text
