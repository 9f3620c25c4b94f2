use Rattle.std.proofs.Common.{inr}
use Rattle.lra_event_loop.specs.Clients.{continue_text}
use Rattle.lra_event_loop.proofs.Streams.{whole_sent}
use Rattle.lra_event_loop.proofs.client.Client.send_continue.Goals as goal

pub returns-then-count : goal.returns-then-count
returns-then-count g c = (
  c.note_continued.ensures,
  inr (
    c.awaits_continue.ensures c.if-not-awaits_continue.false,
    whole_sent (g.S.Write.contents c.args.self.now.stream) (g.S.Write.contents c.write.new.self) continue_text
        c.in-Ok.count c.if-count.true c.in-Ok.ensures.bytes,
  ),
)
