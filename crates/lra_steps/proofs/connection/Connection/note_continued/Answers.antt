use Rattle.lra_steps.proofs.connection.Connection.note_continued.Goals as goal

pub invariant_of-self : goal.invariant_of-self
invariant_of-self c = record {
  served = c.self.invariant.served;
  seen = c.note_continued.ensures c.self.inside.kept c.self.invariant.seen;
  left = c.self.invariant.left;
}
