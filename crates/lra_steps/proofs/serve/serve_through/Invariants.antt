use Rattle.std.proofs.Common.{◌≡◌, ◌++◌, take, flat_map, IsFalse}
use Rattle.lra_steps.specs.inner.Feeding.{Follows}
use Rattle.lra_steps.proofs.serve.serve_through.Given as goal

-- the pieces so far were accepted, and what was replied was sent
abbrev pub invariant-loop-piece : goal.invariant-loop-piece
invariant-loop-piece g l = record {
  follows : Follows g.A.Handler.base_of g.A.Handler.responds g.K.Clock.tells (g.A.Handler.sight l.fn.handler)
      l.fn.clock l.connection (g.A.Handler.sight l.handler) l.clock;
  instance : l.connection.instance ≡ l.fn.connection.instance;
  base : l.connection.base ≡ l.fn.connection.base;
  closed : IsFalse l.connection.closed;
  taken : l.connection.taken ≡ flat_map (λ piece. piece.items) (take l.piece-index l.pieces);
  sent : l.sent.items ≡ l.fn.sent.items ++ l.connection.sent;
}
