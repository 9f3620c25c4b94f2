use Rattle.std.proofs.Common.{◌≡◌, ◌+◌, ◌-◌, ◌*◌, ◌≤◌, ◌++◌, length, take, None}
use Rattle.lra_steps.specs.inner.Feeding.{Follows}
use Rattle.lra_steps.proofs.serve.feed.Given as goal

-- that much of the piece was accepted, and the requests that stood were answered
abbrev pub invariant-loop-alloc : goal.invariant-loop-alloc
invariant-loop-alloc g l =
    let sight = g.A.Handler.sight in
    let base_of = g.A.Handler.base_of in
    let responds = g.A.Handler.responds in
    let tells = g.K.Clock.tells in
    record {
      within : l.at ≤ length l.piece;
      none : l.connection.stands ≡ None;
      base : l.connection.base ≡ base_of (sight l.handler);
      own : l.connection.base ≡ l.fn.connection.base;
      follows : (v : g.A.Handler.State) (k : g.row.K.Denot) → Follows base_of responds tells v k l.fn.connection
          (sight l.fn.handler) l.fn.clock
          → Follows base_of responds tells v k l.connection (sight l.handler) l.clock;
      instance : l.connection.instance ≡ l.fn.connection.instance;
      sent : l.connection.sent ≡ l.fn.connection.sent;
      closed : l.connection.closed ≡ l.fn.connection.closed;
      taken : l.connection.taken ≡ l.fn.connection.taken ++ take l.at l.piece;
    }

-- a byte of the piece counts twice, so that it may be kept
abbrev pub decreases-loop-alloc : goal.decreases-loop-alloc
decreases-loop-alloc g l = 2 * (length l.piece - l.at) + length l.connection.kept
