use Rattle.std.proofs.Common.{◌≡◌, drop}
use Rattle.lra_front.specs.Paths.{with_paths}
use Rattle.lra_front.proofs.paths.serve_all.Given as goal

abbrev pub invariant-loop-served : goal.invariant-loop-served
invariant-loop-served g l =
    with_paths g.P.Path.path_of (drop l.served-index l.served-items) l.router ≡ with_paths g.P.Path.path_of
    g.P.Path.all l.fn.router
