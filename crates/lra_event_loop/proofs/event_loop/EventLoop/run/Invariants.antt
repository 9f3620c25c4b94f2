use Rattle.lra_event_loop.proofs.event_loop.EventLoop.run.Given as goal

-- what the URIs of the handler begin with
abbrev pub ghosts-run_at : goal.ghosts-run_at
ghosts-run_at g a = record { base = g.A.Handler.base_of (g.A.Handler.sight a.handler.now) }
