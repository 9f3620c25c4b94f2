use Rattle.std.proofs.Common.{sym, subst, refl, ◌≡◌, ◌∙◌, Some, IsSome}
use Rattle.lra_ticket.specs.Locks.{Suits}
use Rattle.lra_ticket.proofs.Keeps.{ends}
use Rattle.lra_ticket.proofs.lock.TicketLock.last_value.Goals as goal

pub unwrap-requires : goal.unwrap-requires
unwrap-requires g c = let t = ends g.V.Kept.origin g.V.Kept.history g.V.Kept.lawful _ _ _ c.requires.last
    c.into_parts.ensures in subst IsSome (sym t.1) refl

pub returns : goal.returns
returns g c = let t = ends g.V.Kept.origin g.V.Kept.history g.V.Kept.lawful _ _ _ c.requires.last
    c.into_parts.ensures in
    let is : Some t.0 ≡ Some c.unwrap.result = sym t.1 ∙ c.unwrap.ensures in let same : t.0 ≡ c.unwrap.result = cc is in
    subst (Suits g.V.Kept.origin g.V.Kept.history g.V.Kept.lawful c.args.pass.seat.me.0) same t.2
