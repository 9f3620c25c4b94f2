use Rattle.std.proofs.Common.{rules}
use Rattle.lra_ticket.specs.Locks.{pass_view}
use Rattle.lra_office.proofs.office.OfficeOf.enrol_beside.Goals as goal

pub returns-in-Err-clause-refused : goal.returns-in-Err-clause-refused
returns-in-Err-clause-refused g c = (pass_view c.in-Err.pass, search rules)
