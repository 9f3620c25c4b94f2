use Rattle.lra_admission.proofs.Held.{held, none_held}
use Rattle.lra_admission.proofs.file.keys_from.Goals as goal

pub returns-in-Ok-clause-ok : goal.returns-in-Ok-clause-ok
returns-in-Ok-clause-ok g c = held (g.F.Read.remaining c.args.file) c.in-Ok.text.items c.read.result c.in-Ok.ensures.ok
    (rw c.as_slice.ensures.value at c.read.ensures.ok)

pub returns-in-Ok-clause-err : goal.returns-in-Ok-clause-err
returns-in-Ok-clause-err g c = none_held (g.F.Read.remaining c.args.file) c.in-Ok.text.items c.read.result
    c.in-Ok.ensures.ok (rw c.as_slice.ensures.value at c.read.ensures.err)
