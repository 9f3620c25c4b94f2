use Rattle.std.proofs.Common.{◌≡◌, ◌++◌, Ok, Option, Some, Result, refl, rules, subst}
use Rattle.lra_audits.specs.declared.fault.RunFault.{RunFault}
use Rattle.lra_folders.specs.declared.deed.Line.{Line}
use Rattle.lra_folders.specs.Folders.{behind}
use Rattle.lra_folders.specs.inner.Told.{IsTold}
use Rattle.lra_folders.proofs.journals.write_next.Goals as goal

pub returns-in_ok-put-in-Ok-Some-clause-next : goal.returns-in_ok-put-in-Ok-Some-clause-next
returns-in_ok-put-in-Ok-Some-clause-next g c = λ deed bytes name told.
    let at : c.args.journal.now ≡ Ok (Some c.in-Ok-Some.line) = search rules in (
      Some (c.in-Ok-Some.line.status, c.in-Ok-Some.line.text.items),
      (
        subst (λ (r : Result (Option Line) RunFault). IsTold deed bytes (name ++ behind deed) r) at told,
        rw (c.deref.ensures.value) at c.in_ok-put-in-Ok-Some.ensures.written,
        refl,
        c.count.ensures.counted,
      ),
    )
