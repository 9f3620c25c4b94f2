-- What is decided on every command.
use Rattle.std.proofs.Common.{◌≡◌, ℕ, refl, subst, sym, max}
use Rattle.lra_model.specs.History.{History, last_moment}
use Rattle.lra_commands.specs.declared.command.Command.TheVariants as command
use Rattle.lra_commands.specs.declared.limits.Terms.{Terms}
use Rattle.lra_commands.specs.Terms.{AreKeepable}
use Rattle.lra_commands.specs.Calls.{Command, IsCall}
use Rattle.lra_commands.specs.Runs.{IsLawful}
use Rattle.lra_validator.specs.declared.due_facts.DueFacts.{DueFacts}
use Rattle.lra_validator.specs.Decisions.{IsDecided, HasDueFacts}
use Rattle.lra_validator.specs.inner.Judged.{Judged, IsJudged}
use Rattle.lra_validator.proofs.Asking.{ask_decides}
use Rattle.lra_validator.proofs.Passing.{call}
use Rattle.lra_validator.proofs.OnStart.{enrol_decides, start_decides}
use Rattle.lra_validator.proofs.OnActions.{close_decides, cancel_decides, tick_decides, renew_decides}
use Rattle.lra_validator.proofs.OnMembers.{join_decides, leave_decides, report_decides}
use Rattle.lra_validator.proofs.OnAsks.{next_ask_decides, record_decides, restart_decides}

-- what holds of what was validated holds of the result
moved : (s : Terms) (J : History) (by h : ℕ) (o : Command) (r j : Judged) → r ≡ j → IsDecided s J (call by h o) j
    → IsDecided s J (call by h o) r
moved s J by h o r j is d = subst (λ (x : Judged). IsDecided s J (call by h o) x) (sym is) d

pub decides : (s : Terms) (J : History) (by h : ℕ) (x : DueFacts) (o : Command) (r : Judged) → AreKeepable s.limits
    → IsLawful s J → IsCall (call by h o) → HasDueFacts s J (max h (last_moment J)) o x
    → IsJudged s J by (max h (last_moment J)) x o r → IsDecided s J (call by h o) r
decides s J by h x command.Enrol r l k f b is = moved s J by h command.Enrol r _ is
    (enrol_decides s J by h l k f.moment)
decides s J by h x (command.Start parent limit) r l k f b is = moved s J by h (command.Start parent limit) r _ is
    (start_decides s J by h parent limit l k f.moment)
decides s J by h x (command.Join a uris) r l k f b is = join_decides s J by h a uris r l k f.moment f.fits is
decides s J by h x (command.Leave a p) r l k f b is = moved s J by h (command.Leave a p) r _ is
    (leave_decides s J by h a p k f.moment)
decides s J by h x (command.Close a) r l k f b is = moved s J by h (command.Close a) r _ is
    (close_decides s J by h a k f.moment)
decides s J by h x (command.Cancel a) r l k f b is = moved s J by h (command.Cancel a) r _ is
    (cancel_decides s J by h a k f.moment)
decides s J by h x command.Tick r l k f b is = moved s J by h command.Tick r _ is
    (tick_decides s J by h x.late k f.moment b)
decides s J by h x command.NextAsk r l k f b is = moved s J by h command.NextAsk r _ is
    (next_ask_decides s J by h x.due l k f.moment b)
decides s J by h x (command.Record errand o) r l k f b is = moved s J by h (command.Record errand o) r _ is
    (record_decides s J by h errand o k f.moment f.fits)
decides s J by h x (command.Report p e) r l k f b is = moved s J by h (command.Report p e) r _ is
    (report_decides s J by h p e k f.moment)
decides s J by h x command.Restart r l k f b is = moved s J by h command.Restart r _ is
    (restart_decides s J by h k f.moment)
decides s J by h x (command.Renew a limit) r l k f b is = moved s J by h (command.Renew a limit) r _ is
    (renew_decides s J by h a limit k f.moment)
decides s J by h x (command.Status a) r l k f b is = moved s J by h (command.Status a) r _ is
    (ask_decides s J by h (command.Status a) _ refl)
decides s J by h x (command.MemberStatus p) r l k f b is = moved s J by h (command.MemberStatus p) r _ is
    (ask_decides s J by h (command.MemberStatus p) _ refl)
