use Rattle.std.proofs.Common.{string_bytes}
use Rattle.std.proofs.lemmas.Result.{IfOk-weaker}
use Rattle.lra_words.specs.Asked.{texts}
use Rattle.lra_folders.specs.declared.deed.Deed.TheVariants.{Audit}
use Rattle.lra_folders.specs.declared.journals.FolderAudit.{FolderAudit}
use Rattle.lra_folders.specs.Folders.{AuditsAll, TellsAll}
use Rattle.lra_folders.proofs.Each.{all_audited}
use Rattle.lra_folders.proofs.journals.audit_journals.Goals as goal

pub returns : goal.returns
returns g c = record {
  ok = λ bytes known.
      let before = g.W.Write.contents c.args.writer.now in
      let after = g.W.Write.contents c.tell_journals.new.writer in
      IfOk-weaker c.tell_journals.result
      (λ (audit : FolderAudit). TellsAll Audit bytes c.args.folder.now (texts c.args.names.now) before after
      (string_bytes audit.told) audit.status)
      (λ (audit : FolderAudit). AuditsAll bytes c.args.folder.now (texts c.args.names.now) before after
      (string_bytes audit.told) audit.status)
      (λ audit. all_audited bytes c.args.folder.now (texts c.args.names.now) before after (string_bytes audit.told)
      audit.status) (c.tell_journals.ensures bytes known);
}
