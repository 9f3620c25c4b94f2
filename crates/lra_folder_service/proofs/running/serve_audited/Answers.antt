use denote.Exit.{no}
use denote.Param.{param}
use denote.Param.Send.{param_send, arg_send}
use Rattle.lra_durable.proofs.journal_writer.JournalWriter.TheSendSync as journal_writer
use Rattle.lra_durable.specs.contracts.journal_writer.JournalWriterWrite.TheImpl as writer
use Rattle.lra_storage.proofs.disk.Appender.TheSendSync as appender
use Rattle.lra_storage.proofs.disk.FileSyncer.TheSendSync as syncer
use Rattle.lra_storage.specs.contracts.disk.Appender as append_handle
use Rattle.lra_storage.specs.contracts.disk.AppenderWrite.TheImpl as append_handle_write
use Rattle.lra_storage.specs.contracts.disk.FileDisk as disk
use Rattle.lra_storage.specs.contracts.disk.FileDiskDisk.TheImpl as disk_disk
use Rattle.lra_storage.specs.contracts.disk.FileSyncer as sync
use Rattle.lra_sessions.proofs.session.OwnedSession.TheSendSync as session
use Rattle.lra_office.specs.contracts.desk.Origin as origin
use Rattle.lra_office.proofs.Crosses.{desk_send}
use Rattle.lra_folder_service.proofs.running.serve_audited.Goals as goal

pub serve_on-served-requires-send-B : goal.serve_on-served-requires-send-B
serve_on-served-requires-send-B g c κs within =
    let rt = param 0 g.row.R in
    let ghosts = writer.ghosts rt disk.the_row append_handle.the_row sync.the_row g.R.Wait g.R.Wait-dict
    disk_disk.ghosts disk_disk.dict append_handle_write.ghosts disk_disk.dict disk_disk.dict disk_disk.dict in
    let crosses = journal_writer.the_send rt disk.the_row append_handle.the_row sync.the_row disk_disk.ghosts
    append_handle_write.ghosts
    c.type_bounds.send-R appender.the_send syncer.the_send in
    let sent = desk_send _ ghosts crosses in
    param_send _ _ (arg_send _ no _ (session.the_send _ _ origin.the_row _ _ sent c.type_bounds.send-R))
