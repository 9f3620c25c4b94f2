-- The events of a service: their levels, words and fields.
use Rattle.std.specs.Prelude.{ℕ, ◌-◌, List, [], ◌∷◌, ◌++◌, false, Option, Some, None, length, replicate, codes}
use Rattle.std.specs.Prelude.{if◌then◌else◌}
use Rattle.std.specs.Fmt.{decimal, digits}
use Rattle.log.specs.declared.level.Level.{Level}
use Rattle.log.specs.declared.level.Level.TheVariants as level
use Rattle.lra_model.specs.Names.{action_status_name}
use Rattle.lra_model.specs.Words.{has_failed}
use Rattle.lra_outcomes.specs.declared.reply.Reply.{Reply}
use Rattle.lra_outcomes.specs.Replies.{words_of}
use Rattle.lra_logs.specs.declared.event.Event.{Event}
use Rattle.lra_logs.specs.declared.event.Event.TheVariants as event
use Rattle.lra_logs.specs.declared.event.Key.{Key}
use Rattle.lra_logs.specs.declared.event.Key.TheVariants as key
use Rattle.lra_logs.specs.declared.event.Shown.{Shown}
use Rattle.lra_logs.specs.declared.event.Shown.TheVariants as shown
use Rattle.lra_logs.specs.declared.event.Port.{Port}
use Rattle.lra_logs.specs.declared.event.Port.TheVariants as port
use Rattle.lra_logs.specs.declared.event.Field.{Field}

-- the level at which an event is logged (this project's choice)
abbrev pub level_of : Event → Level
level_of (event.Serving journals workers) = level.Info
level_of event.Ended = level.Info
level_of (event.ActionStarted journal action) = level.Debug
level_of (event.ActionEnded journal action status) = if has_failed status then level.Warn else level.Info
level_of (event.JournalRolled journal) = level.Info
level_of (event.JournalPutAway journal) = level.Info
level_of (event.ArchiveFailed journal) = level.Warn
level_of event.SetBehind = level.Error
level_of event.SetFollowed = level.Info
level_of (event.DescriptorsLowered asked had) = level.Warn
level_of event.ThreadRefused = level.Error
level_of event.ThreadEnded = level.Error
level_of (event.CallbacksStand journal) = level.Error
level_of (event.MemberSilent journal member times outcome) = level.Warn
level_of (event.WriteFailed journal) = level.Error
level_of event.SyncFailed = level.Error
level_of (event.Refused port code) = level.Warn
level_of (event.Suppressed lines) = level.Warn

-- the message of an event (this project's choice)
abbrev pub message_of : Event → List ℕ
message_of (event.Serving journals workers) = codes "serving"
message_of event.Ended = codes "ended"
message_of (event.ActionStarted journal action) = codes "action started"
message_of (event.ActionEnded journal action status) = codes "action ended"
message_of (event.JournalRolled journal) = codes "journal rolled"
message_of (event.JournalPutAway journal) = codes "journal put away"
message_of (event.ArchiveFailed journal) = codes "archive failed"
message_of event.SetBehind = codes "journal set behind"
message_of event.SetFollowed = codes "journal set followed"
message_of (event.DescriptorsLowered asked had) = codes "descriptors lowered"
message_of event.ThreadRefused = codes "thread refused"
message_of event.ThreadEnded = codes "thread ended"
message_of (event.CallbacksStand journal) = codes "callbacks stand"
message_of (event.MemberSilent journal member times outcome) = codes "member silent"
message_of (event.WriteFailed journal) = codes "write failed"
message_of event.SyncFailed = codes "sync failed"
message_of (event.Refused port code) = codes "request refused"
message_of (event.Suppressed lines) = codes "suppressed"

-- a field: a number or a word under its key
abbrev pub field : Key → Shown → Field
field k s = record { key = k; shown = s }

-- the field of a callback's outcome, where that is known
abbrev pub outcome_field : Option Reply → List Field
outcome_field None = []
outcome_field (Some reply) = field key.Outcome (shown.Outcome reply) ∷ []

-- the fields of an event
abbrev pub fields_of : Event → List Field
fields_of (event.Serving journals workers) = field key.Journals (shown.Number journals)
    ∷ field key.Workers (shown.Number workers) ∷ []
fields_of event.Ended = []
fields_of (event.ActionStarted journal action) = field key.Journal (shown.Journal journal)
    ∷ field key.Action (shown.Number action) ∷ []
fields_of (event.ActionEnded journal action status) =
    field key.Journal (shown.Journal journal) ∷ field key.Action (shown.Number action)
    ∷ field key.Status (shown.Status status) ∷ []
fields_of (event.JournalRolled journal) = field key.Journal (shown.Journal journal) ∷ []
fields_of (event.JournalPutAway journal) = field key.Journal (shown.Journal journal) ∷ []
fields_of (event.ArchiveFailed journal) = field key.Journal (shown.Journal journal) ∷ []
fields_of event.SetBehind = []
fields_of event.SetFollowed = []
fields_of (event.DescriptorsLowered asked had) = field key.Asked (shown.Number asked) ∷ field key.Had (shown.Number had)
    ∷ []
fields_of event.ThreadRefused = []
fields_of event.ThreadEnded = []
fields_of (event.CallbacksStand journal) = field key.Journal (shown.Journal journal) ∷ []
fields_of (event.MemberSilent journal member times outcome) =
    field key.Journal (shown.Journal journal) ∷ field key.Member (shown.Number member)
    ∷ field key.Times (shown.Number times) ∷ outcome_field outcome
fields_of (event.WriteFailed journal) = field key.Journal (shown.Journal journal) ∷ []
fields_of event.SyncFailed = []
fields_of (event.Refused port code) = field key.Port (shown.Port port) ∷ field key.Code (shown.Number code) ∷ []
fields_of (event.Suppressed lines) = field key.Lines (shown.Number lines) ∷ []

-- the word of a key
abbrev pub key_word : Key → List ℕ
key_word key.Action = codes "action"
key_word key.Asked = codes "asked"
key_word key.Code = codes "code"
key_word key.Had = codes "had"
key_word key.Journal = codes "journal"
key_word key.Journals = codes "journals"
key_word key.Lines = codes "lines"
key_word key.Member = codes "member"
key_word key.Outcome = codes "outcome"
key_word key.Port = codes "port"
key_word key.Status = codes "status"
key_word key.Times = codes "times"
key_word key.Workers = codes "workers"

-- the word of a port
abbrev pub port_word : Port → List ℕ
port_word port.Services = codes "services"
port_word port.Operators = codes "operators"

-- the fifteen hexadecimal digits of an instance, after which its journal in a folder is named
abbrev pub stem : ℕ → List ℕ
stem i = replicate (15 - length (digits 16 false i)) 48 ++ digits 16 false i

-- the text of a field's value
abbrev pub shown_text : Shown → List ℕ
shown_text (shown.Number n) = decimal n
shown_text (shown.Journal journal) = stem journal
shown_text (shown.Status status) = action_status_name status
shown_text (shown.Port port) = port_word port
shown_text (shown.Outcome reply) = words_of reply
