-- What an inbox stands for: the bytes that it kept, and then what its reader has left.
use Rattle.std.specs.Prelude.{◌≡◌, ◌⊎◌, ℕ, Bool, List, drop, Option, ⊤}
use Rattle.std.specs.Io.KnownBytes.{prepend_known}
use Rattle.lra_wire.specs.declared.fault.WireFault.{WireFault}
use Rattle.lra_wire.specs.declared.fault.WireFault.TheVariants.{BadHead, Chunked, BadLength, TooLarge, Cut, Io, Memory}
use Rattle.lra_wire.specs.declared.inbox.Inbox.{Inbox}

-- the bytes that came and belong to no message yet
abbrev pub kept_bytes : {R : Type 0} → Inbox R → List ℕ
kept_bytes inbox = drop inbox.taken inbox.kept.items

-- the bytes of the messages to come, where they are known
abbrev pub stream_of : {R : Type 0} → (R → Option (List ℕ)) → Inbox R → Option (List ℕ)
stream_of remaining inbox = prepend_known (kept_bytes inbox) (remaining inbox.reader)

-- a call returned a fault, and each further one returns `Cut`
abbrev pub is_spent : {R : Type 0} → Inbox R → Bool
is_spent inbox = inbox.spent

-- The fault says nothing of the bytes: a reader failed, or memory was refused.
abbrev pub IsOutside : WireFault → Type 0
IsOutside Io = ⊤
IsOutside Memory = ⊤
IsOutside BadHead = ⊥
IsOutside Chunked = ⊥
IsOutside BadLength = ⊥
IsOutside TooLarge = ⊥
IsOutside Cut = ⊥

-- the bytes that had come and belonged to no message yet, when the reader was last asked for more
abbrev pub asked_at : {R : Type 0} → Inbox R → List ℕ
asked_at inbox = inbox.asked.value.items

-- The reader wasn't asked for more, or such bytes had come when it was last asked. Within a call bytes are only added,
-- so that there never were more of them earlier in the call.
abbrev pub AsksAt : {R : Type 0} → (List ℕ → Type 0) → Inbox R → Inbox R → Type 0
AsksAt Awaits old new = ((new.reader ≡ old.reader) × (asked_at new ≡ asked_at old)) ⊎ Awaits (asked_at new)
