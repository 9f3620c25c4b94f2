-- What a counter replies and what its callers know of the history behind it.
use Rattle.std.specs.Prelude.{◌≡◌, ◌≢◌, ◌==◌, ℕ, ◌≤◌, ◌<◌, ◌^◌, List, [], ◌++◌, filter, Result, Ok, Err, IsOk, ⊤}
use mathlib.Core.List.{IsPrefix}
use Rattle.lra_model.specs.declared.entry.Entry.{Entry}
use Rattle.lra_model.specs.declared.version.Version.{Version}
use Rattle.lra_model.specs.History.{History}
use Rattle.lra_commands.specs.declared.command.Command.{Command}
use Rattle.lra_commands.specs.declared.command.Command.TheVariants as command
use Rattle.lra_commands.specs.declared.command.Told.{Told}
use Rattle.lra_commands.specs.declared.command.Told.TheVariants as told
use Rattle.lra_commands.specs.declared.counter.Order.{Order}
use Rattle.lra_commands.specs.declared.counter.Order.TheVariants as order
use Rattle.lra_commands.specs.declared.counter.CounterFault.{CounterFault}
use Rattle.lra_commands.specs.declared.counter.CounterFault.TheVariants.{Refused, Worn}
use Rattle.lra_commands.specs.declared.refusal.Refusal.{Refusal}
use Rattle.lra_commands.specs.declared.refusal.Refusal.TheVariants as refusal
use Rattle.lra_commands.specs.declared.limits.Limits.{Limits}
use Rattle.lra_commands.specs.declared.limits.Terms.{Terms}
use Rattle.lra_commands.specs.Terms.{AreKeepable}
use Rattle.lra_commands.specs.Calls.{Call}
use Rattle.lra_commands.specs.Blocks.{block}
use Rattle.lra_commands.specs.Answers.{answer, growth, after_call}
use Rattle.lra_commands.specs.Shortages.{MayRunOut}
use Rattle.lra_commands.specs.Runs.{IsLawful}

-- what a coordinator is made with, and keeps
pub record Setting : Type 0 where
  pub version : Version
  pub instance : ℕ
  pub base : List ℕ
  pub limits : Limits

-- what its answers depend on besides the history
abbrev pub terms_of : Setting → Terms
terms_of s = record { version = s.version; limits = s.limits }

-- what callers know of a counter: what the coordinator behind it was made with, the clerk's number, and the history
-- that it has seen
pub record Sight : Type 0 where
  pub setting : Setting
  pub number : ℕ
  pub seen : History

-- the command that an order is; none of them carries an errand
abbrev pub command_of : {E : Type 0} → Order → Command E
command_of (order.Start parent limit) = command.Start parent limit
command_of (order.Join action uris) = command.Join action uris
command_of (order.Leave action member) = command.Leave action member
command_of (order.Close action) = command.Close action
command_of (order.Cancel action) = command.Cancel action
command_of order.Tick = command.Tick
command_of (order.Report member ending) = command.Report member ending
command_of order.Restart = command.Restart
command_of (order.Renew action limit) = command.Renew action limit
command_of (order.Status action) = command.Status action
command_of (order.MemberStatus member) = command.MemberStatus member

-- an order as a call of the counter's clerk
abbrev pub call_of : ℕ → ℕ → Order → Call
call_of number moment o = record { by = number; moment = moment; command = command_of o }

-- why an order is refused at a history: the definitions refuse it; or what it would write can't be kept; or memory was
-- refused, where it takes some and nothing that comes before that refuses it
abbrev pub IsRefusedAt : Terms → History → Call → Refusal → Type 0
IsRefusedAt s J c refusal.Stopped = IsOk (answer s J c) × (block s J c ≢ [])
IsRefusedAt s J c refusal.Memory = MayRunOut s J c
IsRefusedAt s J c r = answer s J c ≡ Err r

-- the reply to an order at a history, and the history after it: the definitions' answer, or why the order wasn't done
abbrev pub IsToldAt : Terms → History → Call → Result Told CounterFault → History → Type 0
IsToldAt s J c (Ok told) K = (answer s J c ≡ Ok told) × (K ≡ after_call s J c)
IsToldAt s J c (Err (Refused r)) K = IsRefusedAt s J c r × (K ≡ J)
IsToldAt s J c (Err Worn) K = K ≡ J

-- the same at a history that a coordinator can have, as it can have the one after it
pub record IsGivenAt (s : Setting) (J : History) (c : Call) (reply : Result Told CounterFault) (K : History) : Type 0
  where
    pub keepable : AreKeepable s.limits
    pub lawful : IsLawful (terms_of s) J
    pub told : IsToldAt (terms_of s) J c reply K
    pub left : IsLawful (terms_of s) K

-- the entries under a number, in their order
abbrev pub entries_under : ℕ → History → History
entries_under number J = filter (λ (e : Entry). e.by == number) J

-- the order was given at a history that begins with what was seen: others may have written meanwhile, but nothing under
-- the clerk's number
abbrev pub IsGivenSince : Setting → History → Call → Result Told CounterFault → History → Type 0
IsGivenSince s seen c reply K = (since : History) × (entries_under c.by since ≡ [])
    × IsGivenAt s (seen ++ since) c reply K

-- what is seen after an order: a counter that is worn shows nothing of the history
abbrev pub IsSeenAfter : Setting → History → Call → Result Told CounterFault → History → Type 0
IsSeenAfter s seen c (Err Worn) K = K ≡ seen
IsSeenAfter s seen c reply K = IsGivenSince s seen c reply K

-- nothing but the history changes
pub record IsSameCounter (before after : Sight) : Type 0 where
  pub setting : after.setting ≡ before.setting
  pub number : after.number ≡ before.number

-- what each counter keeps: an order is given once, at a history that begins with all that the counter had seen
pub record KeepsHistory (before : Sight) (moment : ℕ) (o : Order) (reply : Result Told CounterFault)
    (after : Sight) : Type 0 where
  pub same : IsSameCounter before after
  pub seen : IsSeenAfter before.setting before.seen (call_of before.number moment o) reply after.seen

-- what a counter of its own keeps, where nothing else writes: the order is given at the very history that it has seen,
-- and it is never worn
pub record OwnsHistory (before : Sight) (moment : ℕ) (o : Order) (reply : Result Told CounterFault)
    (after : Sight) : Type 0 where
  pub same : IsSameCounter before after
  pub given : IsGivenAt before.setting before.seen (call_of before.number moment o) reply after.seen
  pub fresh : reply ≢ Err Worn

-- a number that an identifier can have
abbrev pub IsIdentifiable : ℕ → Type 0
IsIdentifiable n = (1 ≤ n) × (n < 2 ^ 62)

-- the answers that an order can get; an identifier can have the number in the answer to a start or a join
abbrev pub CanTell : Order → Told → Type 0
CanTell (order.Start parent limit) (told.Action n) = IsIdentifiable n
CanTell (order.Join action uris) (told.Member n) = IsIdentifiable n
CanTell (order.Join action uris) (told.AlreadyMember n) = IsIdentifiable n
CanTell (order.Leave action member) told.Left = ⊤
CanTell (order.Close action) (told.Now status) = ⊤
CanTell (order.Close action) (told.Already status) = ⊤
CanTell (order.Cancel action) (told.Now status) = ⊤
CanTell (order.Cancel action) (told.Already status) = ⊤
CanTell order.Tick (told.Fired action) = ⊤
CanTell order.Tick told.Idle = ⊤
CanTell (order.Report member ending) (told.MemberNow status) = ⊤
CanTell (order.Report member ending) (told.MemberAlready status) = ⊤
CanTell order.Restart told.Restarted = ⊤
CanTell (order.Renew action limit) told.Renewed = ⊤
CanTell (order.Status action) (told.ActionIs status) = ⊤
CanTell (order.MemberStatus member) (told.MemberIs status) = ⊤
CanTell _ _ = ⊥

-- each answer of a counter is one that its order can get
abbrev pub CountersTell : Type 0
CountersTell = (before after : Sight) (moment : ℕ) (o : Order) (t : Told) → KeepsHistory before moment o (Ok t) after
    → CanTell o t

-- what an order adds to the entries under its clerk's number: what it appends where it was done, and else nothing
abbrev pub added_by : Terms → History → Call → Result Told CounterFault → History
added_by s J c (Ok told) = growth s J c
added_by s J c (Err fault) = []

-- under the clerk's number stand the entries from before, and then what the order adds at a history that begins with
-- all that was seen: once, and nothing else
pub record WritesOnce (before : Sight) (moment : ℕ) (o : Order) (reply : Result Told CounterFault)
    (after : Sight) : Type 0 where
  pub met : History
  pub begins : IsPrefix before.seen met
  pub written : entries_under before.number after.seen ≡ entries_under before.number before.seen
      ++ added_by (terms_of before.setting) met (call_of before.number moment o) reply

-- whatever becomes of an order at a counter, it is written once at most
abbrev pub CountersWriteOnce : Type 0
CountersWriteOnce = (before after : Sight) (moment : ℕ) (o : Order) (reply : Result Told CounterFault)
    → KeepsHistory before moment o reply after → WritesOnce before moment o reply after
