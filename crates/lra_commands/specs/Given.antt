-- What a call gives besides its answer: the errand of an ask.
use Rattle.std.specs.Prelude.{◌≡◌, Option, Some, option_map}
use Rattle.std.specs.Option.{option_and_then}
use Rattle.lra_model.specs.declared.entry.Entry.{Entry}
use Rattle.lra_model.specs.History.{History}
use Rattle.lra_model.specs.Members.{Asked, asked_at, ask_of}
use Rattle.lra_commands.specs.Errands.{Asking, asking_of}
use Rattle.lra_commands.specs.Calls.{Call}
use Rattle.lra_commands.specs.Deeds.{own_entry}
use Rattle.lra_commands.specs.Counters.{Setting, terms_of}

-- the errand of an entry that comes after a history: only an ask has one
abbrev pub errand_for : Setting → History → Entry → Option Asking
errand_for g J e = option_map (asking_of g.instance g.base J) (asked_at (record { past = J; entry = e }))

-- the errand that a call gives once its block is written
abbrev pub errand_of : Setting → History → Call → Option Asking
errand_of g J c = option_and_then (errand_for g J) (own_entry (terms_of g) J c)

-- the ask that an errand carries
abbrev pub ask_carried : Asking → Asked
ask_carried e = record { number = e.ask; member = e.member; kind = e.kind; direction = e.direction }

-- an errand is of an ask in the history
abbrev pub IsOfAsk : History → Asking → Type 0
IsOfAsk J e = ask_of J e.ask ≡ Some (ask_carried e)
