-- How a block is made.
use Rattle.std.specs.Prelude.{◌≡◌, ◌+◌, ◌≤◌, ℕ, List, length, Option, Some, None, option_map, Result, MatchResult}
use Rattle.std.specs.List.{flat_map}
use Rattle.lra_model.specs.declared.entry.Deed.{Deed}
use Rattle.lra_model.specs.declared.entry.Deed.TheVariants as deed
use Rattle.lra_model.specs.declared.entry.Entry.{Entry}
use Rattle.lra_model.specs.History.{History}
use Rattle.lra_model.specs.Members.{ask_direction}
use Rattle.lra_lines.specs.Line.{line}
use Rattle.lra_tables.specs.Plans.{Planned}
use Rattle.lra_commands.specs.declared.command.Told.{Told}
use Rattle.lra_commands.specs.declared.limits.Terms.{Terms}
use Rattle.lra_commands.specs.declared.refusal.Refusal.{Refusal}
use Rattle.lra_commands.specs.Calls.{Command, Call, IsCall}
use Rattle.lra_commands.specs.Counters.{Setting, terms_of}
use Rattle.lra_commands.specs.Errands.{Asking, asking_of}
use Rattle.lra_commands.specs.Shortages.{IsRefusal}
use Rattle.lra_core.specs.declared.making.Ask.{Ask}
use Rattle.lra_core.specs.declared.making.Parts.{Parts}
use Rattle.lra_core.specs.Shape.{Shape}
use Rattle.lra_core.specs.Prepares.{Written, IsBlockOf, HasRoom}
use Rattle.lra_validator.specs.Decisions.{IsWritten}

-- the ask that an entry makes, if it makes one
abbrev pub ask_in : Entry → Option Ask
ask_in e = by_deed e.deed
  where
    by_deed : Deed → Option Ask
    by_deed (deed.Ask n p kind) = Some (record { number = n; member = p; kind = kind })
    by_deed _ = None

-- the contents of the errand of an ask that is wanted at a history
abbrev pub asking_at : Setting → History → Ask → Asking
asking_at g J a = asking_of g.instance g.base J
    (record { number = a.number; member = a.member; kind = a.kind; direction = ask_direction J a.member a.kind })

-- a call that can be made writes an entry
pub record IsWriting (s : Terms) (J : History) (c : Call) (e : Entry) : Type 0 where
  pub call : IsCall c
  pub writes : IsWritten s J c e

-- a command writes an entry, whichever clerk gives it and at whatever moment
pub record WritesSome (s : Terms) (J : History) (o : Command) (e : Entry) : Type 0 where
  pub by : ℕ
  pub moment : ℕ
  pub writing : IsWriting s J (record { by = by; moment = moment; command = o }) e

-- a block that fits, as it is made
pub record IsReady (c : Shape) (k : Call) (b : Written) : Type 0 where
  pub block : IsBlockOf c.setting c.history k b
  pub room : HasRoom c b

-- a block is made, or the call that is to write it is refused
abbrev pub IsMade : Shape → Call → Result Written Refusal → Type 0
IsMade c k result = MatchResult result (IsReady c k) (IsRefusal (terms_of c.setting) c.history k)

-- what a block has besides its plan is copied and spelled from that and from the ask that it makes, at the
-- coordinator's history, which has room for it
pub record ArePartsOf (c : Shape) (plan : Planned) (a : Option Ask) (p : Parts) : Type 0 where
  pub members : p.members.items ≡ plan.members
  pub actions : p.actions.items ≡ plan.actions
  pub text : p.text.items ≡ flat_map line plan.entries
  pub errand : p.request ≡ option_map (asking_at c.setting c.history) a
  pub entries : length plan.entries ≤ c.room.entries
  pub moments : length plan.members + length plan.actions ≤ c.room.moments

-- a block is assembled of its answer, its entries and the ask that it makes, at the coordinator's history, which has
-- room for it
pub record IsAssembled (c : Shape) (t : Told) (es : List Entry) (a : Option Ask) (b : Written) : Type 0 where
  pub told : b.told ≡ t
  pub entries : b.entries ≡ es
  pub errand : b.errand ≡ option_map (asking_at c.setting c.history) a
  pub past : b.past ≡ c.history
  pub room : HasRoom c b
