-- The entries that a command appends.
use Rattle.std.specs.Prelude.{List, []}
use Rattle.std.specs.Option.{option_map_or}
use Rattle.lra_model.specs.declared.entry.Entry.{Entry}
use Rattle.lra_model.specs.History.{History}
use Rattle.lra_model.specs.Settling.{with_settling}
use Rattle.lra_commands.specs.declared.limits.Terms.{Terms}
use Rattle.lra_commands.specs.Calls.{Call}
use Rattle.lra_commands.specs.Deeds.{own_entry}

-- what a call appends where it isn't refused: its own entry, and those that settle the history; nothing for a repeat,
-- where nothing is due, and where it only reads (this project's choice of order)
unfoldable pub block : Terms → History → Call → List Entry
block s J c = option_map_or (with_settling J) (own_entry s J c) []
