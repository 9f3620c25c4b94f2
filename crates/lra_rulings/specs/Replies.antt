-- Whether a reply may come, as the caller tells.
use Rattle.std.specs.Prelude.{◌≡◌, Bool}
use Rattle.lra_model.specs.declared.entry.Deed.{Deed}
use Rattle.lra_model.specs.declared.entry.Deed.TheVariants.{Reply}
use Rattle.lra_model.specs.Facts.{Facts}
use Rattle.lra_model.specs.Tests.{may_reply}

-- what is told of a reply is whether it may come; of other deeds nothing is told
abbrev pub TellsReply : Facts → Deed → Bool → Type 0
TellsReply f (Reply n outcome) may = may ≡ may_reply f n outcome
TellsReply f _ may = Unit {0}
