-- Journal sets that grow and shrink, step by step.
use Rattle.std.proofs.Common.{List}
use Rattle.lra_commands.specs.Counters.{Sight}
use Rattle.lra_journal_router.specs.JournalRouters.{KeepsBase, Moved}
use Rattle.lra_journal_router.proofs.MembershipLemmas as set_members

pub moved_none : (ss : List Sight) → Moved ss ss
moved_none ss = set_members.moved_none ss

pub moved_on : (ss us ts : List Sight) → Moved ss us → Moved us ts → Moved ss ts
moved_on ss us ts h k = set_members.moved_on ss us ts h k

pub keeps_none : (ss : List Sight) → KeepsBase ss ss
keeps_none ss = set_members.keeps_none ss

pub keeps_on : (ss us ts : List Sight) → KeepsBase ss us → KeepsBase us ts → KeepsBase ss ts
keeps_on ss us ts h k = set_members.keeps_on ss us ts h k

-- for `auto`: a journal set stays or grows, and keeps its base, step by step
pub ruleset steps = (moved_none, moved_on, keeps_none, keeps_on)
