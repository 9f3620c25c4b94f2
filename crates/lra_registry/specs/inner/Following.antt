-- Versions that connection workers follow.
use Rattle.std.specs.Prelude.{ℕ, ◌-◌, ◌^◌, cond, nat_eq}
use Rattle.lra_registry.specs.declared.journal_registry.Following.{Following}
use Rattle.lra_registry.specs.declared.journal_registry.Following.TheVariants as following

-- what a connection worker follows, by what is recorded of it: the greatest number says that it has ended, and the one
-- before that it follows nothing yet
abbrev pub following_at : ℕ → Following
following_at version = cond (nat_eq version (2 ^ 64 - 2)) following.Nothing
    (cond (nat_eq version (2 ^ 64 - 1)) following.Ended (following.Version version))
