-- The numbers of a coordinator's actions and members are such as identifiers have.
use Rattle.std.proofs.Common.{◌≡◌, ℕ, ◌<◌, ◌≤◌, ◌^◌, true, arith}
use Rattle.lra_model.specs.History.{History, actions, members, is_among}
use Rattle.lra_laws.specs.Snapshots.{StandsFor}
use Rattle.lra_laws.proofs.Legal.{numbered_among, actions_numbered, members_numbered}
use Rattle.lra_ids.specs.Addresses.{is_address}
use Rattle.lra_tables.specs.Plans.{Tabled}
use Rattle.lra_commands.specs.declared.limits.Terms.{Terms}
use Rattle.lra_commands.specs.Terms.{AreKeepable}
use Rattle.lra_commands.specs.Runs.{IsLawful}
use Rattle.lra_timers.specs.Planned.{Planned}
use Rattle.lra_core.specs.inner.Kept.{IsKept}

-- a number that an identifier has
abbrev pub IsIdentifier : ℕ → Type 0
IsIdentifier n = (1 ≤ n) × (n < 2 ^ 62)

pub action_number : (s : Terms) (J : History) (a : ℕ) → AreKeepable s.limits → IsLawful s J → is_among (actions J) a
    ≡ true → IsIdentifier a
action_number s J a k l h =
    let n = numbered_among (actions J) (actions_numbered s.version is_address J l.legal) a h in
    let few = l.within.actions in
    let low = k.actions in
    (n.0, omega arith)

pub member_number : (s : Terms) (J : History) (p : ℕ) → AreKeepable s.limits → IsLawful s J → is_among (members J) p
    ≡ true → IsIdentifier p
member_number s J p k l h =
    let n = numbered_among (members J) (members_numbered s.version is_address J l.legal) p h in
    let few = l.within.members in
    let low = k.members in
    (n.0, omega arith)

-- the tables of a coordinator stand for its history
pub stands : (s : Terms) (t : Tabled) (p : Planned) (J : History) → IsKept s t p J → StandsFor t.snapshot J
stands s t p J k = record { version = s.version; is_address = is_address; legal = k.lawful.legal; snapshot = k.tables }
