-- What the index of the tables keeps of their history.
use Rattle.std.specs.Prelude.{◌≡◌, ℕ, ◌==◌, ◌<◌, ◌&&◌, not, Bool, List, filter}
use Rattle.lra_model.specs.declared.entry.Deed.{Deed}
use Rattle.lra_model.specs.declared.entry.Deed.TheVariants.{Join}
use Rattle.lra_model.specs.declared.entry.Entry.{Entry}
use Rattle.lra_model.specs.History.{History, members}
use Rattle.lra_model.specs.Members.{action_of, addresses_of, has_left}
use Rattle.lra_laws.specs.Snapshots.{StateSnapshot, StandsFor, Follows, snapshot_after}
use Rattle.lra_tables.specs.inner.Digests.{digest_of}
use Rattle.lra_tables.specs.inner.Listed.{Indexed, IsListed}

-- whether a member hasn't left, and its action and addresses have a digest under a key
abbrev pub has_digest : ℕ → ℕ → History → ℕ → Bool
has_digest key digest J p = not (has_left J p) && (digest_of key (action_of J p) (addresses_of J p) == digest)

-- the members that haven't left whose action and addresses have a digest under a key, in the order in which they joined
abbrev pub staying_with : ℕ → ℕ → History → List ℕ
staying_with key digest J = filter (has_digest key digest J) (members J)

-- an index has these members under each digest, of every history that the snapshot stands for
abbrev pub IsKept : Indexed → StateSnapshot → Type 0
IsKept i s = (J : History) → StandsFor s J → (digest : ℕ) → IsListed i digest (staying_with i.key digest J)

-- the index was kept before the last entry, which the snapshot has already
pub record IsKeptBefore (i : Indexed) (e : Entry) (s : StateSnapshot) : Type 0 where
  pub before : StateSnapshot
  pub follows : Follows before e
  pub kept : IsKept i before
  pub after : s ≡ snapshot_after e before

-- there is room for one more where a deed lets a member join
abbrev pub TakesOne : Deed → Indexed → Type 0
TakesOne (Join p a uris) i = 0 < i.room
TakesOne _ i = Unit {0}
