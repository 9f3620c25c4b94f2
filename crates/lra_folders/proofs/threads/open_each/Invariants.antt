use Rattle.std.proofs.Common.{◌≡◌, ◌<◌, ℕ, String, Global, get_or, string_bytes, vec_len}
use Rattle.lra_folders.specs.Folders.{IsOpened}
use Rattle.lra_folders.proofs.threads.open_each.Given as goal

abbrev pub invariant-loop-name : goal.invariant-loop-name
invariant-loop-name g l =
    (vec_len l.jobs ≡ l.name-index)
    × ((i : ℕ) (w : String Global) (d : _) → i < l.name-index
    → IsOpened (g.S.Sources.named l.sources) g.F.Read.remaining l.folder (string_bytes (get_or l.names i w))
    (get_or l.jobs.items i d))
