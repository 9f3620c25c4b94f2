use Rattle.std.proofs.Common.{◌≡◌, ℕ, ◌+◌, List, length, take, string_bytes}
use Rattle.lra_words.specs.Asked.{texts}
use Rattle.lra_folders.specs.declared.deed.Deed.{Deed}
use Rattle.lra_folders.specs.Folders.{TellsEach}
use Rattle.lra_folders.specs.inner.Told.{AllTold}
use Rattle.lra_folders.proofs.journals.write_each.Given as goal

abbrev pub invariant-loop-place : goal.invariant-loop-place
invariant-loop-place g l =
    ((deed : Deed) (bytes : List ℕ → List ℕ) → AllTold deed bytes l.folder l.names (length l.names) l.journals
    → TellsEach deed bytes l.folder (texts (take l.place l.names))
    (record { written = g.W.Write.contents l.fn.writer; told = string_bytes l.fn.told; tally = l.fn.tally })
    (record { written = g.W.Write.contents l.writer; told = string_bytes l.told; tally = l.tally }))
    × (l.tally.sound + l.tally.unsound + l.tally.unread ≡ l.fn.tally.sound + l.fn.tally.unsound + l.fn.tally.unread
    + l.place)
