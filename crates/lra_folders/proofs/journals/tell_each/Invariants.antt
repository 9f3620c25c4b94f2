use Rattle.std.proofs.Common.{◌≡◌, ◌<◌, ℕ, ◌+◌, List, Some, length, string_bytes}
use Rattle.lra_words.specs.Asked.{texts}
use Rattle.lra_folders.specs.Folders.{Progress, TellsEach}
use Rattle.lra_folders.proofs.journals.tell_each.Given as goal

-- what reports on the names that are left reports on all
abbrev pub invariant-loop-rest : goal.invariant-loop-rest
invariant-loop-rest g l =
    ((bytes : List ℕ → List ℕ) → ((path : List ℕ) → g.S.Sources.named l.sources path ≡ Some (bytes path))
    → (last : Progress)
    → TellsEach l.deed bytes l.folder (texts l.rest)
    (record { written = g.W.Write.contents l.writer; told = string_bytes l.told; tally = l.tally }) last
    → TellsEach l.deed bytes l.folder (texts l.names)
    (record {
      written = g.W.Write.contents l.fn.writer;
      told = string_bytes l.fn.told;
      tally =
          record { sound = 0; unsound = 0; unread = 0 };
    }) last)
    × (0 < l.width)
    × (l.tally.sound + l.tally.unsound + l.tally.unread + length l.rest ≡ length l.names)

abbrev pub decreases-loop-rest : goal.decreases-loop-rest
decreases-loop-rest g l = length l.rest
