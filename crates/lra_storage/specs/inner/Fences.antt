-- Faults of a fence's file.
use Rattle.lra_files.specs.declared.faults.FileFault.{FileFault}
use Rattle.lra_files.specs.declared.faults.FileFault.TheVariants as found
use Rattle.lra_files.specs.declared.small.SmallFault.{SmallFault}
use Rattle.lra_files.specs.declared.small.SmallFault.TheVariants as small

-- the fault of a small file that can't be opened: memory is refused, or it can't be read
abbrev pub unread : FileFault → SmallFault
unread found.TooManyOpen = small.File
unread found.Memory = small.Memory
unread found.Other = small.File
