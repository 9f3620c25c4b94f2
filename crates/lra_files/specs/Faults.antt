-- Reasons why the system gives no file.
use Rattle.std.specs.Prelude.{ℕ, ℤ, Bool, true, false, cond, nat_eq, unsigned_abs, Option, None, Some}
use Rattle.std.specs.declared.io.ErrorKind.{ErrorKind}
use Rattle.std.specs.declared.io.ErrorKind.TheVariants.{OutOfMemory}
use Rattle.lra_files.specs.declared.faults.FileFault.{FileFault}
use Rattle.lra_files.specs.declared.faults.FileFault.TheVariants as fault

-- an error of that kind says that memory is refused
abbrev pub is_of_memory : ErrorKind → Bool
is_of_memory OutOfMemory = true
is_of_memory _ = false

-- the number that the system has for an error, or 0 if the error isn't the system's
abbrev pub number_of : Option ℤ → ℕ
number_of None = 0
number_of (Some code) = unsigned_abs code

-- the reason: memory is refused, by the error's kind; or too many files are open, on the whole machine or in this
-- process, by Linux's numbers; or another
abbrev pub fault_of : ErrorKind → ℕ → FileFault
fault_of kind number = cond (is_of_memory kind) fault.Memory
    (cond (nat_eq number 23) fault.TooManyOpen (cond (nat_eq number 24) fault.TooManyOpen fault.Other))
