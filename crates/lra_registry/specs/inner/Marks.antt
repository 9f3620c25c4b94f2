-- Marks of nearly full journals.
use Rattle.std.specs.Prelude.{ℕ, ◌-◌, ◌^◌, Bool, not, ◌&&◌, cond, nat_eq, Option, None, Some}
use Rattle.lra_rotation.specs.declared.marks.Mark.{Mark}
use Rattle.lra_rotation.specs.declared.marks.Mark.TheVariants as mark

-- the mark that is reached where silent members are called after that many milliseconds at least, from now on: none if
-- they are called as ever, and never if it is the greatest number
abbrev pub mark_at : ℕ → Option Mark
mark_at pause = cond (nat_eq pause 0) None (cond (nat_eq pause (2 ^ 64 - 1)) (Some mark.Never) (Some mark.Seldom))

-- the mark that is reached where a journal is closed: that of bytes, if it was open and they alone are near their limit
abbrev pub closing_mark : Bool → Bool → Bool → Option Mark
closing_mark was_closed by_bytes by_entries = cond (by_bytes && not by_entries && not was_closed) (Some mark.Bytes) None
