-- Moments in UTC with milliseconds, in the format of RFC 3339.
use Rattle.std.specs.Prelude.{◌≡◌, ℕ, ◌-◌, ◌/◌, ◌%◌, ◌<◌, ◌≤◌, List, ◌++◌, length, replicate, codes, pos, unsigned_abs}
use Rattle.std.specs.Fmt.{decimal}
use Rattle.jiff_core.specs.declared.civil.date.Date.{Date}
use Rattle.jiff_core.specs.Date.{epoch_day}

-- a number in decimal, with zeros before it up to so many digits
abbrev pub wide : ℕ → ℕ → List ℕ
wide k n = replicate (k - length (decimal n)) 48 ++ decimal n

-- the full-date of RFC 3339, section 5.6
abbrev pub date_text : Date → List ℕ
date_text d = wide 4 (unsigned_abs d.year) ++ (codes "-" ++ (wide 2 d.month ++ (codes "-" ++ wide 2 d.day)))

-- the partial-time of RFC 3339, section 5.6, of a moment in milliseconds
abbrev pub clock_text : ℕ → List ℕ
clock_text moment =
    wide 2 (moment / 3_600_000 % 24)
    ++ (codes ":" ++ (wide 2 (moment / 60_000 % 60) ++ (codes ":" ++
    (wide 2 (moment / 1000 % 60) ++ (codes "." ++ wide 3 (moment % 1000))))))

-- the day since 1970 of a moment
abbrev pub day_of : ℕ → ℕ
day_of moment = moment / 86_400_000

-- the text of a moment, in milliseconds since 1970: the day's date and the time of the day. RFC 3339 has no form for a
-- year after 9999: there it is the number itself
pub record IsTime (moment : ℕ) (text : List ℕ) : Type 0 where
  pub spelled : day_of moment ≤ 2_932_896 → (d : Date) × (epoch_day d ≡ pos (day_of moment))
      × (text ≡ date_text d ++ (codes "T" ++ (clock_text moment ++ codes "Z")))
  pub past : 2_932_896 < day_of moment → text ≡ decimal moment
