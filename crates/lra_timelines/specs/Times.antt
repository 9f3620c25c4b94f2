-- Texts of moments and durations.
use Rattle.std.specs.Prelude.{ℕ, ◌+◌, ◌-◌, ◌*◌, ◌/◌, ◌%◌, nat_lt, List, [], ◌∷◌, ◌++◌, codes, cond}
use Rattle.std.specs.Fmt.{decimal}
use Rattle.lra_verdict_lines.specs.VerdictLines.{joined}
use Rattle.lra_timelines.specs.declared.times.Date.{Date}

-- the year of a day in a cycle of 400 years that each begin with March; both count from 0
abbrev pub year_of : ℕ → ℕ
year_of day = (day + day / 36524 - (day / 1460 + day / 146096)) / 365

-- the position of a day of such a cycle within its year, counted from 0
abbrev pub day_of_year : ℕ → ℕ
day_of_year day = day + year_of day / 100 - (365 * year_of day + year_of day / 4)

-- the date of a day of a year that begins with March: its months have 31, 30, 31, 30 and 31 days, over and over
abbrev pub date_in : ℕ → ℕ → ℕ → Date
date_in year day march =
    cond (nat_lt march 10)
    (record { year = year; month = march + 3; day = day + 1 - (153 * march + 2) / 5 })
    (record { year = year + 1; month = march - 9; day = day + 1 - (153 * march + 2) / 5 })

-- the date of a day, counted from March of the year 0, in cycles of 400 years
abbrev pub date_from : ℕ → Date
date_from day =
    date_in (year_of (day % 146097) + day / 146097 * 400) (day_of_year (day % 146097))
    ((5 * day_of_year (day % 146097) + 2) / 153)

-- the date of a day by the Gregorian calendar, counted from 0 at the beginning of 1970
abbrev pub date_of : ℕ → Date
date_of days = date_from (days + 719468)

-- a date as `2026-11-26`
abbrev pub date_text : Date → List ℕ
date_text d = joined (decimal d.year ∷ codes "-" ∷ decimal (d.month / 10) ∷ decimal (d.month % 10) ∷ codes "-"
    ∷ decimal (d.day / 10) ∷ decimal (d.day % 10) ∷ [])

-- a minute of a day as `22:15`
abbrev pub minute_text : ℕ → List ℕ
minute_text m = joined (decimal (m / 600) ∷ decimal (m / 60 % 10) ∷ codes ":" ∷ decimal (m / 10 % 6) ∷ decimal (m % 10)
    ∷ [])

-- a millisecond of a minute as seconds with three places: `01.250`
abbrev pub second_text : ℕ → List ℕ
second_text m = joined (decimal (m / 10000) ∷ decimal (m / 1000 % 10) ∷ codes "." ∷ decimal (m / 100 % 10)
    ∷ decimal (m / 10 % 10) ∷ decimal (m % 10) ∷ [])

-- a moment, in milliseconds from 1970 on, by RFC 3339
abbrev pub full_text : ℕ → List ℕ
full_text m = joined (date_text (date_of (m / 86400000)) ∷ codes "T" ∷ minute_text (m % 86400000 / 60000) ∷ codes ":"
    ∷ second_text (m % 60000) ∷ codes "Z" ∷ [])

-- a moment before the year 10000 by RFC 3339, or a later one as its number of milliseconds (this project's choice)
abbrev pub moment_text : ℕ → List ℕ
moment_text m = cond (nat_lt m 253402300800000) (full_text m) (codes "moment " ++ decimal m)

-- a number of milliseconds as seconds with three places
abbrev pub seconds_text : ℕ → List ℕ
seconds_text m = joined (decimal (m / 1000) ∷ codes "." ∷ decimal (m / 100 % 10) ∷ decimal (m / 10 % 10)
    ∷ decimal (m % 10) ∷ [])

-- a number of milliseconds as seconds with three places and the unit
abbrev pub length_text : ℕ → List ℕ
length_text m = joined (seconds_text m ∷ codes " s" ∷ [])
