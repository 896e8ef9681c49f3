-- The almanac: an entry for each day, and the text of them all.
use Rattle.std.specs.Prelude.{ℕ, zero, suc, Bool, true, cond, not, List, [], ◌++◌, Some, None, codes, decimal, Option, ◌==◌, nat_le}
use Rattle.days.specs.Dates.{last_day, date_at, date_text}
use Rattle.days.specs.Weekdays.{weekday_at, weekday_text}
use Rattle.almanac.specs.declared.entry.Entry.{Entry}

-- The entry of a day: its date, its weekday, and the day of that date, which is the day itself.
abbrev pub entry_at : ℕ → Entry
entry_at d = record { day = d; date = date_at d; weekday = weekday_at d; again = Some d }

-- No day past the last has an entry.
abbrev pub entry_of : ℕ → Option Entry
entry_of d = cond (nat_le d last_day) (Some (entry_at d)) None

-- Whether a day's date has another day, or none.
abbrev pub differs : ℕ → Option ℕ → Bool
differs d None = true
differs d (Some n) = not (n == d)

-- The day that came back, marked where it differs.
abbrev pub again_text : ℕ → Option ℕ → List ℕ
again_text d None = codes "none differs"
again_text d (Some n) = cond (n == d) (decimal n) (decimal n ++ codes " differs")

-- The line of an entry: day, date, weekday and the day that came back.
abbrev pub line_text : Entry → List ℕ
line_text e =
    decimal e.day ++ (codes " " ++ (date_text e.date ++ (codes " " ++ (weekday_text e.weekday ++ (codes " "
    ++ (again_text e.day e.again ++ codes "\n"))))))

-- The lines of the days before n.
unfoldable pub lines_before : ℕ → List ℕ
lines_before zero = []
lines_before (suc d) = lines_before d ++ line_text (entry_at d)

-- The last line: how many days there are, and how many of them did not come back.
abbrev pub counts_text : ℕ → ℕ → List ℕ
counts_text days different = decimal days ++ (codes " days, " ++ (decimal different ++ codes " differ\n"))

-- Every day from 0 to 18,262, and none that differs.
abbrev pub almanac_text : List ℕ
almanac_text = lines_before 18263 ++ counts_text 18263 0
