-- The date and the time of day of a moment in microseconds since 1970 began, in UTC (RFC 3339, 5.6): a day has 86,400 seconds (POSIX,
-- seconds since the epoch).
use Rattle.std.specs.Prelude.{ℕ, ◌+◌, ◌/◌, ◌%◌, codes, List, [], ◌∷◌, ◌++◌}
use Rattle.log_format.specs.Calendar.{is_leap, month_lengths, year_in, month_in}

-- the last two decimal digits of a number, and the last three
unfoldable pub two_digits : ℕ → List ℕ
two_digits n = (48 + n / 10 % 10) ∷ (48 + n % 10) ∷ []

unfoldable pub three_digits : ℕ → List ℕ
three_digits n = (48 + n / 100 % 10) ∷ (48 + n / 10 % 10) ∷ (48 + n % 10) ∷ []

-- a month, and behind it the day of that month, of which so many stand before it
abbrev pub month_text : ℕ × ℕ → List ℕ
month_text found = two_digits found.0 ++ codes "-" ++ two_digits (found.1 + 1)

-- a year, whose last four digits stand for it, and a day of it, of which so many stand before it
abbrev pub date_text : ℕ × ℕ → List ℕ
date_text found =
    two_digits (found.0 / 100) ++ two_digits found.0 ++ codes "-" ++ month_text (month_in (month_lengths (is_leap found.0)) 1 found.1)

-- year, month and day, as `2026-11-27`, up to the year 9999
unfoldable pub date_of : ℕ → List ℕ
date_of day = date_text (year_in 8030 1970 day)

-- hours, minutes, seconds and milliseconds, as `12:03:07.123`
unfoldable pub time_of_day : ℕ → List ℕ
time_of_day moment =
    two_digits (moment / 3600000000 % 24) ++ codes ":" ++ two_digits (moment / 60000000 % 60) ++ codes ":"
    ++ two_digits (moment / 1000000 % 60) ++ codes "." ++ three_digits (moment / 1000 % 1000)

-- both, as `2026-11-27T12:03:07.123Z`
unfoldable pub date_and_time : ℕ → List ℕ
date_and_time moment = date_of (moment / 86400000000) ++ codes "T" ++ time_of_day moment ++ codes "Z"
