-- The date of a day, which is counted from 1 January 1970 on, by the Gregorian calendar.
use Rattle.std.specs.Prelude.{ℕ, zero, suc, ◌+◌, ◌-◌, ◌%◌, ◌==◌, ◌&&◌, ◌||◌, Bool, not, nat_lt, if◌then◌else◌, List, [], ◌∷◌}

-- each fourth year is a leap year, but of those that end a century only each fourth
abbrev pub is_leap : ℕ → Bool
is_leap year = (year % 4 == 0) && (not (year % 100 == 0) || (year % 400 == 0))

abbrev pub year_length : ℕ → ℕ
year_length year = if is_leap year then 366 else 365

-- the lengths of a year's months
abbrev pub month_lengths : Bool → List ℕ
month_lengths leap = 31 ∷ (if leap then 29 else 28) ∷ 31 ∷ 30 ∷ 31 ∷ 30 ∷ 31 ∷ 31 ∷ 30 ∷ 31 ∷ 30 ∷ 31 ∷ []

-- the year in which a day falls that is counted from the beginning of this one on, and how many days of that year stand before it;
-- so many years are gone through at most
unfoldable pub year_in : ℕ → ℕ → ℕ → ℕ × ℕ
year_in zero year day = (year, day)
year_in (suc most) year day =
    if nat_lt day (year_length year) then (year, day) else year_in most (year + 1) (day - year_length year)

-- the same of a month, where this one and those behind it have these lengths
unfoldable pub month_in : List ℕ → ℕ → ℕ → ℕ × ℕ
month_in [] month day = (month, day)
month_in (length ∷ lengths) month day =
    if nat_lt day length then (month, day) else month_in lengths (month + 1) (day - length)
