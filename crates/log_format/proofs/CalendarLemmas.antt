-- The calendar's steps.
use Rattle.std.proofs.Common.{◌≡◌, ℕ, zero, suc, ◌+◌, ◌-◌, ◌<◌, ◌≤◌, List, [], ◌∷◌, length, drop, refl, sym, ap, ◌∙◌, arith}
use Rattle.std.specs.Prelude.{Bool, true, false, nat_lt, slice_index_or}
use Rattle.std.proofs.lemmas.Bool.Decides.{nat_tests}
use Rattle.std.proofs.lemmas.List.{at_drop_more, at_drop_all}
use Rattle.log_format.specs.Calendar.{year_length, year_in, month_in}

below : (n m : ℕ) → n < m → nat_lt n m ≡ true
below n m h = grind (arith, nat_tests)

not_below : (n m : ℕ) → m ≤ n → nat_lt n m ≡ false
not_below n m h = grind (arith, nat_tests)

-- the day falls in this year
pub year_here : (most year day : ℕ) → day < year_length year → year_in most year day ≡ (year, day)
unfolding year_in
year_here zero year day h = refl
year_here (suc most) year day h = rw (below day (year_length year) h) refl

-- or behind it
pub year_on : (most year day : ℕ) → year_length year ≤ day
    → year_in (suc most) year day ≡ year_in most (year + 1) (day - year_length year)
unfolding year_in
year_on most year day h = rw (not_below day (year_length year) h) refl

-- no more years are gone through
pub year_end : (most year day : ℕ) → most ≡ 0 → year_in most year day ≡ (year, day)
unfolding year_in
year_end zero year day h = refl
year_end (suc most) year day h = absurd (omega arith)

-- the same of a month
month_here : (length : ℕ) (lengths : List ℕ) (month day : ℕ) → day < length → month_in (length ∷ lengths) month day ≡ (month, day)
unfolding month_in
month_here length lengths month day h = rw (below day length h) refl

month_on : (length : ℕ) (lengths : List ℕ) (month day : ℕ) → length ≤ day
    → month_in (length ∷ lengths) month day ≡ month_in lengths (month + 1) (day - length)
unfolding month_in
month_on length lengths month day h = rw (not_below day length h) refl

-- behind so many months, where the lengths are read from a list that is the same
pub falls_here : (read lengths : List ℕ) (place month day : ℕ) → read ≡ lengths → place < length lengths
    → day < slice_index_or read place 0 → month_in (drop place lengths) month day ≡ (month, day)
falls_here read lengths place month day same within less =
    at_drop_more (λ (left : List ℕ). month_in left month day) lengths place 0 within
    ∙ month_here (slice_index_or lengths place 0) (drop (place + 1) lengths) month day (rw same at less)

pub falls_on : (read lengths : List ℕ) (place month day : ℕ) → read ≡ lengths → place < length lengths
    → slice_index_or read place 0 ≤ day
    → month_in (drop (place + 1) lengths) (month + 1) (day - slice_index_or read place 0) ≡ month_in (drop place lengths) month day
falls_on read lengths place month day same within more =
    ap (λ (from : List ℕ). month_in (drop (place + 1) lengths) (month + 1) (day - slice_index_or from place 0)) same
    ∙ sym (at_drop_more (λ (left : List ℕ). month_in left month day) lengths place 0 within
    ∙ month_on (slice_index_or lengths place 0) (drop (place + 1) lengths) month day (rw same at more))

pub falls_last : (lengths : List ℕ) (place month day : ℕ) → length lengths ≤ place → month_in (drop place lengths) month day ≡ (month, day)
unfolding month_in
falls_last lengths place month day behind = at_drop_all (λ (left : List ℕ). month_in left month day) lengths place behind
