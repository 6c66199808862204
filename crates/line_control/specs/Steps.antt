-- What a step does to the exchange, and to what is kept of its lines beside that.
use Rattle.std.specs.Prelude.{◌≡◌, ◌⊎◌, ℕ, Bool, true, false, is_none, List, Option, Some, None, slice_get}
use Rattle.call_processing.specs.declared.told.Told.{Told}
use Rattle.call_processing.specs.Exchange.{ExchangeState, due, sent_to}
use Rattle.line_control.specs.declared.care.Duty.{Duty}
use Rattle.line_control.specs.declared.care.Duty.TheVariants.{Audit}
use Rattle.line_control.specs.declared.care.Care.{Care}
use Rattle.line_control.specs.Duties.{begun, fixed_order, landed, lost, owed, told_care, told_of}
use Rattle.line_control.specs.Hooks.{notified}
use Rattle.line_control.specs.Orders.{Shown, cared, duty_of, flight_of, was_found_off}
use Rattle.line_control.specs.Showing.{shown_in}
use Rattle.line_control.specs.Turns.{forsaken, heard_by}

-- the command in flight to it was given up, or couldn't be issued
abbrev pub Forgets : ℕ → ExchangeState → List Care → ExchangeState → List Care → Type 0
Forgets line was cares is kept = (is ≡ forsaken was line (flight_of (slice_get cares line))) × (kept ≡ cared lost cares line)

-- A notification of it told this, by digits or not. Where memory is refused for the digits its hook is asked for.
abbrev pub Hears : Option Told → Bool → ℕ → ExchangeState → List Care → ExchangeState → List Care → Type 0
Hears event by_digits line was cares is kept =
    ((is ≡ heard_by was line (notified (was_found_off (slice_get cares line)) event)) × (kept ≡ cared told_care cares line))
    ⊎ ((by_digits ≡ true) × (is ≡ was) × (kept ≡ cared (λ care. owed care Audit) (cared told_care cares line) line))

-- so it told something
abbrev pub HearsSome : ℕ → ExchangeState → List Care → ExchangeState → List Care → Type 0
HearsSome line was cares is kept = (event : Option Told) × (by_digits : Bool) × Hears event by_digits line was cares is kept

-- how it stands was told
abbrev pub ToldOf : ℕ → ExchangeState → List Care → ExchangeState → List Care → Type 0
ToldOf line was cares is kept = (is ≡ was) × (kept ≡ cared (told_of (shown_in was line)) cares line)

-- What is next at it begins, if anything does: it is in flight. Where the exchange says what is next, that is sent, if there is anything;
-- else nothing is in flight.
abbrev pub landed_if : Bool → List Care → ℕ → List Care
landed_if true cares line = cared landed cares line
landed_if false cares line = cares

abbrev pub BeginsAs : Option Shown → ℕ → ExchangeState → List Care → ExchangeState → List Care → Type 0
BeginsAs (Some fixed) line was cares is kept = (is ≡ was) × (kept ≡ cared begun cares line)
BeginsAs None line was cares is kept =
    (is ≡ sent_to was line) × (kept ≡ landed_if (is_none (due was line)) (cared begun cares line) line)

abbrev pub BeginsBy : Option Duty → ℕ → ExchangeState → List Care → ExchangeState → List Care → Type 0
BeginsBy None line was cares is kept = (is ≡ was) × (kept ≡ cared begun cares line)
BeginsBy (Some duty) line was cares is kept = BeginsAs (fixed_order duty) line was cares is kept

abbrev pub Begins : ℕ → ExchangeState → List Care → ExchangeState → List Care → Type 0
Begins line was cares is kept = BeginsBy (duty_of (slice_get cares line)) line was cares is kept
