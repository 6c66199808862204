-- Which command a line is sent now.
use Rattle.std.specs.Prelude.{ℕ, Bool, true, false, List, Option, Some, None, slice_get, slice_set}
use Rattle.call_processing.specs.declared.command.Command.{Command}
use Rattle.call_processing.specs.Parameters.{verb_of, parameters_of}
use Rattle.call_processing.specs.Exchange.{ExchangeState, due, sent_to}
use Rattle.line_control.specs.declared.care.Duty.{Duty}
use Rattle.line_control.specs.declared.care.Care.{Care}
use Rattle.line_control.specs.declared.office.Order.{Order}
use Rattle.line_control.specs.Duties.{duty_begun, is_put_off, fixed_order}

-- a verb, and what stands behind the command line
abbrev pub Shown : Type 0
Shown = List ℕ × List ℕ

abbrev pub shown : Order → Shown
shown order = (order.verb.now, order.rest)

abbrev pub duty_of : Option Care → Option Duty
duty_of None = None
duty_of (Some care) = duty_begun care

-- what the command in flight to a line is for
abbrev pub flight_of : Option Care → Option Duty
flight_of None = None
flight_of (Some care) = care.flight

abbrev pub was_found_off : Option Care → Bool
was_found_off None = false
was_found_off (Some care) = care.is_found_off

-- the gateway has started again since the command in flight was issued
abbrev pub is_outlived : Option Care → Bool
is_outlived None = false
is_outlived (Some care) = care.is_outlived

-- the line has told something since it was audited, so that an answer to that is older; a line that there isn't has nothing to be told
abbrev pub has_told : Option Care → Bool
has_told None = true
has_told (Some care) = care.has_told

-- when what was put off of the line is sent again
abbrev pub again_of : Option Care → Option ℕ
again_of None = None
again_of (Some care) = care.again

-- a duty beside the exchange that was refused by this code is put off
abbrev pub is_put_off_in : ℕ → Option Care → Bool
is_put_off_in code None = false
is_put_off_in code (Some care) = is_put_off code care

abbrev pub cared_to : (Care → Care) → List Care → ℕ → Option Care → List Care
cared_to change cares line None = cares
cared_to change cares line (Some care) = slice_set cares line (change care)

-- what is kept of the lines, of which one is changed, if there is that one
abbrev pub cared : (Care → Care) → List Care → ℕ → List Care
cared change cares line = cared_to change cares line (slice_get cares line)

abbrev pub routed_by : ExchangeState → ℕ → List ℕ → Option Command → Option Shown
routed_by exchange line map None = None
routed_by exchange line map (Some command) = Some (verb_of command, parameters_of (sent_to exchange line) line map)

-- the exchange's command, with its parameters once it was sent
abbrev pub routed : ExchangeState → ℕ → List ℕ → Option Shown
routed exchange line map = routed_by exchange line map (due exchange line)

abbrev pub fixed_or : Option Shown → Option Shown → Option Shown
fixed_or (Some fixed) other = Some fixed
fixed_or None other = other

abbrev pub ordered_by : Option Duty → ExchangeState → ℕ → List ℕ → Option Shown
ordered_by None exchange line map = None
ordered_by (Some duty) exchange line map = fixed_or (fixed_order duty) (routed exchange line map)

-- the command that a line is sent now, of which this is kept: what is next, where none is in flight
abbrev pub ordered : Option Care → ExchangeState → ℕ → List ℕ → Option Shown
ordered care exchange line map = ordered_by (duty_of care) exchange line map
