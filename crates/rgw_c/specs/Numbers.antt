-- What the numbers say that C is told.
use Rattle.std.specs.Prelude.{ℕ, Bool, ◌==◌, ◌||◌, if◌then◌else◌, Option, Some, None, is_some}
use Rattle.machine_rules.specs.declared.refusal.Refusal.{Refusal}
use Rattle.machine_rules.specs.declared.refusal.Refusal.TheVariants.{OutOfMemory, TickTooFar, ClockBack, NoSuchLine, PhoneState}
use Rattle.rgw_c.specs.declared.numbers.TheConstants.{OK, OUT_OF_MEMORY, SMALL_BUFFER, HAS_FLAW}

-- the refusal that a number says
abbrev pub refusal_in : ℕ → Option Refusal
refusal_in number =
    if number == 1 then Some OutOfMemory else
    (if number == 2 then Some TickTooFar else
    (if number == 3 then Some ClockBack else
    (if number == 4 then Some NoSuchLine else
    (if number == 5 then Some PhoneState else None))))

-- the fault of a configuration that a number says: ten less, as the gateway counts its faults
abbrev pub config_fault_in : ℕ → Option ℕ
config_fault_in number =
    if number == 12 then Some 2 else
    (if number == 13 then Some 3 else
    (if number == 14 then Some 4 else
    (if number == 15 then Some 5 else
    (if number == 16 then Some 6 else
    (if number == 17 then Some 7 else None)))))

-- what is answered where the text of a configuration is read: that it went well, that memory was refused, or a fault of the configuration
abbrev pub is_read_number : ℕ → Bool
is_read_number number = number == OK || number == OUT_OF_MEMORY || is_some (config_fault_in number)

-- what is answered where a configuration is checked, and where it has a flaw
abbrev pub is_told_number : ℕ → Bool
is_told_number number = number == OUT_OF_MEMORY || number == SMALL_BUFFER || number == HAS_FLAW

abbrev pub is_checked_number : ℕ → Bool
is_checked_number number = number == OK || is_told_number number
