-- How the active signals are kept: a slot for each signal of the table.
use Rattle.std.specs.Prelude.{ℕ, List, [], ◌∷◌, Option, Some, None}
use Rattle.std.specs.List.{cons_option, position_or_len}
use Rattle.packages.specs.declared.signal.Signal.{Signal}
use Rattle.packages.specs.Looking.{is_same_signal}
use Rattle.events_and_signals.specs.declared.active.ActiveSignal.{ActiveSignal}
use Rattle.events_and_signals.specs.declared.slot.Slot.{Slot}
use Rattle.events_and_signals.specs.declared.slot.Slot.TheVariants.{Idle, Endless, Until}
use Rattle.events_and_signals.specs.Active.{table}

-- the place of a signal in the table
abbrev pub place_of : Signal → ℕ
place_of signal = position_or_len (λ other. is_same_signal other signal) table

-- the active signal that a slot holds
abbrev pub held_in : Signal → Slot → Option ActiveSignal
held_in signal Idle = None
held_in signal Endless = Some (record { signal = signal; end = None })
held_in signal (Until end) = Some (record { signal = signal; end = Some end })

abbrev pub slot_until : Option ℕ → Slot
slot_until None = Endless
slot_until (Some end) = Until end

-- the slot of a signal that is active or not
abbrev pub slot_of : Option ActiveSignal → Slot
slot_of None = Idle
slot_of (Some a) = slot_until a.end

-- the active signals that slots hold, each for its signal
abbrev pub held_by : List Signal → List Slot → List ActiveSignal
held_by [] slots = []
held_by (signal ∷ signals) [] = []
held_by (signal ∷ signals) (slot ∷ slots) = cons_option (held_in signal slot) (held_by signals slots)
