-- The slots that a list of active signals is kept in: one list for all slots that hold the same.
use Rattle.std.specs.Prelude.{◌≡◌, ◌&&◌, ◌||◌, not, Bool, true, false, if◌then◌else◌, List, [], ◌∷◌, length, refl}
use Rattle.std.specs.List.{list_any}
use Rattle.std.proofs.Common.{ap, ◌∙◌, arith}
use Rattle.packages.specs.declared.signal.Signal.{Signal}
use Rattle.packages.specs.Looking.{is_same_signal}
use Rattle.events_and_signals.specs.declared.active.ActiveSignal.{ActiveSignal}
use Rattle.events_and_signals.specs.declared.slot.Slot.{Slot}
use Rattle.events_and_signals.specs.declared.slot.Slot.TheVariants.{Idle, Endless, Until}
use Rattle.events_and_signals.specs.declared.set.SignalSet.TheInside.{Inside}
use Rattle.events_and_signals.specs.Active.{table}
use Rattle.events_and_signals.specs.Slots.{slot_until, held_by}

-- slots of signals, which hold active signals that stand in the same order
abbrev pub slots_of : List Signal → List ActiveSignal → List Slot
slots_of [] active = []
slots_of (signal ∷ signals) [] = Idle ∷ slots_of signals []
slots_of (signal ∷ signals) (a ∷ active) =
    if is_same_signal a.signal signal then slot_until a.end ∷ slots_of signals active else Idle ∷ slots_of signals (a ∷ active)

abbrev pub fields_of : List ActiveSignal → Inside
fields_of active = record { slots = slots_of table active }

abbrev pub is_apart : Signal → List Signal → Bool
is_apart signal others = not (list_any (λ other. is_same_signal other signal) others)

abbrev pub are_distinct : List Signal → Bool
are_distinct [] = true
are_distinct (signal ∷ others) = is_same_signal signal signal && is_apart signal others && are_distinct others

both : (a b : Bool) → (a && b) ≡ true → (a ≡ true) × (b ≡ true)
both true b e = (refl, e)
both false b e = absurd cc

neither : (a b : Bool) → not (a || b) ≡ true → (a ≡ false) × (not b ≡ true)
neither true b e = absurd cc
neither false b e = (refl, e)

-- a signal that is not among those behind it is idle
idle_first : (signal : Signal) (signals others : List Signal) (slots : List Slot) → is_apart signal others ≡ true
    → slots_of (signal ∷ signals) (held_by others slots) ≡ Idle ∷ slots_of signals (held_by others slots)
idle_first signal signals [] slots apart = refl
idle_first signal signals (o ∷ others) [] apart = refl
idle_first signal signals (o ∷ others) (Idle ∷ slots) apart =
    let parts : (is_same_signal o signal ≡ false) × (is_apart signal others ≡ true) = neither _ _ apart in
    idle_first signal signals others slots parts.1
idle_first signal signals (o ∷ others) (Endless ∷ slots) apart =
    let parts : (is_same_signal o signal ≡ false) × (is_apart signal others ≡ true) = neither _ _ apart in rw parts.0 refl
idle_first signal signals (o ∷ others) (Until end ∷ slots) apart =
    let parts : (is_same_signal o signal ≡ false) × (is_apart signal others ≡ true) = neither _ _ apart in rw parts.0 refl

slots_again : (signals : List Signal) (slots : List Slot) → are_distinct signals ≡ true → length slots ≡ length signals
    → slots_of signals (held_by signals slots) ≡ slots
slots_again [] [] distinct size = refl
slots_again [] (x ∷ slots) distinct size = absurd (omega arith)
slots_again (signal ∷ signals) [] distinct size = absurd (omega arith)
slots_again (signal ∷ signals) (slot ∷ slots) distinct size =
    let parts : ((is_same_signal signal signal && is_apart signal signals) ≡ true) × (are_distinct signals ≡ true) = both _ _ distinct in
    let firsts : (is_same_signal signal signal ≡ true) × (is_apart signal signals ≡ true) = both _ _ parts.0 in
    let less : length slots ≡ length signals = omega arith in
    by_slot slot firsts.0 (idle_first signal signals signals slots firsts.1) (slots_again signals slots parts.1 less)
  where
    by_slot : (slot : Slot) → is_same_signal signal signal ≡ true
        → slots_of (signal ∷ signals) (held_by signals slots) ≡ Idle ∷ slots_of signals (held_by signals slots)
        → slots_of signals (held_by signals slots) ≡ slots
        → slots_of (signal ∷ signals) (held_by (signal ∷ signals) (slot ∷ slots)) ≡ slot ∷ slots
    by_slot Idle same idle rest = idle ∙ ap (λ xs. Idle ∷ xs) rest
    by_slot Endless same idle rest = rw same (ap (λ xs. Endless ∷ xs) rest)
    by_slot (Until end) same idle rest = rw same (ap (λ xs. Until end ∷ xs) rest)

-- slots give the list of what they hold, and it gives them back
pub fields_again : (slots : List Slot) → length slots ≡ 9 → fields_of (held_by table slots) ≡ record { slots = slots }
fields_again slots nine = ap (λ slots. record { slots = slots }) (slots_again table slots refl nine)
