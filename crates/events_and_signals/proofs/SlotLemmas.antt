-- Slots for the signals of a table, and the active signals that they hold.
use Rattle.std.proofs.Common.{◌≡◌, ℕ, zero, suc, ◌+◌, ◌<◌, ◌≤◌, Bool, true, false, ◌&&◌, ◌||◌, not, if◌then◌else◌, List, [], ◌∷◌, ◌++◌, length, take, set, get_or, map, filter, Option, Some, None, is_some, refl, sym, ap, ◌∙◌, arith, add-one, append-nil, option_to_list}
use Rattle.std.specs.List.{list_any, filter_map, cons_option}
use Rattle.packages.specs.declared.signal.Signal.{Signal}
use Rattle.packages.specs.declared.signal.Signal.TheVariants.{DialTone, Busy, Reorder, Ringing, RingSplash, MessageWaiting, Ringback, Congestion, Confirm}
use Rattle.packages.specs.Looking.{is_same_signal}
use Rattle.events_and_signals.specs.declared.active.ActiveSignal.{ActiveSignal}
use Rattle.events_and_signals.specs.declared.slot.Slot.{Slot}
use Rattle.events_and_signals.specs.declared.slot.Slot.TheVariants.{Idle, Endless, Until}
use Rattle.events_and_signals.specs.Active.{table, among, IsInTableOrder}
use Rattle.events_and_signals.specs.Slots.{place_of, held_in, slot_of, held_by}

-- One slot

pub slot_held : (signal : Signal) (slot : Slot) → slot_of (held_in signal slot) ≡ slot
slot_held signal Idle = refl
slot_held signal Endless = refl
slot_held signal (Until end) = refl

-- Each slot by itself

-- each slot becomes what is said of it and its signal; slots past the signals stay
abbrev pub each : (Signal → Slot → Slot) → List Signal → List Slot → List Slot
each f [] slots = slots
each f (signal ∷ signals) [] = []
each f (signal ∷ signals) (slot ∷ slots) = f signal slot ∷ each f signals slots

-- one more
each-suc : (f : Signal → Slot → Slot) (i : ℕ) (signals : List Signal) (slots : List Slot) → i < length signals → i < length slots
    → each f (take (suc i) signals) slots ≡ set (each f (take i signals) slots) i (f (get_or signals i DialTone) (get_or slots i Idle))
each-suc f i [] slots inside room = absurd (omega arith)
each-suc f i (s ∷ ss) [] inside room = absurd (omega arith)
each-suc f zero (s ∷ ss) (x ∷ xs) inside room = refl
each-suc f (suc i) (s ∷ ss) (x ∷ xs) inside room = ap (λ rest. f s x ∷ rest) (each-suc f i ss xs (omega arith) (omega arith))

pub each-more : (f : Signal → Slot → Slot) (i : ℕ) (signals : List Signal) (slots : List Slot) → i < length signals → i < length slots
    → each f (take (i + 1) signals) slots ≡ set (each f (take i signals) slots) i (f (get_or signals i DialTone) (get_or slots i Idle))
each-more f i signals slots inside room = rw (add-one i) (each-suc f i signals slots inside room)

-- the slots to come are as they were
pub get_or-each : (f : Signal → Slot → Slot) (i : ℕ) (signals : List Signal) (slots : List Slot) → i < length signals → i < length slots
    → get_or (each f (take i signals) slots) i Idle ≡ get_or slots i Idle
get_or-each f i [] slots inside room = absurd (omega arith)
get_or-each f i (s ∷ ss) [] inside room = absurd (omega arith)
get_or-each f zero (s ∷ ss) (x ∷ xs) inside room = refl
get_or-each f (suc i) (s ∷ ss) (x ∷ xs) inside room = get_or-each f i ss xs (omega arith) (omega arith)

set-same : (xs : List Slot) (i : ℕ) → set xs i (get_or xs i Idle) ≡ xs
set-same [] i = refl
set-same (x ∷ xs) zero = refl
set-same (x ∷ xs) (suc i) = ap (λ rest. x ∷ rest) (set-same xs i)

-- Slots that stop

abbrev pub stopping : (Signal → Bool) → Signal → Slot → Slot
stopping stops signal slot = if stops signal then Idle else slot

pub one_stops : (stops : Signal → Bool) (i : ℕ) (was now next : List Slot) → length was ≡ 9 → i < 9 → now ≡ each (stopping stops) (take i table) was
    → stops (get_or table i DialTone) ≡ true → next ≡ set now i Idle → next ≡ each (stopping stops) (take (i + 1) table) was
one_stops stops i was now next nine inside so_far it_does is =
    let room : i < length was = omega arith in
    is ∙ ap (λ slots. set slots i Idle) so_far
    ∙ sym (each-more (stopping stops) i table was inside room ∙ rw it_does refl)

pub one_goes_on : (stops : Signal → Bool) (i : ℕ) (was now next : List Slot) → length was ≡ 9 → i < 9 → now ≡ each (stopping stops) (take i table) was
    → stops (get_or table i DialTone) ≡ false → next ≡ now → next ≡ each (stopping stops) (take (i + 1) table) was
one_goes_on stops i was now next nine inside so_far it_does_not is =
    let room : i < length was = omega arith in
    is ∙ so_far
    ∙ sym (each-more (stopping stops) i table was inside room
    ∙ rw (it_does_not, ← get_or-each (stopping stops) i table was inside room) (set-same (each (stopping stops) (take i table) was) i))

abbrev goes_on : (Signal → Bool) → List ActiveSignal → List ActiveSignal
goes_on stops active = filter (λ a. not (stops a.signal)) active

held-stopping : (stops : Signal → Bool) (signal : Signal) (slot : Slot) (stopped : Bool) (after was : List ActiveSignal) → stops signal ≡ stopped → after ≡ goes_on stops was
    → cons_option (held_in signal (if stopped then Idle else slot)) after ≡ goes_on stops (cons_option (held_in signal slot) was)
held-stopping stops signal Idle true after was e rest = rest
held-stopping stops signal Idle false after was e rest = rest
held-stopping stops signal Endless true after was e rest = rw e rest
held-stopping stops signal Endless false after was e rest = rw (e, rest) refl
held-stopping stops signal (Until end) true after was e rest = rw e rest
held-stopping stops signal (Until end) false after was e rest = rw (e, rest) refl

held_by-stopping : (stops : Signal → Bool) (signals : List Signal) (slots : List Slot)
    → held_by signals (each (stopping stops) signals slots) ≡ goes_on stops (held_by signals slots)
held_by-stopping stops [] slots = refl
held_by-stopping stops (s ∷ ss) [] = refl
held_by-stopping stops (s ∷ ss) (x ∷ xs) = held-stopping stops s x (stops s) _ _ refl (held_by-stopping stops ss xs)

pub all_stopped : (stops : Signal → Bool) (i : ℕ) (was now : List Slot) → 9 ≤ i → i ≤ 9 → now ≡ each (stopping stops) (take i table) was
    → held_by table now ≡ filter (λ a. not (stops a.signal)) (held_by table was)
all_stopped stops i was now low high so_far =
    let nine : i ≡ 9 = omega arith in
    ap (held_by table) (so_far ∙ ap (λ n. each (stopping stops) (take n table) was) nine) ∙ held_by-stopping stops table was

-- the slot of one signal
set-place : (signal : Signal) (slots : List Slot) → length slots ≡ 9 → set slots (place_of signal) Idle ≡ each (stopping (λ other. is_same_signal other signal)) table slots
set-place signal (s0 ∷ s1 ∷ s2 ∷ s3 ∷ s4 ∷ s5 ∷ s6 ∷ s7 ∷ s8 ∷ []) nine = by_signal signal
  where
    by_signal : (one : Signal)
        → set (s0 ∷ s1 ∷ s2 ∷ s3 ∷ s4 ∷ s5 ∷ s6 ∷ s7 ∷ s8 ∷ []) (place_of one) Idle
        ≡ each (stopping (λ other. is_same_signal other one)) table (s0 ∷ s1 ∷ s2 ∷ s3 ∷ s4 ∷ s5 ∷ s6 ∷ s7 ∷ s8 ∷ [])
    by_signal DialTone = refl
    by_signal Busy = refl
    by_signal Reorder = refl
    by_signal Ringing = refl
    by_signal RingSplash = refl
    by_signal MessageWaiting = refl
    by_signal Ringback = refl
    by_signal Congestion = refl
    by_signal Confirm = refl
set-place signal _ nine = absurd (omega arith)

pub one_stopped : (signal : Signal) (slots : List Slot) → length slots ≡ 9
    → held_by table (set slots (place_of signal) Idle) ≡ filter (λ a. not (is_same_signal a.signal signal)) (held_by table slots)
one_stopped signal slots nine = ap (held_by table) (set-place signal slots nine) ∙ held_by-stopping (λ other. is_same_signal other signal) table slots

-- What is found in slots

-- no signal of a list is this one, from either side
abbrev pub is_apart : Signal → List Signal → Bool
is_apart signal signals = not (list_any (λ other. is_same_signal signal other || is_same_signal other signal) signals)

abbrev pub are_distinct : List Signal → Bool
are_distinct [] = true
are_distinct (s ∷ ss) = is_same_signal s s && is_apart s ss && are_distinct ss

-- each signal is found as its slot holds it
abbrev pub AllHeld : List ActiveSignal → List Signal → List Slot → Type 0
AllHeld active [] slots = Unit {0}
AllHeld active (s ∷ ss) [] = ⊥
AllHeld active (s ∷ ss) (x ∷ xs) = (among s active ≡ held_in s x) × AllHeld active ss xs

among-skip : (signal other : Signal) (slot : Slot) (active : List ActiveSignal) → is_same_signal other signal ≡ false → among signal (cons_option (held_in other slot) active) ≡ among signal active
among-skip signal other Idle active apart = refl
among-skip signal other Endless active apart = rw apart refl
among-skip signal other (Until end) active apart = rw apart refl

among-here : (signal : Signal) (slot : Slot) (active : List ActiveSignal) → is_same_signal signal signal ≡ true → among signal active ≡ None → among signal (cons_option (held_in signal slot) active) ≡ held_in signal slot
among-here signal Idle active same none = none
among-here signal Endless active same none = rw same refl
among-here signal (Until end) active same none = rw same refl

-- the parts of being apart
record IsApart (signal other : Signal) (others : List Signal) : Type 0 where
  forth : is_same_signal signal other ≡ false
  back : is_same_signal other signal ≡ false
  rest : is_apart signal others ≡ true

apart_parts : (signal other : Signal) (others : List Signal) → is_apart signal (other ∷ others) ≡ true → IsApart signal other others
apart_parts signal other others apart = by_cases (is_same_signal signal other) (is_same_signal other signal) refl refl apart
  where
    by_cases : (forth back : Bool) → is_same_signal signal other ≡ forth → is_same_signal other signal ≡ back
        → not ((forth || back) || list_any (λ u. is_same_signal signal u || is_same_signal u signal) others) ≡ true → IsApart signal other others
    by_cases true back e f h = absurd cc
    by_cases false true e f h = absurd cc
    by_cases false false e f h = record { forth = e; back = f; rest = h }

among-apart : (signal : Signal) (signals : List Signal) (slots : List Slot) → is_apart signal signals ≡ true → among signal (held_by signals slots) ≡ None
among-apart signal [] slots apart = refl
among-apart signal (t ∷ ss) [] apart = refl
among-apart signal (t ∷ ss) (x ∷ xs) apart =
    let parts = apart_parts signal t ss apart in
    among-skip signal t x (held_by ss xs) parts.back ∙ among-apart signal ss xs parts.rest

AllHeld-skip : (other : Signal) (slot : Slot) (active : List ActiveSignal) (signals : List Signal) (slots : List Slot) → is_apart other signals ≡ true → AllHeld active signals slots
    → AllHeld (cons_option (held_in other slot) active) signals slots
AllHeld-skip other slot active [] slots apart all = tt
AllHeld-skip other slot active (s ∷ ss) [] apart all = all
AllHeld-skip other slot active (s ∷ ss) (x ∷ xs) apart all =
    let parts = apart_parts other s ss apart in
    (among-skip s other slot active parts.forth ∙ all.0, AllHeld-skip other slot active ss xs parts.rest all.1)

record AreDistinct (signal : Signal) (signals : List Signal) : Type 0 where
  itself : is_same_signal signal signal ≡ true
  apart : is_apart signal signals ≡ true
  rest : are_distinct signals ≡ true

distinct_parts : (signal : Signal) (signals : List Signal) → are_distinct (signal ∷ signals) ≡ true → AreDistinct signal signals
distinct_parts signal signals distinct = by_cases (is_same_signal signal signal) (is_apart signal signals) refl refl distinct
  where
    by_cases : (itself apart : Bool) → is_same_signal signal signal ≡ itself → is_apart signal signals ≡ apart → (itself && apart && are_distinct signals) ≡ true → AreDistinct signal signals
    by_cases false apart e f h = absurd cc
    by_cases true false e f h = absurd cc
    by_cases true true e f h = record { itself = e; apart = f; rest = h }

all_held : (signals : List Signal) (slots : List Slot) → are_distinct signals ≡ true → length slots ≡ length signals → AllHeld (held_by signals slots) signals slots
all_held [] slots distinct size = tt
all_held (s ∷ ss) [] distinct size = absurd (omega arith)
all_held (s ∷ ss) (x ∷ xs) distinct size =
    let parts = distinct_parts s ss distinct in (
      among-here s x (held_by ss xs) parts.itself (among-apart s ss xs parts.apart),
      AllHeld-skip s x (held_by ss xs) ss xs parts.apart (all_held ss xs parts.rest (omega arith)),
    )

pub table_held : (slots : List Slot) → length slots ≡ 9 → AllHeld (held_by table slots) table slots
table_held slots nine = all_held table slots refl nine

-- the signals held are those of the table that are active
in_order-held : (active : List ActiveSignal) (signals : List Signal) (slots : List Slot) → AllHeld active signals slots
    → map (λ a. a.signal) (held_by signals slots) ≡ filter (λ signal. is_some (among signal active)) signals
in_order-held active [] slots all = refl
in_order-held active (s ∷ ss) [] all = absurd all
in_order-held active (s ∷ ss) (Idle ∷ xs) all = rw all.0 (in_order-held active ss xs all.1)
in_order-held active (s ∷ ss) (Endless ∷ xs) all = rw all.0 (ap (λ rest. s ∷ rest) (in_order-held active ss xs all.1))
in_order-held active (s ∷ ss) (Until end ∷ xs) all = rw all.0 (ap (λ rest. s ∷ rest) (in_order-held active ss xs all.1))

pub in_order_held : (slots : List Slot) → length slots ≡ 9 → map (λ a. a.signal) (held_by table slots) ≡ filter (λ signal. is_some (among signal (held_by table slots))) table
in_order_held slots nine = in_order-held (held_by table slots) table slots (table_held slots nine)

-- Slots that are set anew, each by what its signal becomes

abbrev pub becoming : (Signal → Option ActiveSignal → Option ActiveSignal) → Signal → Slot → Slot
becoming g signal slot = slot_of (g signal (held_in signal slot))

-- what a signal becomes is that signal, if it is active
abbrev pub KeepsSignals : (Signal → Option ActiveSignal → Option ActiveSignal) → Type 0
KeepsSignals g = (signal : Signal) (slot : Slot) → held_in signal (slot_of (g signal (held_in signal slot))) ≡ g signal (held_in signal slot)

held_by-becoming : (g : Signal → Option ActiveSignal → Option ActiveSignal) → KeepsSignals g → (active : List ActiveSignal) (signals : List Signal) (slots : List Slot) → AllHeld active signals slots
    → held_by signals (each (becoming g) signals slots) ≡ filter_map (λ signal. g signal (among signal active)) signals
held_by-becoming g keeps active [] slots all = refl
held_by-becoming g keeps active (s ∷ ss) [] all = absurd all
held_by-becoming g keeps active (s ∷ ss) (x ∷ xs) all =
    ap (λ one. cons_option one (held_by ss (each (becoming g) ss xs))) (keeps s x ∙ ap (g s) (sym all.0))
    ∙ ap (cons_option (g s (among s active))) (held_by-becoming g keeps active ss xs all.1)

pub one_becomes : (g : Signal → Option ActiveSignal → Option ActiveSignal) (i : ℕ) (was now next : List Slot) (after : Option ActiveSignal) → length was ≡ 9 → i < 9 → now ≡ each (becoming g) (take i table) was
    → after ≡ g (get_or table i DialTone) (held_in (get_or table i DialTone) (get_or now i Idle)) → next ≡ set now i (slot_of after) → next ≡ each (becoming g) (take (i + 1) table) was
one_becomes g i was now next after nine inside so_far becomes is =
    let room : i < length was = omega arith in
    let here : get_or now i Idle ≡ get_or was i Idle = ap (λ slots. get_or slots i Idle) so_far ∙ get_or-each (becoming g) i table was inside room in
    is ∙ ap (λ slots. set slots i (slot_of after)) so_far
    ∙ ap (λ slot. set (each (becoming g) (take i table) was) i slot) (ap slot_of becomes ∙ ap (λ slot. becoming g (get_or table i DialTone) slot) here)
    ∙ sym (each-more (becoming g) i table was inside room)

pub all_became : (g : Signal → Option ActiveSignal → Option ActiveSignal) → KeepsSignals g → (i : ℕ) (was now : List Slot) → length was ≡ 9 → 9 ≤ i → i ≤ 9 → now ≡ each (becoming g) (take i table) was
    → held_by table now ≡ filter_map (λ signal. g signal (among signal (held_by table was))) table
all_became g keeps i was now nine low high so_far =
    let whole : i ≡ 9 = omega arith in
    ap (held_by table) (so_far ∙ ap (λ n. each (becoming g) (take n table) was) whole)
    ∙ held_by-becoming g keeps (held_by table was) table was (table_held was nine)

-- A list of what slots hold

held_by-suc : (i : ℕ) (signals : List Signal) (slots : List Slot) → i < length signals → i < length slots
    → held_by (take (suc i) signals) slots ≡ held_by (take i signals) slots ++ option_to_list (held_in (get_or signals i DialTone) (get_or slots i Idle))
held_by-suc i [] slots inside room = absurd (omega arith)
held_by-suc i (s ∷ ss) [] inside room = absurd (omega arith)
held_by-suc zero (s ∷ ss) (x ∷ xs) inside room = last (held_in s x)
  where
    last : (one : Option ActiveSignal) → cons_option one [] ≡ option_to_list one
    last None = refl
    last (Some a) = refl
held_by-suc (suc i) (s ∷ ss) (x ∷ xs) inside room =
    ap (cons_option (held_in s x)) (held_by-suc i ss xs (omega arith) (omega arith)) ∙ more (held_in s x) _ _
  where
    more : (one : Option ActiveSignal) (front back : List ActiveSignal) → cons_option one (front ++ back) ≡ cons_option one front ++ back
    more None front back = refl
    more (Some a) front back = refl

pub held_by-more : (i : ℕ) (signals : List Signal) (slots : List Slot) → i < length signals → i < length slots
    → held_by (take (i + 1) signals) slots ≡ held_by (take i signals) slots ++ option_to_list (held_in (get_or signals i DialTone) (get_or slots i Idle))
held_by-more i signals slots inside room = rw (add-one i) (held_by-suc i signals slots inside room)

pub one_listed : (i : ℕ) (slots : List Slot) (items next : List ActiveSignal) (a : ActiveSignal) → length slots ≡ 9 → i < 9 → items ≡ held_by (take i table) slots
    → held_in (get_or table i DialTone) (get_or slots i Idle) ≡ Some a → next ≡ items ++ a ∷ [] → next ≡ held_by (take (i + 1) table) slots
one_listed i slots items next a nine inside so_far here is =
    let room : i < length slots = omega arith in
    is ∙ ap (λ front. front ++ a ∷ []) so_far
    ∙ sym (held_by-more i table slots inside room ∙ ap (λ one. held_by (take i table) slots ++ option_to_list one) here)

pub none_listed : (i : ℕ) (slots : List Slot) (items next : List ActiveSignal) → length slots ≡ 9 → i < 9 → items ≡ held_by (take i table) slots
    → held_in (get_or table i DialTone) (get_or slots i Idle) ≡ None → next ≡ items → next ≡ held_by (take (i + 1) table) slots
none_listed i slots items next nine inside so_far here is =
    let room : i < length slots = omega arith in
    is ∙ so_far
    ∙ sym (held_by-more i table slots inside room ∙ ap (λ one. held_by (take i table) slots ++ option_to_list one) here ∙ append-nil (held_by (take i table) slots))

pub all_listed : (i : ℕ) (slots : List Slot) (items : List ActiveSignal) → length slots ≡ 9 → 9 ≤ i → i ≤ 9 → items ≡ held_by (take i table) slots → IsInTableOrder items
all_listed i slots items nine low high so_far =
    let whole : i ≡ 9 = omega arith in
    let is : items ≡ held_by table slots = so_far ∙ ap (λ n. held_by (take n table) slots) whole in
    rw is (in_order_held slots nine)
