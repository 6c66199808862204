-- What S makes of a signal.
use Rattle.std.proofs.Common.{◌≡◌, ◌≢◌, ℕ, Bool, true, false, ◌||◌, if◌then◌else◌, List, [], ◌∷◌, filter, fold, Option, Some, None, refl, sym, ap, ◌∙◌, IfSome}
use Rattle.std.specs.List.{list_any}
use Rattle.packages.specs.declared.hook.Hook.{Hook}
use Rattle.packages.specs.declared.signal.Signal.{Signal}
use Rattle.packages.specs.declared.signal.Signal.TheVariants.{DialTone, Busy, Reorder, Ringing, RingSplash, MessageWaiting, Ringback, Congestion, Confirm}
use Rattle.packages.specs.Looking.{is_same_signal, time_of}
use Rattle.packages.specs.declared.signals.Setting.{Setting}
use Rattle.packages.specs.declared.signals.Setting.TheVariants.{Start, Stop, Lasting}
use Rattle.packages.specs.declared.signals.SignalRequest.{SignalRequest}
use Rattle.events_and_signals.specs.declared.active.ActiveSignal.{ActiveSignal}
use Rattle.events_and_signals.specs.declared.slot.Slot.{Slot}
use Rattle.events_and_signals.specs.declared.slot.Slot.TheVariants.{Idle, Endless, Until}
use Rattle.events_and_signals.specs.Active.{is_time_out, is_forbidden}
use Rattle.events_and_signals.specs.Applying.{end_after, goes_on, after_start, after_setting, after_entry, entries_for, after_entries}
use Rattle.events_and_signals.specs.Slots.{held_in, slot_of, slot_until}
use Rattle.events_and_signals.proofs.SlotLemmas.{KeepsSignals}

-- what a request makes of a signal
abbrev pub after_requests : List SignalRequest → Hook → ℕ → Signal → Option ActiveSignal → Option ActiveSignal
after_requests requests hook moment signal was = after_entries hook moment signal was (entries_for signal requests)

-- signals that are compared as the same are the same
pub same_true : (a b : Signal) → is_same_signal a b ≡ true → a ≡ b
same_true DialTone DialTone e = refl
same_true DialTone _ e = absurd cc
same_true Busy Busy e = refl
same_true Busy _ e = absurd cc
same_true Reorder Reorder e = refl
same_true Reorder _ e = absurd cc
same_true Ringing Ringing e = refl
same_true Ringing _ e = absurd cc
same_true RingSplash RingSplash e = refl
same_true RingSplash _ e = absurd cc
same_true MessageWaiting MessageWaiting e = refl
same_true MessageWaiting _ e = absurd cc
same_true Ringback Ringback e = refl
same_true Ringback _ e = absurd cc
same_true Congestion Congestion e = refl
same_true Congestion _ e = absurd cc
same_true Confirm Confirm e = refl
same_true Confirm _ e = absurd cc

-- The signal that is active is the one that was asked for

-- an active signal is this one
abbrev pub IsOf : Signal → Option ActiveSignal → Type 0
IsOf signal active = IfSome active (λ a. a.signal ≡ signal)

IsOf-if : (signal : Signal) (b : Bool) (was : Option ActiveSignal) (end : Option ℕ) → IsOf signal was → IsOf signal (if b then was else Some (record { signal = signal; end = end }))
IsOf-if signal true was end is = is
IsOf-if signal false was end is = refl

IsOf-after_start : (hook : Hook) (moment : ℕ) (signal : Signal) (time : ℕ) (was : Option ActiveSignal) → IsOf signal was → IsOf signal (after_start hook moment signal time was)
unfolding after_start
IsOf-after_start hook moment signal time was is = IsOf-if signal (is_forbidden hook signal || goes_on signal was) was (end_after moment time) is

IsOf-after_setting : (hook : Hook) (moment : ℕ) (signal : Signal) (was : Option ActiveSignal) (setting : Setting) → IsOf signal was → IsOf signal (after_setting hook moment signal was setting)
IsOf-after_setting hook moment signal was Stop is = tt
IsOf-after_setting hook moment signal was Start is = IsOf-after_start hook moment signal (time_of signal) was is
IsOf-after_setting hook moment signal was (Lasting ms) is = IsOf-after_start hook moment signal ms was is

-- by the entries that name it
IsOf-fold : (hook : Hook) (moment : ℕ) (signal : Signal) (requests : List SignalRequest) (was : Option ActiveSignal) → IsOf signal was
    → IsOf signal (fold (after_entry hook moment) was (entries_for signal requests))
IsOf-fold hook moment signal [] was is = is
IsOf-fold hook moment signal (request ∷ requests) was is = by_cases (is_same_signal request.signal signal) refl (IsOf-fold hook moment signal requests was is) (λ next. IsOf-fold hook moment signal requests next)
  where
    by_cases : (b : Bool) → is_same_signal request.signal signal ≡ b → IsOf signal (fold (after_entry hook moment) was (entries_for signal requests))
        → ((next : Option ActiveSignal) → IsOf signal next → IsOf signal (fold (after_entry hook moment) next (entries_for signal requests)))
        → IsOf signal (fold (after_entry hook moment) was (if b then request ∷ entries_for signal requests else entries_for signal requests))
    by_cases false e skips takes = skips
    by_cases true e skips takes =
        let named : request.signal ≡ signal = same_true request.signal signal e in
        takes _ (rw named (IsOf-after_setting hook moment signal was request.setting is))

IsOf-if_none : (signal : Signal) (b : Bool) (was : Option ActiveSignal) → IsOf signal was → IsOf signal (if b then None else was)
IsOf-if_none signal true was is = tt
IsOf-if_none signal false was is = is

after_entries_by : (hook : Hook) (moment : ℕ) (signal : Signal) (was : Option ActiveSignal) (entries : List SignalRequest) → IsOf signal was → IsOf signal (fold (after_entry hook moment) was entries)
    → IsOf signal (after_entries hook moment signal was entries)
unfolding after_entries
after_entries_by hook moment signal was [] is folded = IsOf-if_none signal (is_time_out signal) was is
after_entries_by hook moment signal was (entry ∷ entries) is folded = folded

pub IsOf-after_requests : (requests : List SignalRequest) (hook : Hook) (moment : ℕ) (signal : Signal) (was : Option ActiveSignal) → IsOf signal was → IsOf signal (after_requests requests hook moment signal was)
IsOf-after_requests requests hook moment signal was is =
    after_entries_by hook moment signal was (entries_for signal requests) is (IsOf-fold hook moment signal requests was is)

pub IsOf-held : (signal : Signal) (slot : Slot) → IsOf signal (held_in signal slot)
IsOf-held signal Idle = tt
IsOf-held signal Endless = refl
IsOf-held signal (Until end) = refl

held_until : (signal : Signal) (end : Option ℕ) → held_in signal (slot_until end) ≡ Some (record { signal = signal; end = end })
held_until signal None = refl
held_until signal (Some end) = refl

held_slot : (signal : Signal) (active : Option ActiveSignal) → IsOf signal active → held_in signal (slot_of active) ≡ active
held_slot signal None is = refl
held_slot signal (Some a) is = held_until signal a.end ∙ ap (λ s. Some (record { signal = s; end = a.end })) (sym is)

pub KeepsSignals-after_requests : (requests : List SignalRequest) (hook : Hook) (moment : ℕ) → KeepsSignals (after_requests requests hook moment)
KeepsSignals-after_requests requests hook moment signal slot =
    held_slot signal (after_requests requests hook moment signal (held_in signal slot))
    (IsOf-after_requests requests hook moment signal (held_in signal slot) (IsOf-held signal slot))

-- What no entry names

none_filtered : (test : SignalRequest → Bool) (requests : List SignalRequest) → list_any test requests ≡ false → filter test requests ≡ []
none_filtered test [] none = refl
none_filtered test (request ∷ requests) none = by_test (test request) refl none (none_filtered test requests)
  where
    by_test : (b : Bool) → test request ≡ b → (b || list_any test requests) ≡ false → (list_any test requests ≡ false → filter test requests ≡ []) → (if b then request ∷ filter test requests else filter test requests) ≡ []
    by_test true e none rest = absurd cc
    by_test false e none rest = rest none

pub after_none : (hook : Hook) (moment : ℕ) (signal : Signal) (was : Option ActiveSignal) (requests : List SignalRequest)
    → list_any (λ request. is_same_signal request.signal signal) requests ≡ false → after_entries hook moment signal was (entries_for signal requests) ≡ (if is_time_out signal then None else was)
unfolding after_entries
after_none hook moment signal was requests none = rw (none_filtered (λ request. is_same_signal request.signal signal) requests none) refl

-- What some entries name

some_filtered : (test : SignalRequest → Bool) (requests : List SignalRequest) → list_any test requests ≡ true → filter test requests ≢ []
some_filtered test [] some = absurd cc
some_filtered test (request ∷ requests) some = by_test (test request) refl some (some_filtered test requests)
  where
    by_test : (b : Bool) → test request ≡ b → (b || list_any test requests) ≡ true → (list_any test requests ≡ true → filter test requests ≢ []) → (if b then request ∷ filter test requests else filter test requests) ≢ []
    by_test true e some rest = λ empty. absurd cc
    by_test false e some rest = rest some

after_entries-some : (hook : Hook) (moment : ℕ) (signal : Signal) (was : Option ActiveSignal) (entries : List SignalRequest) → entries ≢ []
    → after_entries hook moment signal was entries ≡ fold (after_entry hook moment) was entries
unfolding after_entries
after_entries-some hook moment signal was [] some = absurd (some refl)
after_entries-some hook moment signal was (entry ∷ entries) some = refl

pub after_some : (hook : Hook) (moment : ℕ) (signal : Signal) (was : Option ActiveSignal) (requests : List SignalRequest)
    → list_any (λ request. is_same_signal request.signal signal) requests ≡ true → after_entries hook moment signal was (entries_for signal requests) ≡ fold (after_entry hook moment) was (entries_for signal requests)
after_some hook moment signal was requests some =
    after_entries-some hook moment signal was (entries_for signal requests) (some_filtered (λ request. is_same_signal request.signal signal) requests some)
