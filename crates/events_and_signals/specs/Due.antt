-- Which active signal ends first (RFC 3435, 2.1.7).
use Rattle.std.specs.Prelude.{◌≡◌, ℕ, ◌<◌, ◌≤◌, nat_le, if◌then◌else◌, List, ◌∷◌, ◌++◌, fold, All, Option, Some, None, option_map, IfSome}
use Rattle.packages.specs.declared.signal.Signal.{Signal}
use Rattle.events_and_signals.specs.declared.active.ActiveSignal.{ActiveSignal}

-- the end of an active signal, where it has one, and the signal
abbrev pub end_of : ActiveSignal → Option (ℕ × Signal)
end_of a = option_map (λ end. (end, a.signal)) a.end

-- the earlier end, the first of the two where both are as early
abbrev pub earlier : Option (ℕ × Signal) → Option (ℕ × Signal) → Option (ℕ × Signal)
earlier None other = other
earlier (Some first) None = Some first
earlier (Some first) (Some other) = if nat_le first.0 other.0 then Some first else Some other

-- the earliest of all ends, the first in the order of the table where several are as early
unfoldable pub due_first : List ActiveSignal → Option (ℕ × Signal)
due_first active = fold (λ first a. earlier first (end_of a)) None active

-- the same as facts: a signal is active with this end, none before it ends as early, and none after it ends earlier
pub record IsDueFirst (active : List ActiveSignal) (end : ℕ) (signal : Signal) : Type 0 where
  pub before : List ActiveSignal
  pub after : List ActiveSignal
  pub stands : active ≡ before ++ (record { signal = signal; end = Some end }) ∷ after
  pub none_as_early : All (λ a. IfSome a.end (λ other. end < other)) before
  pub none_earlier : All (λ a. IfSome a.end (λ other. end ≤ other)) after
