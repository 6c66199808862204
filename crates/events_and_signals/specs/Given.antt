-- What a quarantine gives back, told by what comes and what is asked for.
use Rattle.std.specs.Prelude.{ℕ, zero, suc, List, [], ◌∷◌, ◌++◌, take}
use Rattle.packages.specs.declared.observed.Observed.{Observed}
use Rattle.events_and_signals.specs.Held.{Held, holding, without_first}

-- an event comes, or the first is taken
pub data Happening : Type 0 where
  comes : (event : Observed) → Happening
  is_taken : Happening

-- the events that come, in order
abbrev pub coming : List Happening → List Observed
coming [] = []
coming (comes event ∷ rest) = event ∷ coming rest
coming (is_taken ∷ rest) = coming rest

-- what is held after all of it
unfoldable pub held_after : Held → List Happening → Held
held_after held [] = held
held_after held (comes event ∷ rest) = held_after (holding held event) rest
held_after held (is_taken ∷ rest) = held_after (without_first held) rest

-- the events that are given back, in order
unfoldable pub given_back : Held → List Happening → List Observed
given_back held [] = []
given_back held (comes event ∷ rest) = given_back (holding held event) rest
given_back held (is_taken ∷ rest) = take 1 held.events ++ given_back (without_first held) rest

-- the events in order, but for so many of them that were left out
pub data InOrderBut : ℕ → List Observed → List Observed → Type 0 where
  none : InOrderBut zero [] []
  kept : (n : ℕ) (event : Observed) (some all : List Observed) → InOrderBut n some all
      → InOrderBut n (event ∷ some) (event ∷ all)
  left_out : (n : ℕ) (event : Observed) (some all : List Observed) → InOrderBut n some all
      → InOrderBut (suc n) some (event ∷ all)
