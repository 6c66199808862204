-- What comes to a gateway that runs, and which of it is taken.
use Rattle.std.specs.Prelude.{◌≡◌, ◌⊎◌, ℕ, ◌+◌, List, [], ◌∷◌, Option}
use Rattle.std.specs.List.{flat_map}
use Rattle.live_io.specs.Sending.{Received}
use Rattle.traces.specs.Writing.{Entry, arrived, typed, passed, showed, became}

-- all datagrams that came, in their order, where that is told; and how many inputs were refused, of datagrams, acts and ticks
pub record Came : Type 0 where
  pub received : Option (List Received)
  pub refused : ℕ

-- the datagram that came in at an entry, if one did
abbrev pub arrived_at : Entry → List Received
arrived_at (became mark place) = []
arrived_at (showed (arrived source bytes) move shown) = record { source = source; bytes = bytes } ∷ []
arrived_at (showed (typed line) move shown) = []
arrived_at (showed (passed moment) move shown) = []

abbrev pub arrived_in : List Entry → List Received
arrived_in entries = flat_map arrived_at entries

-- the second are the first, in their order, but for so many at most
abbrev pub AreAllBut : ℕ → List Received → List Received → Type 0
AreAllBut most [] taken = taken ≡ []
AreAllBut most (one ∷ more) taken =
    ((rest : List Received) × (taken ≡ one ∷ rest) × AreAllBut most more rest)
    ⊎ ((fewer : ℕ) × (most ≡ fewer + 1) × AreAllBut fewer more taken)
