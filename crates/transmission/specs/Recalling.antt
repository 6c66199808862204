-- Two lists of entries that tell alike.
use Rattle.std.specs.Prelude.{◌≡◌, ℕ, ◌≤◌, min, List, length}
use Rattle.transmission.specs.declared.entry.Entry.{Entry}
use Rattle.transmission.specs.Memory.{most_firsts}
use Rattle.transmission.specs.Arrival.{Arrival}
use Rattle.transmission.specs.Firsts.{kind_of, firsts_of}
use Rattle.transmission.specs.Kept.{young_firsts, entries_of}
use Rattle.transmission.specs.Looking.{recalled, Looked, told_as, look_of}

-- what is kept recalls all that came, at every moment from this one on: of each id the same answer, confirmed or not,
-- and as many young firsts, up to the most that there may be
pub record Recalls (kept all : List Entry) (since : ℕ) : Type 0 where
  pub same_answers : (id now : ℕ) → since ≤ now → recalled kept id now ≡ recalled all id now
  pub same_count : (now : ℕ) → since ≤ now
      → min most_firsts (length (young_firsts now kept)) ≡ min most_firsts (length (young_firsts now all))

-- what is kept recalls what came with all these arrivals
abbrev pub Remembers : List Entry → List Arrival → ℕ → Type 0
Remembers kept arrivals since = Recalls kept (entries_of (firsts_of most_firsts arrivals)) since

-- what is told of a command that arrives now with this id is what it is, after all that arrived, where that is recalled
abbrev pub TellsArrival : Looked → List Entry → ℕ → ℕ → Type 0
TellsArrival told kept id now =
    (earlier : List Arrival) (a : Arrival) (since : ℕ) → Remembers kept earlier since → since ≤ now
    → a.id ≡ id → a.moment ≡ now → told ≡ told_as id (kind_of most_firsts (firsts_of most_firsts earlier) a)

-- from now on one list tells what the other does
abbrev pub TellsAlike : List Entry → List Entry → ℕ → Type 0
TellsAlike kept before now =
    (id later : ℕ) → now ≤ later → look_of most_firsts kept id later ≡ look_of most_firsts before id later
