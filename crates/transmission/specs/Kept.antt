-- What a history keeps: firsts and confirmations in the order in which they came.
use Rattle.std.specs.Prelude.{ℕ, ◌≤◌, if◌then◌else◌, Bool, false, List, [], ◌∷◌, ◌++◌, filter, flat_map, AllPairs}
use Rattle.transmission.specs.declared.entry.KeptFirst.{KeptFirst}
use Rattle.transmission.specs.declared.entry.Entry.{Entry}
use Rattle.transmission.specs.declared.entry.Entry.TheVariants.{First, Confirmation}
use Rattle.transmission.specs.Memory.{is_young}
use Rattle.transmission.specs.Arrival.{Arrival}

-- what is kept, what of it was there after the last purge, and the moment of that (in ms); 0 where there was none
pub record HistoryState : Type 0 where
  pub kept : List Entry
  pub settled : List Entry
  pub purged : ℕ

-- nothing came since the last purge, which was at this moment
abbrev pub settled_at : ℕ → List Entry → HistoryState
settled_at moment entries = record { kept = entries; settled = entries; purged = moment }

-- one more is kept, which `undo` takes back
abbrev pub kept_with : HistoryState → Entry → HistoryState
kept_with history entry = record history { kept = history.kept ++ entry ∷ [] }

-- a first as it is kept
abbrev pub first_entry : ℕ → ℕ → List ℕ → Entry
first_entry id moment answer = First (record { id = id; moment = moment; answer = answer })

-- an entry is a first that is young
abbrev pub is_young_first : ℕ → Entry → Bool
is_young_first now (First first) = is_young now first.moment
is_young_first now (Confirmation spans) = false

abbrev pub young_firsts : ℕ → List Entry → List Entry
young_firsts now entries = filter (is_young_first now) entries

-- the entries from the first young one on: what came before it can't matter any more
unfoldable pub from_young : ℕ → List Entry → List Entry
from_young now [] = []
from_young now (entry ∷ entries) = if is_young_first now entry then entry ∷ entries else from_young now entries

-- what is kept of a first: what it confirms was confirmed before it was executed
abbrev pub entries_of_first : Arrival → List Entry
entries_of_first a = Confirmation a.confirms ∷ first_entry a.id a.moment a.answer ∷ []

-- these firsts as they are kept where nothing is ever dropped
abbrev pub entries_of : List Arrival → List Entry
entries_of firsts = flat_map entries_of_first firsts

-- the firsts among entries
abbrev pub firsts_in : List Entry → List KeptFirst
firsts_in [] = []
firsts_in (First first ∷ entries) = first ∷ firsts_in entries
firsts_in (Confirmation spans ∷ entries) = firsts_in entries

-- they came in the order of their moments
abbrev pub AreInOrder : List KeptFirst → Type 0
AreInOrder firsts = AllPairs (λ (first later : KeptFirst). first.moment ≤ later.moment) firsts
