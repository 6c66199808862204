-- Lists that grow while an event happens, and as the event found them.
use Rattle.std.specs.Prelude.{ℕ, List, [], ◌++◌, map, slice_set}
use Rattle.std.specs.List.{slice_index_or}

pub record Grown (A : Type 0) : Type 0 where
  pub is : List A
  pub found : List A

-- nothing was added yet
abbrev pub grown_to : {A : Type 0} → List A → Grown A
grown_to items = record { is = items; found = items }

abbrev pub committed : {A : Type 0} → Grown A → Grown A
committed grown = grown_to grown.is

abbrev pub rolled_back : {A : Type 0} → Grown A → Grown A
rolled_back grown = grown_to grown.found

-- a list for each line
abbrev pub all_in : {A : Type 0} → List (Grown A) → Grown (List A)
all_in lines = record { is = map (λ line. line.is) lines; found = map (λ line. line.found) lines }

-- the list at this place, if there is one, grows by these
abbrev pub told_at : {A : Type 0} → List (List A) → ℕ → List A → List (List A)
told_at lines place more = slice_set lines place (slice_index_or lines place [] ++ more)
