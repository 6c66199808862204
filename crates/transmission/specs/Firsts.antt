-- Which of all that arrived is executed (RFC 3435, 3.5.1): each transaction once. Nothing is ever forgotten here.
use Rattle.std.specs.Prelude.{◌≡◌, ℕ, ◌-◌, ◌<◌, ◌==◌, ◌&&◌, nat_lt, if◌then◌else◌, Bool, true, false, List, [], ◌∷◌, ◌++◌, length, filter, fold, All, Option, Some, None}
use Rattle.std.specs.Option.{option_or}
use Rattle.transmission.specs.Memory.{memory_time, is_young}
use Rattle.transmission.specs.Arrival.{Arrival}

-- an arrival is a copy of a first that has its id and is young, whatever else differs
abbrev pub is_copy : Arrival → Arrival → Bool
is_copy a first = first.id == a.id && is_young a.moment first.moment

-- the first that an arrival is a copy of, and the firsts that came after that one
pub record Copied : Type 0 where
  pub original : Arrival
  pub after : List Arrival

-- of several it is the latest
unfoldable pub copied_by : List Arrival → Arrival → Option Copied
copied_by [] a = None
copied_by (first ∷ firsts) a =
    option_or (copied_by firsts a)
    (if is_copy a first then Some (record { original = first; after = firsts }) else None)

-- the firsts that are young
abbrev pub young_of : ℕ → List Arrival → List Arrival
young_of now firsts = filter (λ first. is_young now first.moment) firsts

-- what an arrival is: a first, a repeat, or lost
pub data Kind : Type 0 where
  a_first : Kind
  a_repeat : (copied : Copied) → Kind
  lost : Kind

-- a copy is a repeat, however many are young; what is no copy is a first while fewer than the limit are
abbrev pub kind_by : Option Copied → Bool → Kind
kind_by (Some copied) has_room = a_repeat copied
kind_by None true = a_first
kind_by None false = lost

-- what an arrival is after these firsts
unfoldable pub kind_of : ℕ → List Arrival → Arrival → Kind
kind_of limit firsts a = kind_by (copied_by firsts a) (nat_lt (length (young_of a.moment firsts)) limit)

-- a first comes behind those before it, and nothing else becomes one
abbrev pub added : Kind → List Arrival → Arrival → List Arrival
added a_first firsts a = firsts ++ a ∷ []
added (a_repeat copied) firsts a = firsts
added lost firsts a = firsts

-- the firsts, with one more arrival
unfoldable pub firsts_with : ℕ → List Arrival → Arrival → List Arrival
firsts_with limit firsts a = added (kind_of limit firsts a) firsts a

-- the firsts of all that arrived
abbrev pub firsts_of : ℕ → List Arrival → List Arrival
firsts_of limit arrivals = fold (firsts_with limit) [] arrivals

-- The same as facts

-- an arrival is a copy of a first
abbrev pub IsCopy : Arrival → Arrival → Type 0
IsCopy a first = (first.id ≡ a.id) × (a.moment - first.moment < memory_time)

abbrev pub IsNoCopy : Arrival → List Arrival → Type 0
IsNoCopy a firsts = All (λ first. ¬ IsCopy a first) firsts

-- an arrival is a copy of this first, and of none after it
pub record IsLatestCopy (firsts : List Arrival) (a : Arrival) (copied : Copied) : Type 0 where
  pub before : List Arrival
  pub stands : firsts ≡ before ++ copied.original ∷ copied.after
  pub copy : IsCopy a copied.original
  pub latest : IsNoCopy a copied.after
