-- What a history's index says of its entries: where the latest first of each id stands. No public clause names any of it.
use Rattle.std.specs.Prelude.{◌≡◌, ℕ, suc, ◌-◌, ◌≤◌, ◌==◌, ◌||◌, nat_eq, nat_lt, if◌then◌else◌, Bool, true, false}
use Rattle.std.specs.Prelude.{List, [], ◌∷◌, length, take, drop, All, Option, Some, None, option_map}
use Rattle.std.specs.Option.{option_or}
use Rattle.std.specs.List.{list_any}
use Rattle.indexmap.specs.IndexMap.{IndexMap, get, spare}
use Rattle.transmission.specs.declared.entry.KeptFirst.{KeptFirst}
use Rattle.transmission.specs.declared.entry.Entry.{Entry}
use Rattle.transmission.specs.declared.entry.Entry.TheVariants.{First, Confirmation}
use Rattle.transmission.specs.declared.spots.Spot.{Spot}
use Rattle.transmission.specs.declared.recall.Recollection.{Recollection}
use Rattle.transmission.specs.Kept.{firsts_in, AreInOrder}
use Rattle.transmission.specs.Looking.{confirms, Recalled}

abbrev pub is_first : Entry → Bool
is_first (First first) = true
is_first (Confirmation spans) = false

-- an entry is a first with this id
abbrev pub is_first_of : ℕ → Entry → Bool
is_first_of id (First first) = first.id == id
is_first_of id (Confirmation spans) = false

-- the spot of a first at the front of entries: those after it may confirm it
abbrev pub spot_at_front : ℕ → Entry → List Entry → Option Spot
spot_at_front id entry after =
    if is_first_of id entry then Some (record { place = 0; confirmed = list_any (confirms id) after }) else None

-- one entry more stands before it
abbrev pub one_further : Spot → Spot
one_further spot = record spot { place = suc spot.place }

-- the spot of the latest first with this id
unfoldable pub spot_in : List Entry → ℕ → Option Spot
spot_in [] id = None
spot_in (entry ∷ entries) id =
    option_or (option_map one_further (spot_in entries id)) (spot_at_front id entry entries)

-- a spot is confirmed where it was, or where it is named now
abbrev pub marked_if : Bool → Spot → Spot
marked_if named spot = record spot { confirmed = spot.confirmed || named }

-- the spot where so many entries at the front are cut off
abbrev pub cut_by : ℕ → Spot → Option Spot
cut_by gone spot = if nat_lt spot.place gone then None else Some (record spot { place = spot.place - gone })

-- an index has the spot of each id
abbrev pub Indexes : {S : Type 0} → IndexMap ℕ Spot S → List Entry → Type 0
Indexes spots entries = (id : ℕ) → get nat_eq spots id ≡ spot_in entries id

-- what is recalled of an id where it was named since, or not
abbrev pub also : Bool → Recalled → Recalled
also named recalled = record recalled { confirmed = recalled.confirmed || named }

-- what the code recalls, as what is recalled
abbrev pub recalled_in : Recollection → Recalled
recalled_in recollection = record { answer = recollection.answer.now; confirmed = recollection.confirmed }

-- the firsts came in the order of their moments, and none after this moment
abbrev pub RiseTo : ℕ → List Entry → Type 0
RiseTo reached entries =
    AreInOrder (firsts_in entries) × All (λ (first : KeptFirst). first.moment ≤ reached) (firsts_in entries)

-- the fields of a history fit each other: what is gone stands in front of what is settled, which is what the index has; the
-- index has room for the rest; the firsts that are kept are counted, and their moments rise where it is known how far
pub record IsIndexed {S : Type 0} (entries : List Entry) (gone settled : ℕ) (spots : IndexMap ℕ Spot S) (firsts : ℕ)
    (reached : Option ℕ) : Type 0 where
  pub in_front : gone ≤ settled
  pub inside : settled ≤ length entries
  pub index : Indexes spots (take settled entries)
  pub room : length entries - settled ≤ spare spots
  pub counted : firsts ≡ length (firsts_in (drop gone entries))
  pub rising : (moment : ℕ) → reached ≡ Some moment → RiseTo moment entries
