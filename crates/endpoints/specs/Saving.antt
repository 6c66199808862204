-- Going back to what an event found.
use Rattle.std.specs.Prelude.{◌≡◌, ◌<◌, ◌≤◌, ◌+◌, ℕ, suc, Bool, true, false, ◌||◌, ◌==◌, List, [], ◌∷◌, ◌++◌, Option, Some, None, slice_set, slice_index_or, length, take}
use Rattle.std.specs.Option.{unwrap_or}
use Rattle.plain_machine.specs.declared.post.Post.{Post}
use Rattle.plain_machine.specs.declared.endpoint.Endpoint.{Endpoint}
use Rattle.plain_machine.specs.Machine.{Endpoints}
use Rattle.endpoints.specs.declared.saves.Saved.{Saved}

abbrev pub endpoints_of : List Endpoint → Post → Endpoints
endpoints_of list own = record { list = list; own = own }

-- all endpoints that were saved are put back, what was saved last first
unfoldable pub restored : List Saved → List Endpoint → List Endpoint
restored [] list = list
restored (saved ∷ more) list = slice_set (restored more list) saved.place saved.endpoint

-- and so is the post of the gateway itself, where that was saved
abbrev pub found_in : List Saved → Option Post → Endpoints → Endpoints
found_in saved own endpoints = endpoints_of (restored saved endpoints.list) (unwrap_or own endpoints.own)

-- the endpoint at this place is saved
unfoldable pub is_saved : ℕ → List Saved → Bool
is_saved place [] = false
is_saved place (saved ∷ more) = (saved.place == place) || is_saved place more

-- what is marked is saved
abbrev pub IsMarked : List Bool → List Saved → Type 0
IsMarked touched saved = (place : ℕ) → slice_index_or touched place false ≡ true → is_saved place saved ≡ true

-- a place is marked, if there is a mark for it
abbrev pub with_mark : ℕ → List Bool → List Bool
with_mark place marks = slice_set marks place true

-- the endpoint at this place, which is like this, is saved as well
pub record IsSavedToo (place : ℕ) (endpoint : Endpoint) (touched touched' : List Bool) (saved saved' : List Saved) : Type 0 where
  pub flags : length touched' ≡ length touched
  pub marked : IsMarked touched' saved'
  pub this : is_saved place saved' ≡ true
  pub same : (list : List Endpoint) → endpoint ≡ slice_index_or list place endpoint
      → restored saved' list ≡ restored saved list

-- at so many places the endpoint isn't saved
abbrev pub idle : List Bool → ℕ
idle [] = 0
idle (true ∷ touched) = idle touched
idle (false ∷ touched) = suc (idle touched)

-- there is room for saving each endpoint that isn't saved
abbrev pub HasRoom : ℕ → List Bool → ℕ → Type 0
HasRoom saved touched capacity = saved + idle touched ≤ capacity

-- What is saved, in slots that outlive an event

-- the endpoints that are saved, in the order of their first touch, and for how many there is room
pub record SavesState : Type 0 where
  pub list : List Saved
  pub room : ℕ

abbrev pub saved_at : ℕ → Endpoint → Saved
saved_at place endpoint = record { place = place; endpoint = endpoint }

-- one more is saved
abbrev pub with_saved : ℕ → Endpoint → SavesState → SavesState
with_saved place endpoint saves = record saves { list = saves.list ++ saved_at place endpoint ∷ [] }

-- what was saved last is taken out, where something is saved
abbrev pub Popped : Option Saved → List Saved → List Saved → Type 0
Popped None were are = (were ≡ []) × (are ≡ [])
Popped (Some last) were are = were ≡ are ++ last ∷ []

-- what was saved last, at this place, is saved no more
pub record IsForgotten (place : ℕ) (were are : List Saved) : Type 0 where
  pub last : Saved
  pub there : place ≡ last.place
  pub popped : were ≡ are ++ last ∷ []

abbrev pub Forgotten : Option ℕ → List Saved → List Saved → Type 0
Forgotten None were are = (were ≡ []) × (are ≡ [])
Forgotten (Some place) were are = IsForgotten place were are

-- of slots the first so many have what is saved: one more has this
pub record Fills (saved : Saved) (count : ℕ) (slots slots' : List Saved) : Type 0 where
  pub filled : take (count + 1) slots' ≡ take count slots ++ saved ∷ []
  pub within : count < length slots'

-- they have what they had
pub record LeavesFilled (count : ℕ) (slots slots' : List Saved) : Type 0 where
  pub filled : take count slots' ≡ take count slots
  pub within : count ≤ length slots'
