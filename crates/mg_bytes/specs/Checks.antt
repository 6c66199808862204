-- Checks in an order: the first that applies gives the fault.
use Rattle.std.specs.Prelude.{Bool, true, false, List, [], ◌∷◌, Option, Some, None, Result, Err}

-- no fault where the test holds, else this one
abbrev pub unless : {F : Type 0} → Bool → F → Option F
unless true fault = None
unless false fault = Some fault

-- the first fault that a check gives
abbrev pub first_fault : {F : Type 0} → List (Option F) → Option F
first_fault [] = None
first_fault (None ∷ checks) = first_fault checks
first_fault (Some fault ∷ checks) = Some fault

-- what comes next, where a check gives no fault
abbrev pub checked : {A F : Type 0} → Option F → Result A F → Result A F
checked None next = next
checked (Some fault) next = Err fault

-- what comes next for a value that was found, or this fault where none was
abbrev pub given : {A B F : Type 0} → Option A → F → (A → Result B F) → Result B F
given None fault next = Err fault
given (Some found) fault next = next found
