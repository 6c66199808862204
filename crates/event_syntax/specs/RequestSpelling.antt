-- How the value of R is spelled (RFC 3435, 2.3.3 and appendix A): events with actions, one of which may embed a request.
use Rattle.std.specs.Prelude.{ℕ, zero, suc, nat_le, Bool, false, ◌&&◌, not, if◌then◌else◌, List, [], ◌∷◌, length, codes, count_by, Option, Some, None}
use Rattle.std.specs.List.{list_all}
use Rattle.mg_bytes.specs.Case.{same_but_case}
use Rattle.packages.specs.Cuts.{Form, form_of, items, entries}
use Rattle.packages.specs.Spelling.{is_word, are_parameters}
use Rattle.event_syntax.specs.EventSpelling.{is_event}
use Rattle.packages.specs.SignalSpelling.{are_signals}

-- Parts of an embedded request. `is_value` says how a value of R is spelled that stands in it.

-- `R(..)`, `S(..)` or `D(..)` with something between the parentheses; whether that is a digit map is no question of
-- spelling
abbrev pub is_part_in : (List ℕ → Bool) → List ℕ → List ℕ → Bool
is_part_in is_value name inside =
    nat_le 1 (length inside) &&
    (if same_but_case name (codes "R") then is_value inside else
    (if same_but_case name (codes "S") then are_signals inside else same_but_case name (codes "D")))

abbrev pub is_part_with : (List ℕ → Bool) → List ℕ → List (List ℕ) → Bool
is_part_with is_value name (inside ∷ []) = is_part_in is_value name inside
is_part_with is_value name _ = false

abbrev pub is_part_from : (List ℕ → Bool) → Option Form → Bool
is_part_from is_value None = false
is_part_from is_value (Some form) = is_part_with is_value form.head form.inside

unfoldable pub is_part : (List ℕ → Bool) → List ℕ → Bool
is_part is_value part = is_part_from is_value (form_of part)

abbrev pub is_called_from : List ℕ → Option Form → Bool
is_called_from name None = false
is_called_from name (Some form) = same_but_case form.head name

-- a part with this name
unfoldable pub is_called : List ℕ → List ℕ → Bool
is_called name part = is_called_from name (form_of part)

abbrev pub at_most_once : List ℕ → List (List ℕ) → Bool
at_most_once name parts = nat_le (count_by (is_called name) parts) 1

-- what stands in the parentheses of E: parts in any order, each at most once
abbrev pub are_parts : (List ℕ → Bool) → List (List ℕ) → Bool
are_parts is_value parts =
    list_all (is_part is_value) parts && at_most_once (codes "R") parts && at_most_once (codes "S") parts
    && at_most_once (codes "D") parts

-- Actions and entries

abbrev pub is_embed : List ℕ → Bool
is_embed name = same_but_case name (codes "E")

-- a word, or `E(..)`; E never stands without parentheses, and no other action with them
abbrev pub is_action_with : (List ℕ → Bool) → List ℕ → List (List ℕ) → Bool
is_action_with is_value name [] = is_word name && not (is_embed name)
is_action_with is_value name (inside ∷ []) = is_embed name && are_parts is_value (items inside)
is_action_with is_value name (first ∷ second ∷ rest) = false

abbrev pub is_action_from : (List ℕ → Bool) → Option Form → Bool
is_action_from is_value None = false
is_action_from is_value (Some form) = is_action_with is_value form.head form.inside

unfoldable pub is_action : (List ℕ → Bool) → List ℕ → Bool
is_action is_value action = is_action_from is_value (form_of action)

abbrev pub are_actions : (List ℕ → Bool) → List ℕ → Bool
are_actions is_value text = list_all (is_action is_value) (items text)

-- events, then optionally actions, then optionally parameters, each in parentheses
abbrev pub is_requested_with : (List ℕ → Bool) → List ℕ → List (List ℕ) → Bool
is_requested_with is_value name [] = is_event name
is_requested_with is_value name (actions ∷ []) = is_event name && are_actions is_value actions
is_requested_with is_value name (actions ∷ parameters ∷ rest) =
    is_event name && are_actions is_value actions && are_parameters parameters

abbrev pub is_requested_from : (List ℕ → Bool) → Option Form → Bool
is_requested_from is_value None = false
is_requested_from is_value (Some form) = is_requested_with is_value form.head form.inside

-- an entry
unfoldable pub is_requested : (List ℕ → Bool) → List ℕ → Bool
is_requested is_value entry = is_requested_from is_value (form_of entry)

-- a value in which requests are embedded in one another less than so many times
unfoldable pub are_requested_within : ℕ → List ℕ → Bool
are_requested_within zero value = false
are_requested_within (suc depth) value = list_all (is_requested (are_requested_within depth)) (entries value)

-- a value; what is embedded in it is shorter, so this is deep enough for any
unfoldable pub are_requested : List ℕ → Bool
are_requested value = are_requested_within (suc (length value)) value
