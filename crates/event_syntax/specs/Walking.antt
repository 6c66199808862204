-- A value of R gone through from front to back: what the rest of it has to be, wherever the walk stands.
use Rattle.std.specs.Prelude.{ℕ, zero, suc, length, nat_le, Bool, true, false, ◌&&◌, ◌||◌, not, ◌==◌, if◌then◌else◌, List, [], ◌∷◌, ◌++◌, map, codes, count_by, Option, Some, None}
use Rattle.std.specs.List.{list_all}
use Rattle.std.specs.Borrow.{Bor}
use Rattle.mg_bytes.specs.Bytes.{comma, left_parenthesis, right_parenthesis}
use Rattle.mg_bytes.specs.Case.{same_but_case}
use Rattle.mg_bytes.specs.Blanks.{trimmed}
use Rattle.packages.specs.declared.cut.Cut.TheVariants.{Commas, Parentheses}
use Rattle.mg_bytes.specs.Lists.{is_empty}
use Rattle.packages.specs.Cuts.{deeper, pieces}
use Rattle.packages.specs.Spelling.{is_word, are_parameters}
use Rattle.packages.specs.SignalSpelling.{are_signals}
use Rattle.event_syntax.specs.EventSpelling.{is_event}
use Rattle.event_syntax.specs.RequestSpelling.{is_embed, is_part, is_called, is_action, is_requested, are_requested_within}
use Rattle.event_syntax.specs.declared.walk.Seen.{Seen}
use Rattle.event_syntax.specs.declared.walk.Mark.{Mark}
use Rattle.event_syntax.specs.declared.walk.Mark.TheVariants.{End, Comma, Opening, Closing}
use Rattle.event_syntax.specs.declared.walk.Outer.{Outer}
use Rattle.event_syntax.specs.declared.walk.WalkStep.{WalkStep}
use Rattle.event_syntax.specs.declared.walk.WalkStep.TheVariants.{Wrong, Ends, On, Into, Out}
use Rattle.event_syntax.specs.declared.walk.Stand.{Stand}
use Rattle.event_syntax.specs.declared.walk.Stand.TheVariants.{Entry, BehindActions, BehindParameters, Action, BehindEmbedded, Part, BehindPart}

abbrev pub with_byte : ℕ → Option (List ℕ × List ℕ) → Option (List ℕ × List ℕ)
with_byte b None = None
with_byte b (Some sides) = Some (b ∷ sides.0, sides.1)

-- what stands before the parenthesis that closes a text which stands so deep, and what stands behind it
unfoldable pub closing : ℕ → List ℕ → Option (List ℕ × List ℕ)
closing depth [] = None
closing depth (b ∷ bs) =
    if b == right_parenthesis && depth == 0 then Some ([], bs) else with_byte b (closing (deeper depth b) bs)

-- the first piece and the others
abbrev pub by_pieces : (List ℕ → List (List ℕ) → Bool) → List (List ℕ) → Bool
by_pieces is_spelled [] = false
by_pieces is_spelled (piece ∷ rest) = is_spelled piece rest

abbrev pub inside_is : (List ℕ → List (List ℕ) → Bool) → List ℕ → Bool
inside_is is_spelled inside = by_pieces is_spelled (pieces Commas 0 inside)

abbrev pub by_closing : (List ℕ → List (List ℕ) → Bool) → (List ℕ → Bool) → Option (List ℕ × List ℕ) → Bool
by_closing is_spelled goes_on None = false
by_closing is_spelled goes_on (Some sides) = inside_is is_spelled sides.0 && goes_on sides.1

-- what is left of a list: up to the parenthesis that closes it, or all
abbrev pub left : (List ℕ → List (List ℕ) → Bool) → Option (List ℕ → Bool) → List ℕ → Bool
left is_spelled None text = inside_is is_spelled text
left is_spelled (Some goes_on) text = by_closing is_spelled goes_on (closing 0 text)

-- What is left where the walk stands. The pieces are as they stand in the text, with the blanks round them.

-- a text between two pairs of parentheses, or behind the last
abbrev pub is_bare : List (List ℕ) → Bool
is_bare (blank ∷ []) = is_empty blank
is_bare _ = false

-- what stands behind the actions of an entry: nothing, or parameters
abbrev pub has_parameters : List (List ℕ) → Bool
has_parameters (blank ∷ []) = is_empty blank
has_parameters (blank ∷ parameters ∷ behind) = is_empty blank && (are_parameters parameters && is_bare behind)
has_parameters _ = false

abbrev pub parted : List ℕ → List (List ℕ)
parted text = map trimmed (pieces Parentheses 0 text)

-- how often a part may come that has come or not
abbrev pub most_of : Bool → ℕ
most_of has_come = if has_come then 0 else 1

-- the parts that are left, where some have come
abbrev pub are_parts_after : (List ℕ → Bool) → Seen → List (List ℕ) → Bool
are_parts_after is_value seen parts =
    list_all (is_part is_value) parts && nat_le (count_by (is_called (codes "R")) parts) (most_of seen.events)
    && nat_le (count_by (is_called (codes "S")) parts) (most_of seen.signals)
    && nat_le (count_by (is_called (codes "D")) parts) (most_of seen.map)

abbrev pub nothing_seen : Seen
nothing_seen = record { events = false; signals = false; map = false }

abbrev pub spelled_at : Stand → ℕ → List ℕ → List (List ℕ) → Bool
spelled_at Entry depth piece rest = list_all (is_requested (are_requested_within depth)) (trimmed piece ∷ map trimmed rest)
spelled_at BehindActions depth piece rest =
    has_parameters (parted piece) && list_all (is_requested (are_requested_within depth)) (map trimmed rest)
spelled_at BehindParameters depth piece rest =
    is_bare (parted piece) && list_all (is_requested (are_requested_within depth)) (map trimmed rest)
spelled_at Action depth piece rest = list_all (is_action (are_requested_within depth)) (trimmed piece ∷ map trimmed rest)
spelled_at BehindEmbedded depth piece rest =
    is_bare (parted piece) && list_all (is_action (are_requested_within depth)) (map trimmed rest)
spelled_at (Part seen) depth piece rest = are_parts_after (are_requested_within depth) seen (trimmed piece ∷ map trimmed rest)
spelled_at (BehindPart seen) depth piece rest =
    is_bare (parted piece) && are_parts_after (are_requested_within depth) seen (map trimmed rest)

-- behind the parenthesis that closes the actions of an entry, and behind the one that closes what E holds
abbrev pub closes_actions : ℕ → Option (List ℕ → Bool) → List ℕ → Bool
closes_actions depth outside = left (spelled_at BehindActions depth) outside

abbrev pub closes_embedded : ℕ → Option (List ℕ → Bool) → List ℕ → Bool
closes_embedded depth outside = left (spelled_at BehindEmbedded depth) (Some (closes_actions depth outside))

-- behind the one that closes a value, by the requests in which it is embedded
unfoldable pub closes_value : List Outer → Option (List ℕ → Bool)
closes_value [] = None
closes_value (outer ∷ more) =
    Some (left (spelled_at (BehindPart outer.seen) outer.depth) (Some (closes_embedded outer.depth (closes_value more))))

abbrev pub goes_on : Stand → ℕ → List Outer → Option (List ℕ → Bool)
goes_on Entry depth outers = closes_value outers
goes_on BehindActions depth outers = closes_value outers
goes_on BehindParameters depth outers = closes_value outers
goes_on Action depth outers = Some (closes_actions depth (closes_value outers))
goes_on BehindEmbedded depth outers = Some (closes_actions depth (closes_value outers))
goes_on (Part seen) depth outers = Some (closes_embedded depth (closes_value outers))
goes_on (BehindPart seen) depth outers = Some (closes_embedded depth (closes_value outers))

unfoldable pub is_left : Stand → ℕ → List Outer → List ℕ → Bool
is_left stand depth outers text = left (spelled_at stand depth) (goes_on stand depth outers) text

-- a byte of a name: no comma, and no parenthesis but one that closes nothing
abbrev pub is_free_byte : Bool → ℕ → Bool
is_free_byte nested b = not (b == comma || b == left_parenthesis || (nested && b == right_parenthesis))

abbrev pub is_inner : Option (List ℕ → Bool) → Bool
is_inner None = false
is_inner (Some goes_on) = true

-- What one name and the mark behind it lead to

-- the mark behind a name; what is behind the mark stands beside it
abbrev pub marked : Mark → List ℕ → List ℕ
marked End rest = []
marked Comma rest = comma ∷ rest
marked Opening rest = left_parenthesis ∷ rest
marked Closing rest = right_parenthesis ∷ rest

pub data Stepped : Type 0 where
  -- the value isn't spelled
  wrong : Stepped
  -- it ends here
  ends : Stepped
  -- the same list goes on, or one in it begins or ends
  on : (stand : Stand) (rest : List ℕ) → Stepped
  -- an embedded value begins
  into : (seen : Seen) (rest : List ℕ) → Stepped
  -- it ends
  out : (rest : List ℕ) → Stepped

abbrev pub entry_stepped : Mark → List ℕ → Stepped
entry_stepped End rest = ends
entry_stepped Comma rest = on Entry rest
entry_stepped Opening rest = on Action rest
entry_stepped Closing rest = out rest

abbrev pub behind_parameters : Option (List ℕ × List ℕ) → Stepped
behind_parameters None = wrong
behind_parameters (Some sides) = if are_parameters (trimmed sides.0) then on BehindParameters sides.1 else wrong

abbrev pub behind_actions_stepped : Mark → List ℕ → Stepped
behind_actions_stepped End rest = ends
behind_actions_stepped Comma rest = on Entry rest
behind_actions_stepped Opening rest = behind_parameters (closing 0 rest)
behind_actions_stepped Closing rest = out rest

abbrev pub behind_parameters_stepped : Mark → List ℕ → Stepped
behind_parameters_stepped End rest = ends
behind_parameters_stepped Comma rest = on Entry rest
behind_parameters_stepped Opening rest = wrong
behind_parameters_stepped Closing rest = out rest

abbrev pub is_plain_action : List ℕ → Bool
is_plain_action name = is_word name && not (is_embed name)

abbrev pub action_stepped : List ℕ → Mark → List ℕ → Stepped
action_stepped name End rest = wrong
action_stepped name Comma rest = if is_plain_action name then on Action rest else wrong
action_stepped name Opening rest = if is_embed name then on (Part nothing_seen) rest else wrong
action_stepped name Closing rest = if is_plain_action name then on BehindActions rest else wrong

abbrev pub behind_embedded_stepped : Mark → List ℕ → Stepped
behind_embedded_stepped End rest = wrong
behind_embedded_stepped Comma rest = on Action rest
behind_embedded_stepped Opening rest = wrong
behind_embedded_stepped Closing rest = on BehindActions rest

abbrev pub behind_signals : Seen → Option (List ℕ × List ℕ) → Stepped
behind_signals seen None = wrong
behind_signals seen (Some sides) =
    if nat_le 1 (length (trimmed sides.0)) && are_signals (trimmed sides.0)
    then on (BehindPart (record seen { signals = true })) sides.1 else wrong

abbrev pub behind_map : Seen → Option (List ℕ × List ℕ) → Stepped
behind_map seen None = wrong
behind_map seen (Some sides) =
    if nat_le 1 (length (trimmed sides.0)) then on (BehindPart (record seen { map = true })) sides.1 else wrong

abbrev pub part_opened : Seen → List ℕ → List ℕ → Stepped
part_opened seen name rest =
    if same_but_case name (codes "R") then (if seen.events then wrong else into (record seen { events = true }) rest) else
    (if same_but_case name (codes "S") then (if seen.signals then wrong else behind_signals seen (closing 0 rest)) else
    (if same_but_case name (codes "D") then (if seen.map then wrong else behind_map seen (closing 0 rest)) else wrong))

abbrev pub part_stepped : Seen → List ℕ → Mark → List ℕ → Stepped
part_stepped seen name End rest = wrong
part_stepped seen name Comma rest = wrong
part_stepped seen name Opening rest = part_opened seen name rest
part_stepped seen name Closing rest = wrong

abbrev pub behind_part_stepped : Seen → Mark → List ℕ → Stepped
behind_part_stepped seen End rest = wrong
behind_part_stepped seen Comma rest = on (Part seen) rest
behind_part_stepped seen Opening rest = wrong
behind_part_stepped seen Closing rest = on BehindEmbedded rest

-- by the name, without the blanks round it
unfoldable pub stepped : Stand → List ℕ → Mark → List ℕ → Stepped
stepped Entry name mark rest = if is_event name then entry_stepped mark rest else wrong
stepped BehindActions name mark rest = if is_empty name then behind_actions_stepped mark rest else wrong
stepped BehindParameters name mark rest = if is_empty name then behind_parameters_stepped mark rest else wrong
stepped Action name mark rest = action_stepped name mark rest
stepped BehindEmbedded name mark rest = if is_empty name then behind_embedded_stepped mark rest else wrong
stepped (Part seen) name mark rest = part_stepped seen name mark rest
stepped (BehindPart seen) name mark rest = if is_empty name then behind_part_stepped seen mark rest else wrong

-- what is left behind such a step

abbrev pub is_left_into : Seen → ℕ → List Outer → List ℕ → Bool
is_left_into seen zero outers rest = false
is_left_into seen (suc depth) outers rest = is_left Entry depth (record { seen = seen; depth = suc depth } ∷ outers) rest

abbrev pub is_left_out : List Outer → List ℕ → Bool
is_left_out [] rest = false
is_left_out (outer ∷ outers) rest = is_left (BehindPart outer.seen) outer.depth outers rest

abbrev pub is_outermost : List Outer → Bool
is_outermost [] = true
is_outermost (outer ∷ outers) = false

abbrev pub is_left_by : ℕ → List Outer → Stepped → Bool
is_left_by depth outers wrong = false
is_left_by depth outers ends = is_outermost outers
is_left_by depth outers (on stand rest) = is_left stand depth outers rest
is_left_by depth outers (into seen rest) = is_left_into seen depth outers rest
is_left_by depth outers (out rest) = is_left_out outers rest

-- Whether a walk may come to a value that is embedded: one of the names between the marks is `R`, and a parenthesis opens
-- behind it. Beside the text stands what has been seen of a name.
unfoldable pub holds_events : List ℕ → List ℕ → Bool
holds_events name [] = false
holds_events name (b ∷ bs) =
    if b == left_parenthesis then same_but_case (trimmed name) (codes "R") || holds_events [] bs else
    (if b == comma || b == right_parenthesis then holds_events [] bs else holds_events (name ++ b ∷ []) bs)

-- the same behind a step; one into an embedded value comes to it
abbrev pub holds_events_behind : Stepped → Bool
holds_events_behind wrong = false
holds_events_behind ends = false
holds_events_behind (on stand rest) = holds_events [] rest
holds_events_behind (into seen rest) = true
holds_events_behind (out rest) = holds_events [] rest

-- a parenthesis closes something only where something is open
abbrev pub is_mark : Bool → Mark → Bool
is_mark nested Closing = nested
is_mark nested _ = true

-- The same of what the code holds

-- what a byte behind a name is
abbrev pub mark_of : Bool → ℕ → Option Mark
mark_of nested b =
    if b == comma then Some Comma else
    (if b == left_parenthesis then Some Opening else (if nested && b == right_parenthesis then Some Closing else None))

abbrev pub split_seen : Option (Bor (List ℕ) × Bor (List ℕ)) → Option (List ℕ × List ℕ)
split_seen None = None
split_seen (Some sides) = Some (sides.0.now, sides.1.now)

abbrev pub step_seen : WalkStep → Stepped
step_seen Wrong = wrong
step_seen Ends = ends
step_seen (On stand rest) = on stand rest.now
step_seen (Into seen rest) = into seen rest.now
step_seen (Out rest) = out rest.now

-- whether a walk stands in parentheses
abbrev pub nested_at : Stand → Bool → Bool
nested_at Entry outermost = not outermost
nested_at BehindActions outermost = not outermost
nested_at BehindParameters outermost = not outermost
nested_at _ outermost = true
