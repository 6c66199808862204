-- The datagrams that texts go out in (RFC 3435, 3.5.5: a line of text that contains a single dot separates messages).
use Rattle.std.specs.Prelude.{◌≡◌, ℕ, ◌-◌, ◌<◌, ◌≤◌, ◌&&◌, not, nat_le, Bool, All, slice_index, if◌then◌else◌, List, [], ◌∷◌, ◌++◌, length, map, take}
use Rattle.std.specs.List.{flat_map}
use Rattle.mg_bytes.specs.Bytes.{full_stop, carriage_return, line_feed}
use Rattle.mg_bytes.specs.Lines.{is_line_feed}
use Rattle.mgcp_text.specs.Parts.{has_dot_line}

-- the line of a single dot, as it is written
abbrev pub dot_line : List ℕ
dot_line = full_stop ∷ carriage_return ∷ line_feed ∷ []

-- a datagram with one more text, behind a dot line
abbrev pub with_text : List ℕ → List ℕ → List ℕ
with_text begun text = begun ++ (dot_line ++ text)

-- with this text too the datagram is at most max long
abbrev pub has_room : ℕ → List ℕ → List ℕ → Bool
has_room max begun text = nat_le (length (with_text begun text)) max

-- the datagrams, where one is begun: the next text goes into it if it has room, and else begins a new one
unfoldable pub packed_behind : ℕ → List ℕ → List (List ℕ) → List (List ℕ)
packed_behind max begun [] = begun ∷ []
packed_behind max begun (text ∷ texts) =
    if has_room max begun text then packed_behind max (with_text begun text) texts
    else begun ∷ packed_behind max text texts

-- the datagrams of these texts
abbrev pub packed : ℕ → List (List ℕ) → List (List ℕ)
packed max [] = []
packed max (text ∷ texts) = packed_behind max text texts

-- the last byte is a line feed, so there is one
abbrev pub ends_in_line_feed : List ℕ → Bool
ends_in_line_feed text = is_line_feed (slice_index text (length text - 1))

-- the text can share a datagram: it ends in a line end, has no dot line, and is at most max long
abbrev pub is_joinable : ℕ → List ℕ → Bool
is_joinable max text = ends_in_line_feed text && not (has_dot_line text) && nat_le (length text) max

-- datagrams with one more text: it goes into the last of them if that has room, and else begins a new one
abbrev pub with_next : ℕ → List (List ℕ) → List ℕ → List (List ℕ)
with_next max [] text = text ∷ []
with_next max (last ∷ []) text = if has_room max last text then with_text last text ∷ [] else last ∷ text ∷ []
with_next max (datagram ∷ next ∷ datagrams) text = datagram ∷ with_next max (next ∷ datagrams) text

-- The same as a relation

-- the texts in one datagram: the first, and each further one behind a dot line
abbrev pub joined : List (List ℕ) → List ℕ
joined [] = []
joined (text ∷ texts) = text ++ flat_map (λ next. dot_line ++ next) texts

-- with the first text of the next group, each group but the last would make a datagram longer than max
abbrev pub EachIsFull : ℕ → List (List (List ℕ)) → Type 0
EachIsFull max [] = Unit {0}
EachIsFull max (group ∷ []) = Unit {0}
EachIsFull max (group ∷ next ∷ groups) =
    (max < length (joined (group ++ take 1 next))) × EachIsFull max (next ∷ groups)

-- the datagrams that texts are packed into: the texts fall into groups, in order and none of them empty; each datagram
-- is a group joined by dot lines and at most max long; and a new one begins only where the next text had no room
pub record IsPackedInto (max : ℕ) (texts datagrams : List (List ℕ)) : Type 0 where
  pub groups : List (List (List ℕ))
  pub in_order : flat_map (λ group. group) groups ≡ texts
  pub none_empty : All (λ group. 0 < length group) groups
  pub each_joined : datagrams ≡ map joined groups
  pub within : All (λ datagram. length datagram ≤ max) datagrams
  pub full : EachIsFull max groups
