-- The payload types of an audio stream (RFC 2327, 6; RFC 1889, 5.1). That there are at most 32 is this gateway's profile.
use Rattle.std.specs.Prelude.{ℕ, ◌&&◌, nat_le, nat_lt, Bool, if◌then◌else◌, List, [], ◌∷◌, ◌++◌, length, Option, Some, None}
use Rattle.std.specs.List.{list_all}

-- a payload type has seven bits
abbrev pub is_payload : ℕ → Bool
is_payload n = nat_le n 127

-- 1 to 32 payload types
unfoldable pub are_payloads : List ℕ → Bool
are_payloads list = nat_le 1 (length list) && nat_le (length list) 32 && list_all is_payload list

-- the list, if it is one of payload types
unfoldable pub payloads_from : List ℕ → Option (List ℕ)
payloads_from list = if are_payloads list then Some list else None

-- one more can be added
abbrev pub has_room : List ℕ → ℕ → Bool
has_room list payload = nat_lt (length list) 32 && is_payload payload

-- the list with one more at the end, if it can be added
abbrev pub with_payload : List ℕ → ℕ → List ℕ
with_payload list payload = if has_room list payload then list ++ payload ∷ [] else list
