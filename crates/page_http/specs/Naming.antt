-- Further names under which a gateway may be asked whether it is well, and what was counted. That the port doesn't matter is this
-- program's profile: who asks from outside of a container names another.
use Rattle.std.specs.Prelude.{ℕ, Bool, not, ◌&&◌, ◌||◌, ◌==◌, if◌then◌else◌, List, [], ◌∷◌, ◌++◌, Option, Some, None}
use Rattle.std.specs.List.{list_all, list_any}
use Rattle.std.specs.Char.{is_ascii_alphanumeric}
use Rattle.mg_bytes.specs.Bytes.{colon, hyphen, full_stop}
use Rattle.mg_bytes.specs.Case.{same_but_case}
use Rattle.mg_bytes.specs.Items.{items_of}
use Rattle.mg_bytes.specs.Lists.{is_empty}
use Rattle.mg_bytes.specs.Words.{split_once}
use Rattle.page_http.specs.declared.host_names.HostNames.{HostNames}

abbrev pub names_of : HostNames → List (List ℕ)
names_of names = names.names.items

abbrev pub is_name_byte : ℕ → Bool
is_name_byte b = is_ascii_alphanumeric b || b == hyphen || b == full_stop

-- letters, digits, `-` and `.`: so an address is a name too
abbrev pub is_name : List ℕ → Bool
is_name text = not (is_empty text) && list_all is_name_byte text

-- the names that items say, behind these
unfoldable pub names_from : List (List ℕ) → List (List ℕ) → Option (List (List ℕ))
names_from names [] = Some names
names_from names (item ∷ items) = if is_name item then names_from (names ++ item ∷ []) items else None

-- names, which commas part
abbrev pub names_in : List ℕ → Option (List (List ℕ))
names_in text = names_from [] (items_of text)

abbrev pub name_before : List ℕ → Option (List ℕ × List ℕ) → List ℕ
name_before host None = host
name_before host (Some sides) = sides.0

-- a host's name, without its port
abbrev pub name_part : List ℕ → List ℕ
name_part host = name_before host (split_once colon host)

-- the host has one of these names, in any case
abbrev pub is_named : List (List ℕ) → List ℕ → Bool
is_named names host = list_any (λ name. same_but_case name (name_part host)) names
