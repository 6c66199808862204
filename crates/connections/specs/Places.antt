-- The places of a line's connections: each holds a connection or is free. Connections are found by their identifiers
-- (RFC 3435, 2.1.3).
use Rattle.std.specs.Prelude.{ℕ, Bool, true, false, ◌&&◌, ◌+◌, if◌then◌else◌, List, [], ◌∷◌, Option, Some, None}
use Rattle.mg_bytes.specs.Case.{same_but_case}
use Rattle.connections.specs.declared.connection.Connection.{Connection}
use Rattle.connections.specs.Numbers.{names_number}

abbrev pub is_free : Option Connection → Bool
is_free None = true
is_free (Some connection) = false

-- the connection is one of this call
abbrev pub is_of_call : List ℕ → Connection → Bool
is_of_call call connection = same_but_case connection.call call

-- it has this identifier
abbrev pub has_id : List ℕ → Connection → Bool
has_id id connection = names_number id connection.number

-- the place holds a connection of this call
abbrev pub holds_call : List ℕ → Option Connection → Bool
holds_call call None = false
holds_call call (Some connection) = is_of_call call connection

-- the place holds the connection with this identifier
abbrev pub holds_id : List ℕ → Option Connection → Bool
holds_id id None = false
holds_id id (Some connection) = has_id id connection

-- the place holds the connection of this call with this identifier
abbrev pub holds_both : List ℕ → List ℕ → Option Connection → Bool
holds_both call id None = false
holds_both call id (Some connection) = is_of_call call connection && has_id id connection

-- the first place of which this is so, counted on from this number
unfoldable pub place_from : ℕ → (Option Connection → Bool) → List (Option Connection) → Option ℕ
place_from place test [] = None
place_from place test (held ∷ more) = if test held then Some place else place_from (place + 1) test more

abbrev pub place_where : (Option Connection → Bool) → List (Option Connection) → Option ℕ
place_where test places = place_from 0 test places
