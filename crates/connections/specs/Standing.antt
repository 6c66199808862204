-- The connections of a line, and what commands do to them (RFC 3435, 2.3.5 to 2.3.7, 2.3.9 and 2.3.11). This gateway's
-- profile: a line has four places, each with a port of its own; its connections are numbered from 1 on, and no number
-- is given again.
use Rattle.std.specs.Prelude.{ℕ, ⊤, Bool, true, false, ◌&&◌, ◌+◌, ◌*◌, nat_lt, is_some, if◌then◌else◌, List, [], ◌∷◌, map, get_or, set, replicate, Option, Some, None, Result, Ok, Err}
use Rattle.std.specs.List.{list_any}
use Rattle.std.specs.declared.net.ipv4_addr.Ipv4Addr.{Ipv4Addr}
use Rattle.mg_bytes.specs.Checks.{unless, first_fault, checked, given}
use Rattle.sdp_subset.specs.declared.session.Session.{Session}
use Rattle.connections.specs.declared.codec.Encoding.{Encoding}
use Rattle.connections.specs.declared.connection.Connection.{Connection}
use Rattle.connections.specs.declared.connection.Creation.{Creation}
use Rattle.connections.specs.declared.connection.Change.{Change}
use Rattle.connections.specs.declared.deletion.Deletion.{Deletion}
use Rattle.connections.specs.declared.deletion.Deletion.TheVariants.{All, OfCall, One}
use Rattle.connections.specs.declared.answer.Created.{Created}
use Rattle.connections.specs.declared.answer.Audited.{Audited}
use Rattle.connections.specs.Codecs.{payload_type, listed}
use Rattle.connections.specs.Numbers.{greatest}
use Rattle.connections.specs.Connection.{begun, renewed, is_changed}
use Rattle.connections.specs.Places.{is_free, is_of_call, has_id, holds_call, holds_id, holds_both, place_where}

-- where streams are received, from which port on; the number of the last connection; what each place holds
pub record Standing : Type 0 where
  pub address : Ipv4Addr
  pub port : ℕ
  pub last : ℕ
  pub places : List (Option Connection)

abbrev pub no_connections : Ipv4Addr → ℕ → Standing
no_connections address port = record { address = address; port = port; last = 0; places = replicate 4 None }

-- the local description of the connection at a place
abbrev pub described : Standing → ℕ → Connection → Session
described standing place connection = record {
  origin = Some (record { number = connection.number; version = connection.version });
  address = standing.address;
  port = standing.port + 2 * place;
  payloads = map payload_type (listed connection.codecs.in_force);
  ptime = Some connection.options.packet_time;
}

-- a connection comes to stand at a place
abbrev pub placed : Standing → ℕ → Connection → Standing
placed standing place connection = record standing { places = set standing.places place (Some connection) }

abbrev pub numbered : Standing → ℕ → Standing
numbered standing number = record standing { last = number }

-- what a command leaves, where it isn't refused, and what it answers
pub record Left (A : Type 0) : Type 0 where
  pub leaves : Standing
  pub answer : A

-- what stands then: as it was where the command is refused
abbrev pub left_by : {A : Type 0} → Standing → Result (Left A) ℕ → Standing
left_by was (Ok done) = done.leaves
left_by was (Err code) = was

abbrev pub answered_by : {A : Type 0} → Result (Left A) ℕ → Result A ℕ
answered_by (Ok done) = Ok done.answer
answered_by (Err code) = Err code

-- A connection is created (RFC 3435, 2.3.5)

abbrev pub created_done : Standing → ℕ → ℕ → Connection → Left Created
created_done standing place number connection = record {
  leaves = placed (numbered standing number) place connection;
  answer = record { number = number; description = described standing place connection };
}

abbrev pub created_from : Standing → ℕ → ℕ → Result Connection ℕ → Result (Left Created) ℕ
created_from standing place number (Ok connection) = Ok (created_done standing place number connection)
created_from standing place number (Err code) = Err code

-- at the least free place; none is 540, then no more numbers 502, then the faults of the connection
unfoldable pub created : Encoding → Creation → Standing → Result (Left Created) ℕ
created encoding creation standing =
    given (place_where is_free standing.places) 540 (λ place.
    checked (unless (nat_lt standing.last greatest) 502)
    (created_from standing place (standing.last + 1) (begun encoding creation (standing.last + 1))))

-- A connection is modified (2.3.6)

-- the place of the connection of this call with this identifier: no such call is 516, and no such connection of it 515
unfoldable pub place_of : List ℕ → List ℕ → List (Option Connection) → Result ℕ ℕ
place_of call id places =
    checked (unless (list_any (holds_call call) places) 516) (given (place_where (holds_both call id) places) 515 Ok)

-- the description, where it has changed
abbrev pub shown_if : Bool → Session → Option Session
shown_if true description = Some description
shown_if false description = None

abbrev pub modified_done : Standing → ℕ → Connection → Connection → Left (Option Session)
modified_done standing place was is = record {
  leaves = placed standing place is;
  answer = shown_if (is_changed was is.options is.codecs) (described standing place is);
}

abbrev pub modified_from : Standing → ℕ → Connection → Result Connection ℕ → Result (Left (Option Session)) ℕ
modified_from standing place was (Ok is) = Ok (modified_done standing place was is)
modified_from standing place was (Err code) = Err code

abbrev pub modified_held : Encoding → Change → Standing → ℕ → Option Connection → Result (Left (Option Session)) ℕ
modified_held encoding change standing place None = Err 515
modified_held encoding change standing place (Some was) = modified_from standing place was (renewed encoding change was)

abbrev pub modified_at : Encoding → Change → Standing → Result ℕ ℕ → Result (Left (Option Session)) ℕ
modified_at encoding change standing (Ok place) =
    modified_held encoding change standing place (get_or standing.places place None)
modified_at encoding change standing (Err code) = Err code

unfoldable pub modified : Encoding → List ℕ → List ℕ → Change → Standing → Result (Left (Option Session)) ℕ
modified encoding call id change standing = modified_at encoding change standing (place_of call id standing.places)

-- Connections are deleted (2.3.7, 2.3.9)

abbrev pub is_meant : Deletion → Connection → Bool
is_meant All connection = true
is_meant (OfCall call) connection = is_of_call call connection
is_meant (One call id) connection = is_of_call call connection && has_id id connection

-- the place holds a connection that is meant
abbrev pub is_emptied : Deletion → Option Connection → Bool
is_emptied deletion None = false
is_emptied deletion (Some connection) = is_meant deletion connection

-- what a place holds then
abbrev pub without : Deletion → Option Connection → Option Connection
without deletion held = if is_emptied deletion held then None else held

-- a call of which no connection stands is 516, and then a connection that isn't of it 515
abbrev pub refused : Deletion → List (Option Connection) → Option ℕ
refused All places = None
refused (OfCall call) places = unless (list_any (holds_call call) places) 516
refused (One call id) places = first_fault (unless (list_any (holds_call call) places) 516
    ∷ unless (is_some (place_where (holds_both call id) places)) 515 ∷ [])

unfoldable pub deleted : Deletion → Standing → Result Standing ℕ
deleted deletion standing =
    checked (refused deletion standing.places)
    (Ok (record standing { places = map (without deletion) standing.places }))

abbrev pub left_of : Standing → Result Standing ℕ → Standing
left_of was (Ok is) = is
left_of was (Err code) = was

abbrev pub whether : Result Standing ℕ → Result ⊤ ℕ
whether (Ok is) = Ok tt
whether (Err code) = Err code

-- A connection is audited (2.3.11)

abbrev pub audited_held : Standing → ℕ → Option Connection → Result Audited ℕ
audited_held standing place None = Err 515
audited_held standing place (Some connection) =
    Ok (record { connection = connection; description = described standing place connection })

-- the connection with this identifier, and its local description; none is 515
unfoldable pub audited : List ℕ → Standing → Result Audited ℕ
audited id standing =
    given (place_where (holds_id id) standing.places) 515 (λ place.
    audited_held standing place (get_or standing.places place None))
