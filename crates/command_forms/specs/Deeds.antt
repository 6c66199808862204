-- What is to be done on a line: what becomes of its connections, and what is requested (RFC 3435, 2.3.2, 2.3.3,
-- 2.3.5 to 2.3.7 and 2.3.9). Values are judged in the order in which the steps stand here.
use Rattle.std.specs.Prelude.{ℕ, codes, List, Option, Some, None, Result, Ok}
use Rattle.std.specs.Option.{unwrap_or}
use Rattle.mgcp_text.specs.declared.message.Param.{Param}
use Rattle.mgcp_text.specs.Message.{param_at}
use Rattle.endpoint_names.specs.declared.table.Host.{Host}
use Rattle.event_syntax.specs.Requested.{requested_of}
use Rattle.event_syntax.specs.Detect.{detected_of}
use Rattle.packages.specs.Signals.{signals_of}
use Rattle.events_and_signals.specs.declared.request.Request.{Request}
use Rattle.events_and_signals.specs.Requests.{EventRequests}
use Rattle.sdp_subset.specs.declared.session.Session.{Session}
use Rattle.connections.specs.declared.connection.Creation.{Creation}
use Rattle.connections.specs.declared.deletion.Deletion.{Deletion}
use Rattle.connections.specs.declared.deletion.Deletion.TheVariants as deletions
use Rattle.connections.specs.Options.{options_of, no_options}
use Rattle.command_forms.specs.declared.forms.ConnectionDeed.{ConnectionDeed}
use Rattle.command_forms.specs.declared.forms.ConnectionDeed.TheVariants as deeds
use Rattle.command_forms.specs.declared.forms.Deed.{Deed}
use Rattle.command_forms.specs.declared.refused.FaultyPart.TheVariants.{Value, Description}
use Rattle.command_forms.specs.declared.refused.Refused.{Refused}
use Rattle.command_forms.specs.declared.verbs.Connecting.{Connecting}
use Rattle.command_forms.specs.declared.verbs.Connecting.TheVariants.{Keeps, Creates, Modifies, Deletes}
use Rattle.command_forms.specs.Refusing.{letter_b, letter_c, letter_d, letter_i, letter_l, letter_m, letter_n, letter_q}
use Rattle.mg_bytes.specs.Steps.{◌>>=◌}
use Rattle.command_forms.specs.Refusing.{letter_r, letter_s, letter_t, letter_x, placed}
use Rattle.command_forms.specs.Params.{value_at}
use Rattle.command_forms.specs.Values.{said_at, entity_at, encoding_from, identifier_from, mode_from, handling_at}
use Rattle.command_forms.specs.Values.{change_at, remote_of}

-- what is asked for about events, by R and T in this order; absent, both are empty lists
unfoldable pub events_of : List Param → Result EventRequests Refused
events_of params = do
  requested ← placed (Value letter_r) (requested_of (value_at (codes "R") params))
  detected ← placed (Value letter_t) (detected_of (value_at (codes "T") params))
  Ok (record { requested = requested; detected = detected })

-- what is requested with this identifier, by Q, D, R, T and S in this order; absent, S is an empty list
unfoldable pub request_of : List ℕ → List Param → Result Request Refused
request_of value params = do
  identifier ← placed (Value letter_x) (identifier_from value)
  handling ← placed (Value letter_q) (handling_at (param_at (codes "Q") params))
  map ← placed (Value letter_d) (change_at (param_at (codes "D") params))
  events ← events_of params
  signals ← placed (Value letter_s) (signals_of (value_at (codes "S") params))
  Ok (record {
    identifier = identifier;
    events = events;
    signals = signals;
    handling = handling;
    map = map;
  })

-- a request stands in a command exactly where X does (RFC 3435, 2.3.3)
abbrev pub request_at : Option Param → List Param → Result (Option Request) Refused
request_at None params = Ok None
request_at (Some param) params = request_of param.value params >>= λ request. Ok (Some request)

-- What becomes of connections, but for the remote description: one is created in the call C with the mode M, which both
-- must stand there, and with the options L or, where it is absent, those that stand for it (RFC 3435, 2.3.5)
unfoldable pub creation_of : List Param → Result Creation Refused
creation_of params = do
  call ← placed (Value letter_c) (identifier_from (value_at (codes "C") params))
  mode ← placed (Value letter_m) (mode_from (value_at (codes "M") params))
  options ← placed (Value letter_l) (said_at options_of (param_at (codes "L") params))
  Ok (record { call = call; mode = mode; options = unwrap_or options no_options; remote = None })

-- the connection I of the call C is modified, and both must stand there: its mode where M does, and its options where
-- L does (RFC 3435, 2.3.6)
unfoldable pub modification_of : List Param → Result ConnectionDeed Refused
modification_of params = do
  call ← placed (Value letter_c) (identifier_from (value_at (codes "C") params))
  id ← placed (Value letter_i) (identifier_from (value_at (codes "I") params))
  mode ← placed (Value letter_m) (said_at mode_from (param_at (codes "M") params))
  options ← placed (Value letter_l) (said_at options_of (param_at (codes "L") params))
  Ok (deeds.Modify call id (record { mode = mode; options = options; remote = None }))

-- deleted are that of a call and an identifier, those of a call, or all (RFC 3435, 2.3.7 and 2.3.9); where an
-- identifier stands there, so does its call
abbrev pub deletion_by : Option (List ℕ) → Option (List ℕ) → Deletion
deletion_by None id = deletions.All
deletion_by (Some call) None = deletions.OfCall call
deletion_by (Some call) (Some id) = deletions.One call id

unfoldable pub deletion_of : List Param → Result Deletion Refused
deletion_of params = do
  call ← placed (Value letter_c) (said_at identifier_from (param_at (codes "C") params))
  id ← placed (Value letter_i) (said_at identifier_from (param_at (codes "I") params))
  Ok (deletion_by call id)

-- what a deed does with connections
abbrev pub connected_by : Connecting → List Param → Result ConnectionDeed Refused
connected_by Keeps params = Ok deeds.Keep
connected_by Creates params = creation_of params >>= λ creation. Ok (deeds.Create creation)
connected_by Modifies params = modification_of params
connected_by Deletes params = deletion_of params >>= λ deletion. Ok (deeds.Delete deletion)

-- what is created or modified has it
abbrev pub with_remote : Option Session → ConnectionDeed → ConnectionDeed
with_remote remote deeds.Keep = deeds.Keep
with_remote remote (deeds.Create creation) = deeds.Create (record creation { remote = remote })
with_remote remote (deeds.Modify call id change) = deeds.Modify call id (record change { remote = remote })
with_remote remote (deeds.Delete deletion) = deeds.Delete deletion

-- what is to be done on a line by these parameters and this text: N and B first, then C, I, M and L, then X and what it
-- requests, and the text last
unfoldable pub deed_of : Connecting → List Param → List ℕ → List Host → Result Deed Refused
deed_of connecting params text hosts = do
  entity ← placed (Value letter_n) (entity_at hosts (param_at (codes "N") params))
  encoding ← placed (Value letter_b) (said_at encoding_from (param_at (codes "B") params))
  connections ← connected_by connecting params
  request ← request_at (param_at (codes "X") params) params
  remote ← placed Description (remote_of text)
  Ok (record {
    entity = entity;
    encoding = encoding;
    connections = with_remote remote connections;
    request = request;
  })
