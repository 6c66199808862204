-- What is reported of a line (RFC 3435, 2.3.10 and 3.2.2). Lists have commas between their entries, and one that is empty,
-- or a digit map that isn't there, is an empty value (this gateway's profile).
use Rattle.std.specs.Prelude.{ℕ, codes, List, [], ◌∷◌, ◌++◌, map, Option, Some, None, Result}
use Rattle.std.specs.List.{join_with_byte}
use Rattle.mg_bytes.specs.Bytes.{comma}
use Rattle.mgcp_text.specs.declared.message.Param.{Param}
use Rattle.mgcp_text.specs.Answer.{AnswerContent}
use Rattle.packages.specs.declared.hook.Hook.{Hook}
use Rattle.packages.specs.declared.hook.Hook.TheVariants.{OnHook, OffHook}
use Rattle.packages.specs.Looking.{signal_name}
use Rattle.packages.specs.Handling.{handling_text}
use Rattle.packages.specs.Observed.{observed_text}
use Rattle.event_syntax.specs.Detect.{detected_text}
use Rattle.event_syntax.specs.Requested.{requested_text}
use Rattle.events_and_signals.specs.declared.active.ActiveSignal.{ActiveSignal}
use Rattle.connections.specs.declared.connection.Connection.{Connection}
use Rattle.connections.specs.Codecs.{encoding_text}
use Rattle.connections.specs.Numbers.{number_text}
use Rattle.mg_line.specs.Line.{LineState}
use Rattle.audits.specs.Endpoint.{AuditedEndpoint}
use Rattle.audits.specs.Fitting.{fitting}
use Rattle.audits.specs.Picking.{picked}

-- A: what this gateway can do: codecs, packet times in ms, packages and modes (Capabilities)
abbrev pub capabilities : List ℕ
capabilities = codes "a:PCMU;PCMA, p:10-30, v:L;G;D, m:sendonly;recvonly;sendrecv;confrnce;inactive"

-- ES: the event that says the hook state (EventStates)
abbrev pub hook_text : Hook → List ℕ
hook_text OnHook = codes "L/hu"
hook_text OffHook = codes "L/hd"

-- I: the identifiers of the connections, by their places
abbrev pub ids_at : List (Option Connection) → List (List ℕ)
ids_at [] = []
ids_at (None ∷ places) = ids_at places
ids_at (Some connection ∷ places) = number_text connection.number ∷ ids_at places

unfoldable pub ids_text : List (Option Connection) → List ℕ
ids_text places = join_with_byte comma (ids_at places)

-- S: the names of the active signals, in the order of the table
abbrev pub active_name : ActiveSignal → List ℕ
active_name active = signal_name active.signal

unfoldable pub active_text : List ActiveSignal → List ℕ
active_text signals = join_with_byte comma (map active_name signals)

-- D: the digit map
abbrev pub map_text : Option (List ℕ) → List ℕ
map_text None = []
map_text (Some text) = text

-- what the line is: what it can do, its encoding (B), its hook state, its connections, and its notified entity (N)
abbrev pub line_params : AuditedEndpoint → List Param
line_params endpoint =
    (record { code = codes "A"; value = capabilities })
    ∷ (record { code = codes "B"; value = encoding_text endpoint.encoding })
    ∷ (record { code = codes "ES"; value = hook_text endpoint.line.hook })
    ∷ (record { code = codes "I"; value = ids_text endpoint.connections.places })
    ∷ (record { code = codes "N"; value = endpoint.entity.text })
    ∷ []

-- what it was asked for, and what came of that: the digit map, the events that it would tell next (O), how quarantined events
-- are handled (Q), the events that are asked for (R), signals, the events that are looked for (T), and the identifier of the
-- request (X)
abbrev pub event_params : LineState → List Param
event_params line =
    (record { code = codes "D"; value = map_text line.digit_map })
    ∷ (record { code = codes "O"; value = observed_text line.accumulated })
    ∷ (record { code = codes "Q"; value = handling_text line.handling })
    ∷ (record { code = codes "R"; value = requested_text line.requests.requested })
    ∷ (record { code = codes "S"; value = active_text line.signals })
    ∷ (record { code = codes "T"; value = detected_text line.requests.detected })
    ∷ (record { code = codes "X"; value = line.identifier })
    ∷ []

-- all that is known of a line
abbrev pub endpoint_params : AuditedEndpoint → List Param
endpoint_params endpoint = line_params endpoint ++ event_params endpoint.line

-- the answer to an audit of a line under this id, which asks for these items
unfoldable pub endpoint_report : ℕ → AuditedEndpoint → List (List ℕ) → Result AnswerContent ℕ
endpoint_report id endpoint items =
    fitting id (record { code = 200; params = picked (endpoint_params endpoint) items; body = [] })
