-- What is reported of a connection (RFC 3435, 2.3.11 and 3.2.2): its parameters, and its descriptions behind them (3.4).
use Rattle.std.specs.Prelude.{ℕ, ◌&&◌, if◌then◌else◌, codes, List, [], ◌∷◌, ◌++◌, Option, Some, None, Result, Ok, Err}
use Rattle.mgcp_text.specs.declared.message.Param.{Param}
use Rattle.mgcp_text.specs.Answer.{AnswerContent}
use Rattle.mg_bytes.specs.Lines.{crlf}
use Rattle.sdp_subset.specs.declared.session.Session.{Session}
use Rattle.sdp_subset.specs.Writing.{session_text}
use Rattle.connections.specs.declared.answer.Audited.{Audited}
use Rattle.connections.specs.declared.connection.Connection.{Connection}
use Rattle.connections.specs.Modes.{mode_text}
use Rattle.connections.specs.Options.{options_text}
use Rattle.connections.specs.Standing.{audited}
use Rattle.audits.specs.Endpoint.{AuditedEndpoint}
use Rattle.audits.specs.Fitting.{fitting}
use Rattle.audits.specs.Picking.{asks_for, picked}

-- the counts of packets, all 0, since this gateway has no media (ConnectionParameters)
abbrev pub counts_text : List ℕ
counts_text = codes "PS=0, OS=0, PR=0, OR=0, PL=0, JI=0, LA=0"

-- what is known of a connection, on a line with this notified entity: its call (C), its local list and packet time (L), its
-- mode (M), the entity (N), and the counts (P)
abbrev pub connection_params : List ℕ → Connection → List Param
connection_params entity connection =
    (record { code = codes "C"; value = connection.call })
    ∷ (record { code = codes "L"; value = options_text connection.codecs.local connection.options.packet_time })
    ∷ (record { code = codes "M"; value = mode_text connection.mode })
    ∷ (record { code = codes "N"; value = entity })
    ∷ (record { code = codes "P"; value = counts_text })
    ∷ []

-- RC: the remote description; one that isn't known is its first line alone (this gateway's profile)
abbrev pub remote_text : Option Session → List ℕ
remote_text None = codes "v=0\r\n"
remote_text (Some session) = session_text session

-- the descriptions that are asked for: the local one (LC), then the remote one (RC), with an empty line between them
unfoldable pub descriptions_text : Audited → List (List ℕ) → List ℕ
descriptions_text audited items =
    (if asks_for (codes "LC") items then session_text audited.description else [])
    ++ ((if asks_for (codes "LC") items && asks_for (codes "RC") items then crlf else [])
    ++ (if asks_for (codes "RC") items then remote_text audited.connection.remote else []))

-- the answer to an audit of a connection
abbrev pub report_from : ℕ → List ℕ → Result Audited ℕ → List (List ℕ) → Result AnswerContent ℕ
report_from id entity (Err code) items = Err code
report_from id entity (Ok audited) items = fitting id (record {
  code = 200;
  params = picked (connection_params entity audited.connection) items;
  body = descriptions_text audited items;
})

-- that of the connection of a line with this identifier, under this id; none is 515
unfoldable pub connection_report : ℕ → AuditedEndpoint → List ℕ → List (List ℕ) → Result AnswerContent ℕ
connection_report id endpoint connection items =
    report_from id endpoint.entity.text (audited connection endpoint.connections) items
