-- What an endpoint has of which all reports can be written, and what an answer has that can be written. Laws alone speak of
-- these.
use Rattle.std.specs.Prelude.{◌≡◌, ◌≤◌, ◌+◌, ◌*◌, ℕ, true, false, IfSome, length, Option}
use Rattle.std.specs.List.{AllByRecursion, list_all, list_any}
use Rattle.mg_bytes.specs.Blanks.{is_blank}
use Rattle.mg_bytes.specs.Lines.{is_line_feed}
use Rattle.mg_bytes.specs.Numbers.{is_hex_text}
use Rattle.mgcp_text.specs.Answer.{AnswerContent, response_of}
use Rattle.mgcp_text.specs.Writing.{written, is_writable_param, is_writable_body}
use Rattle.event_syntax.specs.Requested.{is_spelled_map, all_maps_are_spelled}
use Rattle.sdp_subset.specs.Writing.{IsSession}
use Rattle.connections.specs.declared.connection.Connection.{Connection}
use Rattle.connections.specs.Standing.{Standing}
use Rattle.audits.specs.Endpoint.{AuditedEndpoint}
use Rattle.transmission.specs.Texts.{largest_datagram}

-- a connection: its call is spelled as an identifier, and its remote description is a session
pub record IsShowableConnection (connection : Connection) : Type 0 where
  pub call : is_hex_text connection.call ≡ true
  pub remote : IfSome connection.remote IsSession

abbrev pub IsShowablePlace : Option Connection → Type 0
IsShowablePlace held = IfSome held IsShowableConnection

-- streams are received at an address of four octets, at each place at a port
pub record HasStreams (standing : Standing) : Type 0 where
  pub four : length standing.address.octets ≡ 4
  pub each : AllByRecursion (λ octet. octet ≤ 255) standing.address.octets
  pub ports : standing.port + 2 * length standing.places ≤ 65535

-- the entity is a word, the request's identifier and the maps are spelled as such, and so are the connections
pub record IsShowable (endpoint : AuditedEndpoint) : Type 0 where
  pub entity_blankless : list_any is_blank endpoint.entity.text ≡ false
  pub entity_in_line : list_any is_line_feed endpoint.entity.text ≡ false
  pub identifier : is_hex_text endpoint.line.identifier ≡ true
  pub map : is_spelled_map endpoint.line.digit_map ≡ true
  pub requested : all_maps_are_spelled endpoint.line.requests.requested ≡ true
  pub streams : HasStreams endpoint.connections
  pub places : AllByRecursion IsShowablePlace endpoint.connections.places

-- the answer under this id can be written, and fits into a datagram (RFC 3435, 3.3, 3.5.4 and 3.5.5)
pub record CanBeWritten (id : ℕ) (answer : AnswerContent) : Type 0 where
  pub three_digits : answer.code ≤ 999
  pub each : list_all is_writable_param answer.params ≡ true
  pub whole : is_writable_body answer.body ≡ true
  pub short : length (written (response_of id answer)) ≤ largest_datagram
