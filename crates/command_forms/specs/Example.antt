-- What the worked examples share.
use Rattle.std.specs.Prelude.{ℕ, Bool, true, false, List, [], ◌∷◌, ◌++◌, codes, Option, Some, None, option_map, Result, Ok, Err}
use Rattle.std.specs.declared.net.ipv4_addr.Ipv4Addr.{Ipv4Addr}
use Rattle.mgcp_text.specs.declared.message.Param.{Param}
use Rattle.mgcp_text.specs.Reading.{Outcome, message, no_header, bad_version, bad_body, read_text}
use Rattle.mgcp_text.specs.Confirmation.{k_of}
use Rattle.mgcp_text.specs.Message.{params_in}
use Rattle.endpoint_names.specs.declared.route.Route.TheVariants.{One as OnlyOne}
use Rattle.endpoint_names.specs.declared.entity.Entity.{Entity}
use Rattle.endpoint_names.specs.declared.names.Names.{Names}
use Rattle.packages.specs.declared.signal.Signal.{Signal}
use Rattle.digit_map.specs.declared.change.MapChange.{MapChange}
use Rattle.digit_map.specs.declared.change.MapChange.TheVariants.{Keep}
use Rattle.event_syntax.specs.declared.events.Events.{Events}
use Rattle.packages.specs.declared.handling.Handling.{Handling}
use Rattle.packages.specs.declared.handling.Notifying.{Notifying}
use Rattle.packages.specs.declared.handling.Notifying.TheVariants.{Step}
use Rattle.packages.specs.declared.handling.Quarantined.{Quarantined}
use Rattle.packages.specs.declared.handling.Quarantined.TheVariants.{Process}
use Rattle.event_syntax.specs.declared.request.Action.{Action}
use Rattle.event_syntax.specs.declared.request.RequestedEvent.{RequestedEvent}
use Rattle.event_syntax.specs.declared.request.Reaction.TheVariants.{Plain}
use Rattle.packages.specs.declared.signals.Setting.{Setting}
use Rattle.packages.specs.declared.signals.SignalRequest.{SignalRequest}
use Rattle.events_and_signals.specs.declared.request.Request.{Request}
use Rattle.events_and_signals.specs.Requests.{EventRequests, no_requests}
use Rattle.sdp_subset.specs.declared.session.Session.{Session}
use Rattle.connections.specs.declared.connection.Change.{Change}
use Rattle.connections.specs.declared.connection.Creation.{Creation}
use Rattle.connections.specs.declared.deletion.Deletion.{Deletion}
use Rattle.connections.specs.declared.deletion.Deletion.TheVariants as deletions
use Rattle.connections.specs.declared.mode.Mode.{Mode}
use Rattle.connections.specs.declared.mode.Mode.TheVariants.{ReceiveOnly}
use Rattle.connections.specs.declared.options.Options.{Options}
use Rattle.connections.specs.Options.{no_options}
use Rattle.command_forms.specs.declared.forms.Asks.{Asks}
use Rattle.command_forms.specs.declared.forms.Asks.TheVariants.{Reports, Does}
use Rattle.command_forms.specs.declared.forms.Audit.{Audit}
use Rattle.command_forms.specs.declared.forms.ConnectionDeed.{ConnectionDeed}
use Rattle.command_forms.specs.declared.forms.ConnectionDeed.TheVariants as deeds
use Rattle.command_forms.specs.declared.forms.Deed.{Deed}
use Rattle.command_forms.specs.declared.forms.AuditTarget.{AuditTarget}
use Rattle.command_forms.specs.declared.forms.AuditTarget.TheVariants as audits
use Rattle.command_forms.specs.declared.forms.Target.{Target}
use Rattle.command_forms.specs.declared.forms.Target.TheVariants.{One}
use Rattle.command_forms.specs.declared.verbs.Connecting.TheVariants.{Keeps}
use Rattle.command_forms.specs.declared.verbs.Purpose.TheVariants.{ForDeed}
use Rattle.command_forms.specs.declared.verbs.VerbRow.{VerbRow}
use Rattle.command_forms.specs.declared.verbs.Wildcard.TheVariants as wildcards
use Rattle.command_forms.specs.Order.{form_while_in, takes_memory_in}
use Rattle.command_forms.specs.Explaining.{explained_in, explanation_of}

-- 127.0.0.1
abbrev pub local_host : Ipv4Addr
local_host = record { octets = 127 ∷ 0 ∷ 0 ∷ 1 ∷ [] }

-- sixteen lines of rgw.example.net, which knows the host ca.example.net
abbrev pub gateway : Names
gateway = record {
  domain = codes "rgw.example.net";
  lines = 16;
  table = (record { name = codes "ca.example.net"; route = OnlyOne local_host }) ∷ [];
}

-- what is read, or the code, where a text is a message
abbrev pub Reply : Type 0
Reply = Option (Result Asks ℕ)

abbrev pub form_from : Bool → Outcome → Reply
form_from serves (message said) = Some (form_while_in serves said (k_of (params_in said)) gateway)
form_from serves no_header = None
form_from serves (bad_version id) = None
form_from serves (bad_body id) = None

-- whether it takes memory to judge a text
abbrev pub takes_from : Bool → Outcome → Bool
takes_from serves (message said) = takes_memory_in serves said (k_of (params_in said)) gateway
takes_from serves no_header = false
takes_from serves (bad_version id) = false
takes_from serves (bad_body id) = false

-- what a text asks of this gateway, which serves
abbrev pub reply_to : List ℕ → Reply
reply_to text = form_from true (read_text text)

-- a command of this verb, on this local name, with these lines
abbrev pub command_text : List ℕ → List ℕ → List ℕ → List ℕ
command_text verb local lines = verb ++ codes " 2001 " ++ local ++ codes "@rgw.example.net MGCP 1.0\r\n" ++ lines

abbrev pub command_on : List ℕ → List ℕ → List ℕ → Reply
command_on verb local lines = reply_to (command_text verb local lines)

-- whether it takes memory to judge such a command on line 1, of a gateway that serves or not
abbrev pub takes : Bool → List ℕ → List ℕ → Bool
takes serves verb lines = takes_from serves (read_text (command_text verb (codes "aaln/1") lines))

-- the same before the gateway serves
abbrev pub first_on : List ℕ → List ℕ → List ℕ → Reply
first_on verb local lines = form_from false (read_text (command_text verb local lines))

abbrev pub request_on : List ℕ → List ℕ → Reply
request_on local lines = command_on (codes "RQNT") local lines

abbrev pub audit_on : List ℕ → List ℕ → Reply
audit_on local lines = command_on (codes "AUEP") local lines

abbrev pub audit_connection_on : List ℕ → List ℕ → Reply
audit_connection_on local lines = command_on (codes "AUCX") local lines

-- on line 1
abbrev pub request : List ℕ → Reply
request lines = request_on (codes "aaln/1") lines

abbrev pub audit : List ℕ → Reply
audit lines = audit_on (codes "aaln/1") lines

abbrev pub audit_connection : List ℕ → Reply
audit_connection lines = audit_connection_on (codes "aaln/1") lines

-- on line 1 before the gateway serves
abbrev pub first : List ℕ → List ℕ → Reply
first verb lines = first_on verb (codes "aaln/1") lines

-- the code that it is refused with
abbrev pub refused : ℕ → Reply
refused code = Some (Err code)

-- how events are handled
abbrev pub handled : Notifying → Quarantined → Handling
handled notifying quarantined = record { notifying = notifying; quarantined = quarantined }

-- these entries of R and of T
abbrev pub looking_for : List RequestedEvent → List Events → EventRequests
looking_for requested detected = record { requested = requested; detected = detected }

-- what is requested with this identifier, and nothing more
abbrev pub only : List ℕ → Request
only identifier = record {
  identifier = identifier;
  events = no_requests;
  signals = [];
  handling = handled Step Process;
  map = Keep;
}

-- this is done on these lines
abbrev pub does_on : Target → Deed → Reply
does_on target deed = Some (Ok (Does target deed))

-- a deed that changes nothing
abbrev pub nothing : Deed
nothing = record { entity = None; encoding = None; connections = deeds.Keep; request = None }

-- this is requested of these lines
abbrev pub requests : Target → Request → Reply
requests target request = does_on target (record nothing { request = Some request })

-- a request on these lines, with this identifier, and nothing more
abbrev pub bare_request : Target → List ℕ → Reply
bare_request target identifier = requests target (only identifier)

-- the request 1 on line 1, which has nothing more than these signals, these entries of R or of T, this handling, or this
-- change of the digit map
abbrev pub request_for : List SignalRequest → Reply
request_for signals = requests (One 1) (record (only (codes "1")) { signals = signals })

abbrev pub request_at : List RequestedEvent → Reply
request_at requested = requests (One 1) (record (only (codes "1")) { events = looking_for requested [] })

abbrev pub request_meanwhile : List Events → Reply
request_meanwhile detected = requests (One 1) (record (only (codes "1")) { events = looking_for [] detected })

abbrev pub request_handling : Notifying → Quarantined → Reply
request_handling notifying quarantined = requests (One 1) (record (only (codes "1")) { handling = handled notifying quarantined })

abbrev pub request_changing : MapChange → Reply
request_changing map = requests (One 1) (record (only (codes "1")) { map = map })

-- this entity at 127.0.0.1 and this port
abbrev pub local_entity : List ℕ → ℕ → Entity
local_entity text port = record { text = text; route = OnlyOne (record { ip = local_host; port = port }) }

-- the entity `ca` of the host that is known, at the port that is meant where none is said
abbrev pub called_agent : Entity
called_agent = local_entity (codes "ca@ca.example.net") 2727

-- the request 1 on line 1, with this entity at 127.0.0.1 and this port
abbrev pub request_with : List ℕ → ℕ → Reply
request_with text port =
    does_on (One 1) (record nothing { entity = Some (local_entity text port); request = Some (only (codes "1")) })

-- the request 1 on line 1, and nothing more
abbrev pub taken : Reply
taken = bare_request (One 1) (codes "1")

-- an entry of R that does this, without K
abbrev pub does : Events → Action → RequestedEvent
does events action = record { events = events; reaction = Plain action; keep = false }

abbrev pub asks : Signal → Setting → SignalRequest
asks signal setting = record { signal = signal; setting = setting }

-- an audit of these lines, which asks for these items
abbrev pub audit_of : AuditTarget → List ℕ → Reply
audit_of target items = Some (Ok (Reports target (record { items = items; connection = None })))

-- an audit of this connection of line 1, which asks for these items
abbrev pub audit_of_connection : List ℕ → List ℕ → Reply
audit_of_connection identifier items =
    Some (Ok (Reports (audits.One 1) (record { items = items; connection = Some identifier })))

-- why a text is refused, where it is a message, as a line for people
abbrev pub why_from : Outcome → Option (List ℕ)
why_from (message said) = option_map explanation_of (explained_in said (k_of (params_in said)) gateway)
why_from no_header = None
why_from (bad_version id) = None
why_from (bad_body id) = None

abbrev pub why_on : List ℕ → List ℕ → List ℕ → Option (List ℕ)
why_on verb local lines = why_from (read_text (command_text verb local lines))

-- on line 1
abbrev pub why_request : List ℕ → Option (List ℕ)
why_request lines = why_on (codes "RQNT") (codes "aaln/1") lines

abbrev pub why_audit : List ℕ → Option (List ℕ)
why_audit lines = why_on (codes "AUEP") (codes "aaln/1") lines

abbrev pub why_audit_connection : List ℕ → Option (List ℕ)
why_audit_connection lines = why_on (codes "AUCX") (codes "aaln/1") lines

abbrev pub why_create : List ℕ → Option (List ℕ)
why_create lines = why_on (codes "CRCX") (codes "aaln/1") lines

abbrev pub why_modify : List ℕ → Option (List ℕ)
why_modify lines = why_on (codes "MDCX") (codes "aaln/1") lines

abbrev pub why_delete : List ℕ → Option (List ℕ)
why_delete lines = why_on (codes "DLCX") (codes "aaln/1") lines

-- The commands of connections

-- a command of this verb on line 1
abbrev pub configure : List ℕ → Reply
configure lines = command_on (codes "EPCF") (codes "aaln/1") lines

abbrev pub create : List ℕ → Reply
create lines = command_on (codes "CRCX") (codes "aaln/1") lines

abbrev pub modify : List ℕ → Reply
modify lines = command_on (codes "MDCX") (codes "aaln/1") lines

abbrev pub delete : List ℕ → Reply
delete lines = command_on (codes "DLCX") (codes "aaln/1") lines

-- the same, with what it must have before these lines
abbrev pub create_with : List ℕ → Reply
create_with lines = create (codes "C: 1A\r\nM: recvonly\r\n" ++ lines)

abbrev pub modify_with : List ℕ → Reply
modify_with lines = modify (codes "C: 1a\r\nI: 1\r\n" ++ lines)

-- a description of a stream at port 4000, and what it describes
abbrev pub described : List ℕ
described = codes "\r\nv=0\r\nc=IN IP4 127.0.0.1\r\nm=audio 4000 RTP/AVP 18 8\r\n"

abbrev pub session : Session
session = record { origin = None; address = local_host; port = 4000; payloads = 18 ∷ 8 ∷ []; ptime = None }

-- the same with these payload types
abbrev pub offering : List ℕ → Session
offering payloads = record session { payloads = payloads }

-- this becomes of the connections of these lines
abbrev pub connects_on : Target → ConnectionDeed → Reply
connects_on target connections = does_on target (record nothing { connections = connections })

abbrev pub connects : ConnectionDeed → Reply
connects connections = connects_on (One 1) connections

-- the creation of a connection of call 1A that only receives, and nothing more
abbrev pub receiver : Creation
receiver = record { call = codes "1A"; mode = ReceiveOnly; options = no_options; remote = None }

abbrev pub creates : Creation → Reply
creates creation = connects (deeds.Create creation)

abbrev pub creates_in : Mode → Reply
creates_in mode = creates (record receiver { mode = mode })

abbrev pub creates_asking : Options → Reply
creates_asking options = creates (record receiver { options = options })

abbrev pub created : Reply
created = creates receiver

-- a change of the connection 1 of call 1a, which says nothing, or this
abbrev pub no_change : Change
no_change = record { mode = None; options = None; remote = None }

abbrev pub modification : Change → ConnectionDeed
modification change = deeds.Modify (codes "1a") (codes "1") change

abbrev pub modifies : Change → Reply
modifies change = connects (modification change)

abbrev pub modified : Reply
modified = modifies no_change

abbrev pub deletes : Deletion → Reply
deletes deletion = connects (deeds.Delete deletion)

-- each deed with connections: none, one of each command, and the three deletions
abbrev pub all_deeds : List ConnectionDeed
all_deeds =
    deeds.Keep ∷ deeds.Create receiver ∷ modification no_change ∷ deeds.Delete deletions.All
    ∷ deeds.Delete (deletions.OfCall (codes "1A")) ∷ deeds.Delete (deletions.One (codes "1A") (codes "1")) ∷ []

-- a deed with these connections, and nothing more
abbrev pub connecting : ConnectionDeed → Deed
connecting connections = record nothing { connections = connections }

-- an audit that asks for these items
abbrev pub asking_for : List ℕ → Audit
asking_for items = record { items = items; connection = None }

-- an audit of the connection 1, which asks for no items
abbrev pub of_audited : Audit
of_audited = record { items = []; connection = Some (codes "1") }

-- a parameter
abbrev pub param : List ℕ → List ℕ → Param
param code value = record { code = code; value = value }

-- what stands in a command of call 1A with the mode recvonly, in one of its connection 1, and in one of the call alone
abbrev pub of_creation : List Param
of_creation = param (codes "c") (codes "1A") ∷ param (codes "M") (codes "recvonly") ∷ []

abbrev pub of_connection : List Param
of_connection = param (codes "C") (codes "1a") ∷ param (codes "I") (codes "1") ∷ []

abbrev pub of_call : List Param
of_call = param (codes "C") (codes "1A") ∷ []

-- I without C
abbrev pub connection_alone : List Param
connection_alone = (record { code = codes "I"; value = codes "1" }) ∷ []

-- an F, and a row whose commands have X alone
abbrev pub items_alone : List Param
items_alone = (record { code = codes "F"; value = codes "ES" }) ∷ []

abbrev pub of_identifier : VerbRow
of_identifier =
    record { must = codes "X"; may = []; wildcard = wildcards.Never; purpose = ForDeed Keeps }
