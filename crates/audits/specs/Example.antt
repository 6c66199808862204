-- What the worked examples speak of.
use Rattle.std.specs.Prelude.{ℕ, List, [], ◌∷◌, ◌++◌, replicate, codes, length, Option, Some, Result, Ok, Err}
use Rattle.mg_bytes.specs.Items.{items_of}
use Rattle.mgcp_text.specs.Answer.{AnswerContent, response_of}
use Rattle.mgcp_text.specs.Writing.{written}
use Rattle.packages.specs.declared.hook.Hook.TheVariants.{OffHook}
use Rattle.packages.specs.declared.signal.Signal.TheVariants.{DialTone, MessageWaiting}
use Rattle.packages.specs.declared.handling.Notifying.TheVariants.{Loop}
use Rattle.packages.specs.declared.handling.Quarantined.TheVariants.{Discard}
use Rattle.events_and_signals.specs.SignalExample.{until, endless}
use Rattle.endpoint_names.specs.declared.route.Route.TheVariants.{One}
use Rattle.endpoint_names.specs.declared.entity.Entity.{Entity}
use Rattle.endpoint_names.specs.RouteExample.{local_address}
use Rattle.connections.specs.declared.codec.Encoding.TheVariants.{Mu, A}
use Rattle.connections.specs.declared.connection.Connection.{Connection}
use Rattle.connections.specs.Example.{line, with_one, first_connection}
use Rattle.mg_line.specs.Line.{opening_line}
use Rattle.mg_line.specs.Example.{lifted as off_hook, one_pressed, asked}
use Rattle.audits.specs.Endpoint.{AuditedEndpoint}
use Rattle.audits.specs.EndpointReport.{endpoint_report}
use Rattle.audits.specs.ConnectionReport.{connection_report}

abbrev pub agent : Entity
agent = record { text = codes "ca@ca.example.net"; route = One (record { ip = local_address 1; port = 2727 }) }

-- a line as it opens, with encoding mu and no connections
abbrev pub opening : AuditedEndpoint
opening = record { line = opening_line; entity = agent; encoding = Mu; connections = line }

-- a line off hook with two signals, which was asked for something of each kind and has accumulated two events
abbrev pub lifted : AuditedEndpoint
lifted = record opening {
  line = record opening_line {
    hook = OffHook;
    signals = until 17000 DialTone ∷ endless MessageWaiting ∷ [];
    identifier = codes "1aB";
    requests = asked (codes "l/HU(n), D/[0-9T](d)") (codes "l/all,G/oc");
    handling = record { notifying = Loop; quarantined = Discard };
    digit_map = Some (codes "(12T|34)");
    accumulated = off_hook ∷ one_pressed ∷ [];
  };
  entity = record agent { text = codes "Me@[127.0.0.1]:2728" };
  encoding = A;
}

-- a line that was asked for an embedded request, and keeps it
abbrev pub after_request : AuditedEndpoint
after_request = record opening {
  line = record opening_line {
    identifier = codes "A4";
    requests = asked (codes "L/hd(A,E(S(L/dl),R(L/hu,D/[0-9#*T](D))))") [];
    digit_map = Some (codes "(0T|00T|[1-7]xxx)");
  };
}

-- a line with this connection alone, and one where each place holds one of these
abbrev pub calling : Connection → AuditedEndpoint
calling connection = record opening { connections = with_one connection }

abbrev pub with_places : List (Option Connection) → AuditedEndpoint
with_places places = record opening { connections = record line { last = 4294967295; places = places } }

abbrev pub numbered : ℕ → Option Connection
numbered number = Some (record first_connection { number = number })

-- a line whose entity has so many letters, without a connection and with one
abbrev pub with_entity : ℕ → AuditedEndpoint
with_entity size = record opening { entity = record agent { text = replicate size 97 } }

abbrev pub calling_with_entity : ℕ → AuditedEndpoint
calling_with_entity size = record (with_entity size) { connections = with_one first_connection }

-- the text of a response
abbrev pub text_from : ℕ → Result AnswerContent ℕ → Result (List ℕ) ℕ
text_from id (Ok answer) = Ok (written (response_of id answer))
text_from id (Err code) = Err code

-- that of the answer to an audit of a line, and of the connection of a line with this identifier, with this value of F,
-- under an id or under 9
abbrev pub told_under : ℕ → AuditedEndpoint → List ℕ → Result (List ℕ) ℕ
told_under id endpoint items = text_from id (endpoint_report id endpoint (items_of items))

abbrev pub told : AuditedEndpoint → List ℕ → Result (List ℕ) ℕ
told endpoint items = told_under 9 endpoint items

abbrev pub told_of_under : ℕ → AuditedEndpoint → List ℕ → List ℕ → Result (List ℕ) ℕ
told_of_under id endpoint connection items = text_from id (connection_report id endpoint connection (items_of items))

abbrev pub told_of : AuditedEndpoint → List ℕ → List ℕ → Result (List ℕ) ℕ
told_of endpoint connection items = told_of_under 9 endpoint connection items

-- what a line and a connection of it can do, as a response tells it
abbrev pub capabilities : List ℕ
capabilities = codes "A: a:PCMU;PCMA, p:10-30, v:L;G;D, m:sendonly;recvonly;sendrecv;confrnce;inactive\r\n"

abbrev pub statistics : List ℕ
statistics = codes "P: PS=0, OS=0, PR=0, OR=0, PL=0, JI=0, LA=0\r\n"

-- the description of a connection with this number and version, at this port with these payload types
abbrev pub described : List ℕ → List ℕ → List ℕ
described numbers stream =
    codes "v=0\r\no=- " ++ numbers ++ codes " IN IP4 127.0.0.1\r\ns=-\r\nc=IN IP4 127.0.0.1\r\nt=0 0\r\nm=audio "
    ++ stream ++ codes "\r\na=ptime:20\r\n"

-- how long a text is
abbrev pub size_of : Result (List ℕ) ℕ → Result ℕ ℕ
size_of (Ok text) = Ok (length text)
size_of (Err code) = Err code
