-- Who may speak to a gateway where no word says it, and whom it hears.
use Rattle.std.specs.Prelude.{◌≡◌, ℕ, Bool, ◌&&◌, ◌||◌, ◌==◌, not, List, [], ◌∷◌, ◌++◌, filter, nat_eq, nat_lt, bytes_eq, Option}
use Rattle.std.specs.List.{fold, list_any, starts_with}
use Rattle.std.specs.Net.Addr.{ipv4_octets}
use Rattle.std.specs.declared.net.ipv4_addr.Ipv4Addr.{Ipv4Addr}
use Rattle.std.specs.declared.net.socket_addr.SocketAddrV4.{SocketAddrV4}
use Rattle.endpoint_names.specs.declared.route.Route.{Route}
use Rattle.endpoint_names.specs.declared.table.Host.{Host}
use Rattle.endpoint_names.specs.Route.{addresses, each_with}
use Rattle.plain_machine.specs.declared.setup.Setup.{Setup}
use Rattle.live_io.specs.Requests.{is_anywhere}
use Rattle.live_io.specs.Sending.{Received, Grows}
use Rattle.live_io.specs.Speaking.{Admitted, nobody, with_host, admitted_by, may_speak}
use Rattle.live_gateway.specs.declared.admission.Admission.{Admission}

-- Who may speak

-- whoever has one of these addresses too
abbrev pub with_hosts : Admitted → List Ipv4Addr → Admitted
with_hosts admitted hosts = fold with_host admitted hosts

-- the addresses of a receiver, without its port
abbrev pub hosts_of : Route SocketAddrV4 → Route Ipv4Addr
hosts_of route = each_with (λ address. address.ip) route

abbrev pub with_named : Admitted → Host → Admitted
with_named admitted host = with_hosts admitted (addresses host.route)

-- the agent that it reports to, and all hosts that its configuration names, each with all its addresses, from any port
unfoldable pub known_to : Setup → Admitted
known_to setup = fold with_named (with_hosts nobody (addresses (hosts_of setup.agent.route))) setup.names.table

-- behind these addresses those of a host
abbrev pub with_addresses : List Ipv4Addr → Host → List Ipv4Addr
with_addresses hosts host = hosts ++ addresses host.route

-- all addresses of these, in their order
abbrev pub known_hosts : Setup → List Ipv4Addr
known_hosts setup = fold with_addresses (addresses (hosts_of setup.agent.route)) setup.names.table

-- Whom it hears

-- no other machine can send from these addresses, 127.0.0.0/8 (RFC 1122, 3.2.1.3)
abbrev pub is_loopback : List ℕ → Bool
is_loopback octets = starts_with nat_eq octets (127 ∷ [])

-- the host of a socket is at this address: at its own; or where it listens at each address of its machine, at one that no other machine
-- has. Whether another address is its machine's can't be told.
abbrev pub is_at : List ℕ → List ℕ → Bool
is_at own sender = bytes_eq own sender || (is_anywhere own && is_loopback sender)

-- what has this sender came from the socket here, as far as an address tells
abbrev pub is_sent_by : SocketAddrV4 → SocketAddrV4 → Bool
is_sent_by sender own = own.port == sender.port && is_at (ipv4_octets own.ip) (ipv4_octets sender.ip)

-- it came from one of these sockets
abbrev pub is_its_own : List SocketAddrV4 → SocketAddrV4 → Bool
is_its_own own sender = list_any (is_sent_by sender) own

-- it hears nothing without a port, which can't be answered, and nothing that came from its own sockets, so that it never answers
-- itself; of others it hears who may speak
abbrev pub is_heard : Admission → SocketAddrV4 → Bool
is_heard admission source =
    nat_lt 0 source.port && not (is_its_own admission.own source) && may_speak (admitted_by admission.speakers) source.ip

-- the datagrams among these that are heard, in their order
abbrev pub heard_of : Admission → List Received → List Received
heard_of admission came = filter (λ one. is_heard admission one.source) came

-- since then some came, of which these are heard
abbrev pub HeardSince : Admission → Option (List Received) → List Received → Option (List Received) → Type 0
HeardSince admission was heard is = (came : List Received) × Grows was came is × (heard_of admission came ≡ heard)
