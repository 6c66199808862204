-- Names of call agents (RFC 3435, 2.1.4 and 3.2.1.3): `[local@]host[:port]`. The largest lengths, and that leading
-- zeros of numbers are taken, are this gateway's profile.
use Rattle.std.specs.Prelude.{ℕ, nat_le, Bool, ◌&&◌, not, if◌then◌else◌, List, length, Option, Some, None, option_map}
use Rattle.std.specs.List.{list_any}
use Rattle.std.specs.declared.net.ipv4_addr.Ipv4Addr.{Ipv4Addr}
use Rattle.std.specs.declared.net.socket_addr.SocketAddrV4.{SocketAddrV4}
use Rattle.mg_bytes.specs.Option.{◌>>=◌}
use Rattle.mg_bytes.specs.Bytes.{colon, at_sign}
use Rattle.mg_bytes.specs.Blanks.{is_blank}
use Rattle.mg_bytes.specs.Lines.{is_line_feed}
use Rattle.mg_bytes.specs.Words.{split_once, in_brackets}
use Rattle.mg_bytes.specs.Address.{ipv4_of, port_of}
use Rattle.endpoint_names.specs.declared.route.Route.{Route}
use Rattle.endpoint_names.specs.declared.route.Route.TheVariants.{One}
use Rattle.endpoint_names.specs.Route.{with_port}
use Rattle.endpoint_names.specs.declared.table.Host.{Host}
use Rattle.endpoint_names.specs.declared.entity.Entity.{Entity}
use Rattle.endpoint_names.specs.Table.{route_to}

-- the most bytes of an entity, and of its local name (this gateway's profile)
abbrev pub longest_entity : ℕ
longest_entity = 128

abbrev pub longest_local : ℕ
longest_local = 64

-- 1 to 64 bytes (that none is an `@` is where the text is split)
abbrev pub is_local : List ℕ → Bool
is_local local = nat_le 1 (length local) && nat_le (length local) longest_local

abbrev pub host_from : List Host → List ℕ → Option (List ℕ) → Option (Route Ipv4Addr)
host_from hosts host None = route_to hosts host
host_from hosts host (Some literal) = do
  ip ← ipv4_of literal
  Some (One ip)

-- the addresses of a host: one for `[a.b.c.d]`, and those that the table has for a name
abbrev pub host_of : List Host → List ℕ → Option (Route Ipv4Addr)
host_of hosts host = host_from hosts host (in_brackets host)

-- the port where none is written (RFC 3435, 3.5)
abbrev pub agent_port : ℕ
agent_port = 2727

-- `host` or `host:port`: all the host's addresses have that port
abbrev pub place_from : List Host → List ℕ → Option (List ℕ × List ℕ) → Option (Route SocketAddrV4)
place_from hosts text None = do
  host ← host_of hosts text
  Some (with_port agent_port host)
place_from hosts text (Some sides) = do
  host ← host_of hosts sides.0
  port ← port_of sides.1
  Some (with_port port host)

unfoldable pub place_of : List Host → List ℕ → Option (Route SocketAddrV4)
place_of hosts text = place_from hosts text (split_once colon text)

-- the same, with a local name and `@` before it where there is an `@`
abbrev pub agent_from : List Host → List ℕ → Option (List ℕ × List ℕ) → Option (Route SocketAddrV4)
agent_from hosts text None = place_of hosts text
agent_from hosts text (Some sides) = if is_local sides.0 then place_of hosts sides.1 else None

unfoldable pub agent_of : List Host → List ℕ → Option (Route SocketAddrV4)
agent_of hosts text = agent_from hosts text (split_once at_sign text)

-- at most 128 bytes, none of them a blank, and no line feed, since it is written as a word of a line
abbrev pub is_entity_text : List ℕ → Bool
is_entity_text text =
    nat_le (length text) longest_entity && not (list_any is_blank text) && not (list_any is_line_feed text)

-- the entity that a text names: the text as it is given, and its addresses
unfoldable pub entity_of : List Host → List ℕ → Option Entity
entity_of hosts text =
    if is_entity_text text
    then option_map (λ route. record { text = text; route = route }) (agent_of hosts text) else None
