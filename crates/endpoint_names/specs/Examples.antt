-- What the worked examples share.
use Rattle.std.specs.Prelude.{◌≡◌, ℕ, List, [], ◌∷◌, codes, replicate, Option, Some, None, Result}
use Rattle.std.specs.declared.net.ipv4_addr.Ipv4Addr.{Ipv4Addr}
use Rattle.std.specs.declared.net.socket_addr.SocketAddrV4.{SocketAddrV4}
use Rattle.endpoint_names.specs.declared.route.Route.{Route}
use Rattle.endpoint_names.specs.declared.route.Route.TheVariants.{One}
use Rattle.endpoint_names.specs.RouteExample.{local_address}
use Rattle.endpoint_names.specs.declared.name.Pattern.{Pattern}
use Rattle.endpoint_names.specs.declared.name.NameFault.{NameFault}
use Rattle.endpoint_names.specs.declared.table.Host.{Host}
use Rattle.endpoint_names.specs.declared.entity.Entity.{Entity}
use Rattle.endpoint_names.specs.Name.{name_of}
use Rattle.endpoint_names.specs.Entity.{entity_of}

-- what a name means on the gateway rgw.example.net with 16 lines
abbrev pub meaning : List ℕ → Result Pattern NameFault
meaning name = name_of name (codes "rgw.example.net") 16

-- a table of one host, with these addresses
abbrev pub host_at : List ℕ → Route Ipv4Addr → List Host
host_at name route = record { name = name; route = route } ∷ []

-- a table of one host at 127.0.0.1
abbrev pub table_of : List ℕ → List Host
table_of name = host_at name (One (local_address 1))

-- a table with one name so many times, as no call makes it
abbrev pub hosts_named : List ℕ → ℕ → List Host
hosts_named name n = replicate n (record { name = name; route = One (local_address 1) })

-- the table of ca.example.net
abbrev pub agents : List Host
agents = table_of (codes "ca.example.net")

-- 127.0.0.n, and this port
abbrev pub at_port : ℕ → ℕ → SocketAddrV4
at_port n port = record { ip = local_address n; port = port }

-- this text is read, and is at 127.0.0.n and this port
abbrev pub read_at : List ℕ → ℕ → ℕ → Option Entity
read_at text n port =
    Some (record { text = text; route = One (at_port n port) })

-- with that table, the text is read, and is at 127.0.0.n and this port
abbrev pub IsAt : List ℕ → ℕ → ℕ → Type 0
IsAt text n port = entity_of agents text ≡ read_at text n port

-- with that table, the text is no entity
abbrev pub IsNoEntity : List ℕ → Type 0
IsNoEntity text = entity_of agents text ≡ None

-- where ca.example.net has these addresses, the text is read, and has those ones with their port
abbrev pub IsRouted : Route Ipv4Addr → List ℕ → Route SocketAddrV4 → Type 0
IsRouted known text route = entity_of (host_at (codes "ca.example.net") known) text ≡ Some (record { text = text; route = route })
