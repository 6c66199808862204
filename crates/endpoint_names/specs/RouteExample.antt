-- What the worked examples speak of.
use Rattle.std.specs.Prelude.{ℕ, List, [], ◌∷◌, map, Option}
use Rattle.std.specs.List.{range_with_len}
use Rattle.std.specs.declared.net.ipv4_addr.Ipv4Addr.{Ipv4Addr}
use Rattle.std.specs.declared.net.socket_addr.SocketAddrV4.{SocketAddrV4}
use Rattle.endpoint_names.specs.declared.route.Route.{Route}
use Rattle.endpoint_names.specs.Route.{addresses, route_of, first, at}

-- 127.0.0.n
abbrev pub local_address : ℕ → Ipv4Addr
local_address n = record { octets = 127 ∷ 0 ∷ 0 ∷ n ∷ [] }

-- 127.0.0.n, port 2727
abbrev pub agent_at : ℕ → SocketAddrV4
agent_at n = record { ip = local_address n; port = 2727 }

-- Routes of numbers, which stand for addresses

abbrev pub numbers : Route ℕ → List ℕ
numbers route = addresses route

abbrev pub route_of_numbers : List ℕ → Option (Route ℕ)
route_of_numbers list = route_of list

abbrev pub first_number : Route ℕ → ℕ
first_number route = first route

abbrev pub number_at : Route ℕ → ℕ → ℕ
number_at route send = at route send

-- where the first send of a message and its seven repeats go
abbrev pub eight_sends : Route ℕ → List ℕ
eight_sends route = map (at route) (range_with_len 0 8)
