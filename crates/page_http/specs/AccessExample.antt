-- The addresses, and the visitors, of the worked examples.
use Rattle.std.specs.Prelude.{ℕ, List, [], ◌∷◌, Option, Some, None}
use Rattle.std.specs.declared.net.ipv4_addr.Ipv4Addr.{Ipv4Addr}
use Rattle.std.specs.declared.net.socket_addr.SocketAddrV4.{SocketAddrV4}
use Rattle.page_http.specs.declared.places.Seat.{Seat}

abbrev pub at_port : ℕ → SocketAddrV4
at_port port = record { ip = record { octets = 127 ∷ 0 ∷ 0 ∷ 1 ∷ [] }; port = port }

-- 127.0.0.1:8080
abbrev pub here : SocketAddrV4
here = at_port 8080

-- 192.168.1.5:8080
abbrev pub elsewhere : SocketAddrV4
elsewhere = record { ip = record { octets = 192 ∷ 168 ∷ 1 ∷ 5 ∷ [] }; port = 8080 }

-- 0.0.0.0:8080
abbrev pub anywhere : SocketAddrV4
anywhere = record { ip = record { octets = 0 ∷ 0 ∷ 0 ∷ 0 ∷ [] }; port = 8080 }

-- a field that stands there once
abbrev pub once : List ℕ → Option (List ℕ)
once text = Some text

-- two hosts, and one of their visitors at a place, who was idle since this moment
abbrev pub this_host : Ipv4Addr
this_host = record { octets = 127 ∷ 0 ∷ 0 ∷ 1 ∷ [] }

abbrev pub other_host : Ipv4Addr
other_host = record { octets = 10 ∷ 0 ∷ 0 ∷ 9 ∷ [] }

abbrev pub third_host : Ipv4Addr
third_host = record { octets = 10 ∷ 0 ∷ 0 ∷ 10 ∷ [] }

abbrev pub mine : ℕ → Option Seat
mine since = Some (record { host = this_host; active = since })

abbrev pub theirs : ℕ → Option Seat
theirs since = Some (record { host = other_host; active = since })

-- seven and eight of this host's visitors
abbrev pub seven : List (Option Seat)
seven = mine 40 ∷ mine 30 ∷ mine 50 ∷ mine 70 ∷ mine 60 ∷ mine 90 ∷ mine 80 ∷ []

abbrev pub eight : List (Option Seat)
eight = mine 20 ∷ seven

-- eight of another's, of whom the fourth was idle longest
abbrev pub other_eight : List (Option Seat)
other_eight =
    theirs 14 ∷ theirs 15 ∷ theirs 16 ∷ theirs 10 ∷ theirs 18 ∷ theirs 19 ∷ theirs 11 ∷ theirs 12 ∷ []
