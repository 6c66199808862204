-- Where the sends of a message go (RFC 3435, 3.5 and 4.3): to one of the addresses of its receiver, and where nobody answers
-- to another. How many addresses there are, and how often each is tried, is this gateway's profile.
use Rattle.std.specs.Prelude.{ℕ, ◌/◌, ◌%◌, List, [], ◌∷◌, length, slice_index_or, Option, Some, None}
use Rattle.std.specs.declared.net.ipv4_addr.Ipv4Addr.{Ipv4Addr}
use Rattle.std.specs.declared.net.socket_addr.SocketAddrV4.{SocketAddrV4}
use Rattle.endpoint_names.specs.declared.route.Route.{Route}
use Rattle.endpoint_names.specs.declared.route.Route.TheVariants.{One, Two, Three, Four}

-- the addresses of a route, in their order
abbrev pub addresses : {A : Type 0} → Route A → List A
addresses (One a) = a ∷ []
addresses (Two a b) = a ∷ b ∷ []
addresses (Three a b c) = a ∷ b ∷ c ∷ []
addresses (Four a b c d) = a ∷ b ∷ c ∷ d ∷ []

-- the most addresses of one receiver
abbrev pub most_addresses : ℕ
most_addresses = 4

-- the route of so many addresses
abbrev pub route_of : {A : Type 0} → List A → Option (Route A)
route_of [] = None
route_of (a ∷ []) = Some (One a)
route_of (a ∷ b ∷ []) = Some (Two a b)
route_of (a ∷ b ∷ c ∷ []) = Some (Three a b c)
route_of (a ∷ b ∷ c ∷ d ∷ []) = Some (Four a b c d)
route_of (a ∷ b ∷ c ∷ d ∷ e ∷ more) = None

-- the first address
abbrev pub first : {A : Type 0} → Route A → A
first (One a) = a
first (Two a b) = a
first (Three a b c) = a
first (Four a b c d) = a

-- so many sends go to one address before the next one's turn
abbrev pub sends_each : ℕ
sends_each = 2

-- the place among so many addresses, counted from 0, of the send with this number, counted from 0
abbrev pub place_of : ℕ → ℕ → ℕ
place_of count send = send / sends_each % count

-- the address that the send with this number goes to (4.3)
unfoldable pub at : {A : Type 0} → Route A → ℕ → A
at route send = slice_index_or (addresses route) (place_of (length (addresses route)) send) (first route)

abbrev pub each_with : {A B : Type 0} → (A → B) → Route A → Route B
each_with f (One a) = One (f a)
each_with f (Two a b) = Two (f a) (f b)
each_with f (Three a b c) = Three (f a) (f b) (f c)
each_with f (Four a b c d) = Four (f a) (f b) (f c) (f d)

-- each address with this port (3.5)
abbrev pub with_port : ℕ → Route Ipv4Addr → Route SocketAddrV4
with_port port route = each_with (λ ip. record { ip = ip; port = port }) route
