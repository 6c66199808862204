-- Where sends go, and what lists are routes.
use Rattle.std.proofs.Common.{◌≡◌, ℕ, zero, suc, ◌<◌, ◌+◌, ◌*◌, ◌/◌, ◌%◌, List, [], ◌∷◌, length, map, refl, sym, ap, ◌∙◌, arith, inl, inr, ◌⊎◌}
use Rattle.std.specs.Prelude.{◌↔◌, slice_index_or, All, Contains, Some, None}
use Rattle.std.specs.List.{range_with_len}
use Rattle.std.specs.declared.net.ipv4_addr.Ipv4Addr.{Ipv4Addr}
use Rattle.std.specs.declared.net.socket_addr.SocketAddrV4.{SocketAddrV4}
use Rattle.std.proofs.lemmas.Nat.{mod_below, shr_high, shl-shr}
use Rattle.std.proofs.lemmas.List.{get_or-map}
use Rattle.std.proofs.lemmas.List.Elements.{All-nil, All-cons, Contains-get_or}
use Rattle.endpoint_names.specs.declared.route.Route.{Route}
use Rattle.endpoint_names.specs.declared.route.Route.TheVariants.{One, Two, Three, Four}
use Rattle.endpoint_names.specs.Route.{addresses, route_of, first, place_of, at, with_port}

-- Where sends go

pub begins : (route : Route SocketAddrV4) → at route 0 ≡ first route
unfolding at
begins (One a) = refl
begins (Two a b) = refl
begins (Three a b c) = refl
begins (Four a b c d) = refl

only_there : (a : SocketAddrV4) (place : ℕ) → slice_index_or (a ∷ []) place a ≡ a
only_there a zero = refl
only_there a (suc place) = refl

pub alone : (a : SocketAddrV4) (send : ℕ) → at (One a) send ≡ a
unfolding at
alone a send = only_there a (place_of 1 send)

pub within : (route : Route SocketAddrV4) (send : ℕ) → Contains (addresses route) (at route send)
unfolding at
within (One a) send = Contains-get_or (a ∷ []) (place_of 1 send) a (mod_below (send / 2) 1 (omega arith))
within (Two a b) send = Contains-get_or (a ∷ b ∷ []) (place_of 2 send) a (mod_below (send / 2) 2 (omega arith))
within (Three a b c) send = Contains-get_or (a ∷ b ∷ c ∷ []) (place_of 3 send) a (mod_below (send / 2) 3 (omega arith))
within (Four a b c d) send = Contains-get_or (a ∷ b ∷ c ∷ d ∷ []) (place_of 4 send) a (mod_below (send / 2) 4 (omega arith))

one_turn : (turn : ℕ) → (turn * 2 + 1) / 2 ≡ turn * 2 / 2
one_turn turn = shr_high turn 1 1 (omega arith) ∙ sym (shl-shr turn 1)

pub twice : (route : Route SocketAddrV4) (turn : ℕ) → at route (turn * 2 + 1) ≡ at route (turn * 2)
unfolding at
twice route turn = ap (λ (n : ℕ). slice_index_or (addresses route) (n % length (addresses route)) (first route)) (one_turn turn)

-- all eight sends

pub reached : (route : Route SocketAddrV4) → All (Contains (map (at route) (range_with_len 0 8))) (addresses route)
unfolding at
reached (One a) = All-cons (Contains (map (at (One a)) (range_with_len 0 8))) a [] (0, omega arith, refl) (All-nil (Contains (map (at (One a)) (range_with_len 0 8))))
reached (Two a b) =
    let P : SocketAddrV4 → Type 0 = Contains (map (at (Two a b)) (range_with_len 0 8)) in
    All-cons P a (b ∷ []) (0, omega arith, refl) (All-cons P b [] (2, omega arith, refl) (All-nil P))
reached (Three a b c) =
    let P : SocketAddrV4 → Type 0 = Contains (map (at (Three a b c)) (range_with_len 0 8)) in
    All-cons P a (b ∷ c ∷ []) (0, omega arith, refl) (All-cons P b (c ∷ []) (2, omega arith, refl) (All-cons P c [] (4, omega arith, refl) (All-nil P)))
reached (Four a b c d) =
    let P : SocketAddrV4 → Type 0 = Contains (map (at (Four a b c d)) (range_with_len 0 8)) in
    All-cons P a (b ∷ c ∷ d ∷ []) (0, omega arith, refl)
    (All-cons P b (c ∷ d ∷ []) (2, omega arith, refl) (All-cons P c (d ∷ []) (4, omega arith, refl) (All-cons P d [] (6, omega arith, refl) (All-nil P))))

-- Lists and routes

pub again : (route : Route SocketAddrV4) → route_of (addresses route) ≡ Some route
again (One a) = refl
again (Two a b) = refl
again (Three a b c) = refl
again (Four a b c d) = refl

pub listed : (list : List SocketAddrV4) (route : Route SocketAddrV4) → route_of list ≡ Some route → addresses route ≡ list
listed [] route is = absurd cc
listed (a ∷ []) route is = let same : One a ≡ route = cc in ap addresses (sym same)
listed (a ∷ b ∷ []) route is = let same : Two a b ≡ route = cc in ap addresses (sym same)
listed (a ∷ b ∷ c ∷ []) route is = let same : Three a b c ≡ route = cc in ap addresses (sym same)
listed (a ∷ b ∷ c ∷ d ∷ []) route is = let same : Four a b c d ≡ route = cc in ap addresses (sym same)
listed (a ∷ b ∷ c ∷ d ∷ e ∷ more) route is = absurd cc

pub none_of : (list : List SocketAddrV4) → (route_of list ≡ None) ↔ ((length list ≡ 0) ⊎ (4 < length list))
none_of [] = (λ is. inl refl, λ size. refl)
none_of (a ∷ []) = (λ is. absurd cc, λ size. absurd (grind arith))
none_of (a ∷ b ∷ []) = (λ is. absurd cc, λ size. absurd (grind arith))
none_of (a ∷ b ∷ c ∷ []) = (λ is. absurd cc, λ size. absurd (grind arith))
none_of (a ∷ b ∷ c ∷ d ∷ []) = (λ is. absurd cc, λ size. absurd (grind arith))
none_of (a ∷ b ∷ c ∷ d ∷ e ∷ more) = (λ is. inr (omega arith), λ size. refl)

-- One port

abbrev on_port : ℕ → Ipv4Addr → SocketAddrV4
on_port port ip = record { ip = ip; port = port }

pub one_port : (port : ℕ) (route : Route Ipv4Addr) (send : ℕ) → at (with_port port route) send ≡ record { ip = at route send; port = port }
unfolding at
one_port port (One a) send = get_or-map (on_port port) (a ∷ []) (place_of 1 send) a (on_port port a) (mod_below (send / 2) 1 (omega arith))
one_port port (Two a b) send = get_or-map (on_port port) (a ∷ b ∷ []) (place_of 2 send) a (on_port port a) (mod_below (send / 2) 2 (omega arith))
one_port port (Three a b c) send = get_or-map (on_port port) (a ∷ b ∷ c ∷ []) (place_of 3 send) a (on_port port a) (mod_below (send / 2) 3 (omega arith))
one_port port (Four a b c d) send = get_or-map (on_port port) (a ∷ b ∷ c ∷ d ∷ []) (place_of 4 send) a (on_port port a) (mod_below (send / 2) 4 (omega arith))
