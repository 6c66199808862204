-- Who has a place, and whose turn it is.
use Rattle.std.proofs.Common.{◌≡◌, ℕ, zero, suc, ◌≤◌, true, List, [], ◌∷◌, ◌++◌, length, map, drop, append-nil, slice_get, slice_set, Option, None, Some, refl, sym, ◌∙◌, ap, subst}
use Rattle.std.proofs.lemmas.List.{at_drop_all}
use Rattle.std.proofs.lemmas.Option.{slice_get_past}
use Rattle.std.specs.Global.{Box}
use Rattle.std.specs.declared.net.ipv4_addr.Ipv4Addr.{Ipv4Addr}
use Rattle.std.specs.declared.net.socket_addr.SocketAddr.{SocketAddr}
use Rattle.std.specs.declared.net.socket_addr.SocketAddrV4.{SocketAddrV4}
use Rattle.page_http.specs.declared.places.Seat.{Seat}
use Rattle.page_http.specs.Places.{place_for}
use Rattle.page_state.specs.BoardShowing.{BoardState}
use Rattle.page_server.specs.declared.site.Came.TheVariants.{LetIn}
use Rattle.page_server.specs.declared.site.Site.{Site}
use Rattle.page_server.specs.declared.visitor.Visitor.{Visitor}
use Rattle.page_server.specs.Visiting.{IsNew}
use Rattle.page_server.specs.Receiving.{host_of, seat_in, LetsIn, SeatsAt, ServesAt, ServesNext}

-- who has each place was looked at
pub seats_all : (seats : List (Option Seat)) (items places : List (Option (Box Visitor))) (index : ℕ) → length items ≤ index
    → seats ++ map seat_in (drop index items) ≡ map seat_in places → seats ≡ map seat_in places
seats_all seats items places index past so_far =
    sym (append-nil seats) ∙ ap (λ (left : List (Option Seat)). seats ++ left) (sym (at_drop_all (map seat_in) items index past)) ∙ so_far

-- a place that isn't there is nobody's
pub set_nowhere : (places : List (Option (Box Visitor))) (place : ℕ) (left : Option (Box Visitor)) → slice_get places place ≡ None
    → slice_set places place left ≡ places
set_nowhere [] place left at = refl
set_nowhere (first ∷ more) zero left at = absurd cc
set_nowhere (first ∷ more) (suc place) left at = ap (λ (places : List (Option (Box Visitor))). first ∷ places) (set_nowhere more place left at)

-- there is no place for who comes
pub seats_nobody : (found : Option ℕ) (host : Ipv4Addr) (now : ℕ) (were : List (Option (Box Visitor))) → found ≡ None
    → SeatsAt found host now were were
seats_nobody found host now were none = subst (λ (f : Option ℕ). SeatsAt f host now were were) (sym none) refl

-- or it is theirs
pub seats_there : (found : Option ℕ) (host : Ipv4Addr) (now place : ℕ) (visitor : Box Visitor) (were are : List (Option (Box Visitor)))
    → found ≡ Some place → IsNew host now visitor.value → are ≡ slice_set were place (Some visitor) → SeatsAt found host now were are
seats_there found host now place visitor were are some new set =
    subst (λ (f : Option ℕ). SeatsAt f host now were are) (sym some) (visitor, new, set)

-- or isn't there
pub seats_nowhere : (found : Option ℕ) (host : Ipv4Addr) (now place : ℕ) (visitor : Box Visitor) (were : List (Option (Box Visitor)))
    → found ≡ Some place → IsNew host now visitor.value → length were ≤ place → SeatsAt found host now were were
seats_nowhere found host now place visitor were some new past =
    seats_there found host now place visitor were were some new (sym (set_nowhere were place (Some visitor) (slice_get_past were place past)))

-- somebody has come, and is served
pub let_in : (now : ℕ) (host : Ipv4Addr) (source : SocketAddr) (was is : Site) → host ≡ host_of source → was.may_accept ≡ true
    → is.may_accept ≡ was.may_accept → is.again ≡ was.again
    → SeatsAt (place_for (map seat_in was.places.items) host) host now was.places.items is.places.items → LetsIn now LetIn was is
let_in now host source was is from may still again seats = (
  may,
  still ∙ may,
  again,
  (
    source,
    subst (λ (h : Ipv4Addr). SeatsAt (place_for (map seat_in was.places.items) h) h now was.places.items is.places.items) from seats,
  ),
)

-- whose turn it is has it
pub serves_here : (site : SocketAddrV4) (place now : ℕ) (address : Option SocketAddrV4) (next : Option ℕ) (was is : Site) (board shown : BoardState)
    → address ≡ Some site → next ≡ Some place → ServesAt site place now was board is shown → ServesNext address next now was board is shown
serves_here site place now address next was is board shown known turn serves =
    subst (λ (a : Option SocketAddrV4). ServesNext a next now was board is shown) (sym known)
    (subst (λ (n : Option ℕ). ServesNext (Some site) n now was board is shown) (sym turn) serves)
