-- What a turn of the site's does: who is late goes, what was told of its sockets is noted, somebody may be let in, and requests of one of
-- its visitors are answered, by a board.
use Rattle.std.specs.Prelude.{◌≡◌, ℕ, true, false, ◌||◌, if◌then◌else◌, List, [], ◌∷◌, map, replicate, slice_get, slice_set}
use Rattle.std.specs.Prelude.{Option, None, Some, option_map, IfSome, IsSomeAnd}
use Rattle.std.specs.Global.{Box}
use Rattle.std.specs.declared.io.ErrorKind.{ErrorKind}
use Rattle.std.specs.declared.net.ipv4_addr.Ipv4Addr.{Ipv4Addr}
use Rattle.std.specs.declared.net.socket_addr.SocketAddr.{SocketAddr}
use Rattle.std.specs.declared.net.socket_addr.SocketAddr.TheVariants.{V4, V6}
use Rattle.std.specs.declared.net.socket_addr.SocketAddrV4.{SocketAddrV4}
use Rattle.live_system.specs.declared.readiness.Readiness.{Readiness}
use Rattle.live_system.specs.declared.readiness.Visit.{Visit}
use Rattle.live_system.specs.declared.readiness.TheConstants.{MOST_VISITORS}
use Rattle.live_system.specs.Looking.{no_visit, may_have_more}
use Rattle.page_state.specs.Sums.{sum_within}
use Rattle.page_http.specs.declared.places.Seat.{Seat}
use Rattle.page_http.specs.Naming.{names_of}
use Rattle.page_http.specs.Places.{place_for}
use Rattle.page_state.specs.BoardShowing.{BoardState}
use Rattle.page_server.specs.declared.site.Came.{Came}
use Rattle.page_server.specs.declared.site.Came.TheVariants.{Nobody, Refused, LetIn, TurnedAway}
use Rattle.page_server.specs.declared.site.Site.{Site}
use Rattle.page_server.specs.declared.visitor.Visitor.{Visitor}
use Rattle.page_server.specs.Visiting.{noted, AnswersVisitor, IsAnswered, IsNew, TakesTurn}
use Rattle.page_server.specs.Waiting.{is_over, left_over, next_turn, stays_at}

-- A place

-- whoever has the place
abbrev pub visitor_in : Option (Box Visitor) → Option Visitor
visitor_in place = option_map (λ held. held.value) place

-- from where they come, and since when they are idle
abbrev pub seat_in : Option (Box Visitor) → Option Seat
seat_in place = option_map (λ held. held.value.seat) place

-- what was told of the socket of whoever has the place
abbrev pub noted_in : Visit → Option Visitor → Option Visitor
noted_in visit place = option_map (noted visit) place

-- what was told of each socket, from the first place on
unfoldable pub noted_each : List (Option Visitor) → List Visit → List (Option Visitor)
noted_each [] visits = []
noted_each (place ∷ places) [] = place ∷ noted_each places []
noted_each (place ∷ places) (visit ∷ visits) = noted_in visit place ∷ noted_each places visits

-- Whoever has the place has a turn at this moment: they stay, and no request of theirs waits, or they go.
abbrev pub ServesPlace : SocketAddrV4 → List (List ℕ) → ℕ → Option (Box Visitor) → BoardState → Option (Box Visitor) → BoardState → Type 0
ServesPlace site names now None board is shown = (is ≡ None) × (shown ≡ board)
ServesPlace site names now (Some was) board None shown =
    (gone : Visitor) × AnswersVisitor site names was.value board gone shown × TakesTurn site names now was.value board false gone shown
ServesPlace site names now (Some was) board (Some is) shown =
    AnswersVisitor site names was.value board is.value shown × IsAnswered is.value
    × TakesTurn site names now was.value board true is.value shown

-- each place but this one is as it was
abbrev pub with_place : ℕ → Option (Option (Box Visitor)) → List (Option (Box Visitor)) → List (Option (Box Visitor))
with_place place None places = places
with_place place (Some held) places = slice_set places place held

-- The site

-- nobody is there yet, and somebody may have come already; it may be asked under these further names
abbrev pub IsOpened : List (List ℕ) → Site → Type 0
IsOpened names site =
    (site.places.items ≡ replicate MOST_VISITORS None) × (site.may_accept ≡ true) × (site.last ≡ 0) × (names_of site.names ≡ names)
    × (site.again ≡ None)

-- from where somebody comes: the site's socket hears none of another kind than its own
abbrev pub host_of : SocketAddr → Ipv4Addr
host_of (V4 source) = source.ip
host_of (V6 source) = record { octets = 0 ∷ 0 ∷ 0 ∷ 0 ∷ [] }

-- Somebody from this address has this place from this moment on, and who had it gives way; nobody else's is another's. Where there is none
-- for them all stays.
abbrev pub SeatsAt : Option ℕ → Ipv4Addr → ℕ → List (Option (Box Visitor)) → List (Option (Box Visitor)) → Type 0
SeatsAt None host now were are = are ≡ were
SeatsAt (Some place) host now were are =
    (visitor : Box Visitor) × IsNew host now visitor.value × (are ≡ slice_set were place (Some visitor))

-- what becomes of looking for somebody that fails so: only where that would have waited nobody has come
abbrev pub came_by : ErrorKind → Came
came_by kind = if may_have_more kind then Refused else Nobody

-- where the system refuses to let somebody in who has come, it is asked again so long afterwards, in ms
abbrev pub asked_again : ℕ → ℕ
asked_again now = sum_within now 100

-- Nobody has come, and nobody may have any more. Or somebody may have, whom the system refuses to let in: it is asked again a little later.
-- Or somebody has, where somebody may have, and somebody else may have still: they have the place that is theirs by who has the others, or
-- they are turned away, and all stays.
abbrev pub LetsIn : ℕ → Came → Site → Site → Type 0
LetsIn now Nobody was is = (is.places.items ≡ was.places.items) × (is.may_accept ≡ false) × (is.again ≡ was.again)
LetsIn now Refused was is =
    (is.places.items ≡ was.places.items) × (is.may_accept ≡ false) × (was.may_accept ≡ true) × (is.again ≡ Some (asked_again now))
LetsIn now LetIn was is =
    (was.may_accept ≡ true) × (is.may_accept ≡ true) × (is.again ≡ was.again)
    × ((source : SocketAddr)
    × SeatsAt (place_for (map seat_in was.places.items) (host_of source)) (host_of source) now was.places.items is.places.items)
LetsIn now TurnedAway was is =
    (was.may_accept ≡ true) × (is.may_accept ≡ true) × (is.places.items ≡ was.places.items) × (is.again ≡ was.again)

-- whoever has this place has a turn at this moment, and nobody else
pub record ServesAt (site : SocketAddrV4) (place : ℕ) (now : ℕ) (was : Site) (board : BoardState) (is : Site) (shown : BoardState)
    : Type 0 where
  pub served : IfSome (slice_get was.places.items place) (λ held.
      IsSomeAnd (slice_get is.places.items place) (λ left. ServesPlace site (names_of was.names) now held board left shown))
  pub others : is.places.items ≡ with_place place (slice_get is.places.items place) was.places.items
  pub rest : is ≡ record was { places = is.places; last = place }

-- so it is of the place whose turn it is, where there is one, and where the page's address is known
abbrev pub ServesNext : Option SocketAddrV4 → Option ℕ → ℕ → Site → BoardState → Site → BoardState → Type 0
ServesNext None place now was board is shown = (is ≡ was) × (shown ≡ board)
ServesNext (Some site) None now was board is shown = (is ≡ was) × (shown ≡ board)
ServesNext (Some site) (Some place) now was board is shown = ServesAt site place now was board is shown

-- A turn of the site's, at this moment. Those whose time is over go, and nobody else does. What was told of its sockets is noted of each
-- visitor, and told no more. Somebody may be let in, where that was told, or the system refused it until now. Of the visitors who are there then the next has a turn, by this board, at the address
-- and under the names that the site has.
pub record ServesOne (was : Site) (told : Readiness) (board : BoardState) (now : ℕ) (is : Site) (after : Readiness) (shown : BoardState)
    : Type 0 where
  pub closed : Site
  pub late : closed.places.items ≡ map (stays_at now) was.places.items
  pub waiting : closed.may_accept ≡ (was.may_accept || is_over now was.again)
  pub again : closed.again ≡ left_over now was.again
  pub looked : Site
  pub put_off : looked.again ≡ closed.again
  pub noted : map visitor_in looked.places.items ≡ noted_each (map visitor_in closed.places.items) told.visits
  pub accepting : looked.may_accept ≡ (closed.may_accept || told.listener)
  pub came : Came
  pub there : Site
  pub lets : LetsIn now came looked there
  pub address : there.address ≡ was.address
  pub names : names_of there.names ≡ names_of was.names
  pub last : there.last ≡ was.last
  pub forgotten : after ≡ record told { listener = false; visits = replicate MOST_VISITORS no_visit }
  pub next : ServesNext there.address (next_turn there.last there.places.items) now there board is shown
