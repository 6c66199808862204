-- Who acts: what a request that works a telephone must be.
use Rattle.std.proofs.Common.{inl, inr, ◌≡◌, ◌⊎◌, ℕ, refl, sym, Bool, true, false, if◌then◌else◌, IsTrue, List, [], codes, Option, Some, None}
use Rattle.std.specs.Prelude.{◌&&◌, not, bytes_eq, is_some}
use Rattle.std.specs.declared.net.socket_addr.SocketAddrV4.{SocketAddrV4}
use Rattle.http.specs.Uri.{uri_path, uri_query, uri_authority}
use Rattle.http.specs.declared.request.Parts.{Parts}
use Rattle.page_http.specs.declared.route.Route.{Route}
use Rattle.page_http.specs.declared.route.Route.TheVariants.{Page, Style, Script, State, Metrics, Health, Ready, Events, Phone, Nothing}
use Rattle.page_http.specs.declared.asked.Asked.{Asked}
use Rattle.page_http.specs.declared.asked.Asked.TheVariants.{Strange, Reading, Acting, Forbidden, Unsuited}
use Rattle.page_http.specs.Access.{is_anywhere}
use Rattle.page_http.specs.Asking.{field, is_known, is_at_home, has_name, is_by_name, may_change, asked_at, asked_by_name, asked_as, asked_of, route_of}

reads : (is_read : Bool) (route : Route) → (if is_read then Reading route else Unsuited false) ≡ Acting → ⊥
reads true route e = cc
reads false route e = cc

-- what acts by its method is a POST that may change something
acts : (posts may : Bool) → (if posts then (if may then Acting else Forbidden) else Unsuited true) ≡ Acting
    → IsTrue posts × IsTrue may
acts true true e = (refl, refl)
acts true false e = absurd cc
acts false may e = absurd cc

home : (is_home is_named : Bool) (there named : Asked) → (named ≡ Acting → ⊥) → (if is_home then there else if is_named then named else Strange) ≡ Acting
    → IsTrue is_home × (there ≡ Acting)
home true is_named there named never e = (refl, e)
home false true there named never e = absurd (never e)
home false false there named never e = absurd cc

acts_there : (site : SocketAddrV4) (head : Parts) (route : Route) → asked_at site head route ≡ Acting
    → IsTrue (bytes_eq head.method (codes "POST")) × IsTrue (may_change site head)
acts_there site head Nothing e = absurd cc
acts_there site head Phone e = acts (bytes_eq head.method (codes "POST")) (may_change site head) e
acts_there site head Page e = absurd (reads (bytes_eq head.method (codes "GET")) Page e)
acts_there site head Style e = absurd (reads (bytes_eq head.method (codes "GET")) Style e)
acts_there site head Script e = absurd (reads (bytes_eq head.method (codes "GET")) Script e)
acts_there site head State e = absurd (reads (bytes_eq head.method (codes "GET")) State e)
acts_there site head Metrics e = absurd (reads (bytes_eq head.method (codes "GET")) Metrics e)
acts_there site head Health e = absurd (reads (bytes_eq head.method (codes "GET")) Health e)
acts_there site head Ready e = absurd (reads (bytes_eq head.method (codes "GET")) Ready e)
acts_there site head (Events after) e = absurd (reads (bytes_eq head.method (codes "GET")) (Events after) e)

-- nothing acts by a further name
never_by_name : (head : Parts) (route : Route) → asked_by_name head route ≡ Acting → ⊥
never_by_name head Nothing e = cc
never_by_name head Phone e = cc
never_by_name head Page e = cc
never_by_name head Style e = cc
never_by_name head Script e = cc
never_by_name head State e = cc
never_by_name head (Events after) e = cc
never_by_name head Metrics e = reads (bytes_eq head.method (codes "GET")) Metrics e
never_by_name head Health e = reads (bytes_eq head.method (codes "GET")) Health e
never_by_name head Ready e = reads (bytes_eq head.method (codes "GET")) Ready e

acts_here : (site : SocketAddrV4) (names : List (List ℕ)) (head : Parts) (route : Route) → asked_as site names head route ≡ Acting
    → IsTrue (is_at_home site head) × (asked_at site head route ≡ Acting)
acts_here site names head route e =
    home (is_at_home site head) (is_by_name names head) (asked_at site head route) (asked_by_name head route) (never_by_name head route) e

-- a request that acts is for this page
pub acts_at_home : (site : SocketAddrV4) (names : List (List ℕ)) (head : Parts) → asked_of site names head ≡ Acting → IsTrue (is_at_home site head)
acts_at_home site names head e = (acts_here site names head (route_of (uri_path head.uri) (uri_query head.uri)) e).0

-- it is a POST that may change something
pub acts_by_post : (site : SocketAddrV4) (names : List (List ℕ)) (head : Parts) → asked_of site names head ≡ Acting
    → IsTrue (bytes_eq head.method (codes "POST")) × IsTrue (may_change site head)
acts_by_post site names head e =
    acts_there site head (route_of (uri_path head.uri) (uri_query head.uri))
    (acts_here site names head (route_of (uri_path head.uri) (uri_query head.uri)) e).1

strange : (is_home is_named : Bool) (there named : Asked) → is_home ≡ false → is_named ≡ false
    → (if is_home then there else if is_named then named else Strange) ≡ Strange
strange is_home is_named there named e f = rw (e, f) refl

pub asked_strange : (site : SocketAddrV4) (names : List (List ℕ)) (head : Parts) → is_at_home site head ≡ false → is_by_name names head ≡ false
    → asked_of site names head ≡ Strange
asked_strange site names head e f =
    let route = route_of (uri_path head.uri) (uri_query head.uri) in
    strange (is_at_home site head) (is_by_name names head) (asked_at site head route) (asked_by_name head route) e f

-- ---- further names

unnamed : (host : Option (List ℕ)) → has_name [] host ≡ false
unnamed None = refl
unnamed (Some host) = refl

and_not : (a b : Bool) → b ≡ false → (a && b) ≡ false
and_not true b e = e
and_not false b e = refl

pub nameless : (head : Parts) → is_by_name [] head ≡ false
nameless head = and_not (not (is_some (uri_authority head.uri))) (has_name [] (field head (codes "host"))) (unnamed (field head (codes "host")))

by_get : (is_read : Bool) (here route : Route) → (if is_read then Reading here else Unsuited false) ≡ Reading route → route ≡ here
by_get true here route e = cc
by_get false here route e = absurd cc

told_by_name : (head : Parts) (here route : Route) → asked_by_name head here ≡ Reading route → (route ≡ Metrics) ⊎ ((route ≡ Health) ⊎ (route ≡ Ready))
told_by_name head Nothing route e = absurd cc
told_by_name head Phone route e = absurd cc
told_by_name head Page route e = absurd cc
told_by_name head Style route e = absurd cc
told_by_name head Script route e = absurd cc
told_by_name head State route e = absurd cc
told_by_name head (Events after) route e = absurd cc
told_by_name head Metrics route e = inl (by_get (bytes_eq head.method (codes "GET")) Metrics route e)
told_by_name head Health route e = inr (inl (by_get (bytes_eq head.method (codes "GET")) Health route e))
told_by_name head Ready route e = inr (inr (by_get (bytes_eq head.method (codes "GET")) Ready route e))

elsewhere : (is_home is_named : Bool) (there named told : Asked) → is_home ≡ false → (told ≡ Strange → ⊥)
    → (if is_home then there else if is_named then named else Strange) ≡ told → named ≡ told
elsewhere true is_named there named told e other same = absurd cc
elsewhere false true there named told e other same = same
elsewhere false false there named told e other same = absurd (other (sym same))

no_reading : (route : Route) → Reading route ≡ Strange → ⊥
no_reading route e = cc

pub counts_by_name : (site : SocketAddrV4) (names : List (List ℕ)) (head : Parts) (route : Route) → is_at_home site head ≡ false
    → asked_of site names head ≡ Reading route → (route ≡ Metrics) ⊎ ((route ≡ Health) ⊎ (route ≡ Ready))
counts_by_name site names head route e told =
    let here = route_of (uri_path head.uri) (uri_query head.uri) in
    told_by_name head here route
    (elsewhere (is_at_home site head) (is_by_name names head) (asked_at site head here) (asked_by_name head here) (Reading route) e (no_reading route) told)

-- ---- a page at each address

nowhere : (site : SocketAddrV4) (host : Option (List ℕ)) → IsTrue (is_anywhere site) → is_known site host ≡ false
nowhere site None is = refl
nowhere site (Some host) is = rw is refl

pub never_at_home : (site : SocketAddrV4) (head : Parts) → IsTrue (is_anywhere site) → is_at_home site head ≡ false
never_at_home site head is =
    and_not (not (is_some (uri_authority head.uri))) (is_known site (field head (codes "host"))) (nowhere site (field head (codes "host")) is)
