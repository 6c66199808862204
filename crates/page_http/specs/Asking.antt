-- What a request asks for, and whether it gets it.
use Rattle.std.specs.Prelude.{ℕ, Bool, true, false, not, ◌&&◌, codes, if◌then◌else◌, List, [], ◌∷◌, map, take, drop, nat_eq, bytes_eq, is_some, Option, Some, None}
use Rattle.std.specs.Cmp.Lexicographic.{pointwise}
use Rattle.std.specs.declared.net.socket_addr.SocketAddrV4.{SocketAddrV4}
use Rattle.http.specs.HeaderMap.{get_all}
use Rattle.http.specs.Uri.{uri_path, uri_query, uri_authority}
use Rattle.http.specs.declared.request.Parts.{Parts}
use Rattle.mg_bytes.specs.Numbers.{decimal_of}
use Rattle.page_http.specs.declared.route.Route.{Route}
use Rattle.page_http.specs.declared.route.Route.TheVariants.{Page, Style, Script, State, Metrics, Health, Ready, Events, Phone, Nothing}
use Rattle.page_http.specs.declared.asked.Asked.{Asked}
use Rattle.page_http.specs.declared.asked.Asked.TheVariants.{Strange, Reading, Acting, Forbidden, Unsuited, Missing}
use Rattle.page_http.specs.Access.{only, is_known_host, is_same_origin, is_json}
use Rattle.page_http.specs.Naming.{is_named}

-- since which event is asked: `after=N`, or all
abbrev pub after_of : Option (List ℕ) → Option ℕ
after_of None = Some 0
after_of (Some query) = if pointwise nat_eq (take 6 query) (codes "after=") then decimal_of (drop 6 query) else None

abbrev pub events_route : Option ℕ → Route
events_route None = Nothing
events_route (Some after) = Events after

-- what stands at a path
abbrev pub route_of : List ℕ → Option (List ℕ) → Route
route_of path query =
    if bytes_eq path (codes "/") then Page
    else if bytes_eq path (codes "/page.css") then Style
    else if bytes_eq path (codes "/page.js") then Script
    else if bytes_eq path (codes "/state") then State
    else if bytes_eq path (codes "/metrics") then Metrics
    else if bytes_eq path (codes "/healthz") then Health
    else if bytes_eq path (codes "/readyz") then Ready
    else if bytes_eq path (codes "/phone") then Phone
    else if bytes_eq path (codes "/events") then events_route (after_of query)
    else Nothing

-- the one value of a field of a request's head
abbrev pub field : Parts → List ℕ → Option (List ℕ)
field head name = only (map (λ value. value.bytes) (get_all head.headers name))

abbrev pub is_known : SocketAddrV4 → Option (List ℕ) → Bool
is_known site None = false
is_known site (Some host) = is_known_host site host

-- the request is for this page: its Host is known, and its target is a path alone (RFC 9112, 3.2)
abbrev pub is_at_home : SocketAddrV4 → Parts → Bool
is_at_home site head = not (is_some (uri_authority head.uri)) && is_known site (field head (codes "host"))

-- the request may change something: a page of this site sent it, and no form
abbrev pub may_change : SocketAddrV4 → Parts → Bool
may_change site head =
    is_same_origin site (field head (codes "host")) (field head (codes "origin"))
    && is_json (field head (codes "content-type"))

abbrev pub reading_by : List ℕ → Route → Asked
reading_by method route = if bytes_eq method (codes "GET") then Reading route else Unsuited false

abbrev pub acting_by : SocketAddrV4 → Parts → Asked
acting_by site head =
    if bytes_eq head.method (codes "POST") then (if may_change site head then Acting else Forbidden) else Unsuited true

abbrev pub asked_at : SocketAddrV4 → Parts → Route → Asked
asked_at site head Nothing = Missing
asked_at site head Phone = acting_by site head
asked_at site head Page = reading_by head.method Page
asked_at site head Style = reading_by head.method Style
asked_at site head Script = reading_by head.method Script
asked_at site head State = reading_by head.method State
asked_at site head Metrics = reading_by head.method Metrics
asked_at site head Health = reading_by head.method Health
asked_at site head Ready = reading_by head.method Ready
asked_at site head (Events after) = reading_by head.method (Events after)

abbrev pub has_name : List (List ℕ) → Option (List ℕ) → Bool
has_name names None = false
has_name names (Some host) = is_named names host

-- the request is for a further name: its target is a path alone
abbrev pub is_by_name : List (List ℕ) → Parts → Bool
is_by_name names head = not (is_some (uri_authority head.uri)) && has_name names (field head (codes "host"))

-- under such a name it is read whether the gateway is well, and what was counted; nothing else is, and nothing is done
abbrev pub asked_by_name : Parts → Route → Asked
asked_by_name head Metrics = reading_by head.method Metrics
asked_by_name head Health = reading_by head.method Health
asked_by_name head Ready = reading_by head.method Ready
asked_by_name head Nothing = Strange
asked_by_name head Phone = Strange
asked_by_name head Page = Strange
asked_by_name head Style = Strange
asked_by_name head Script = Strange
asked_by_name head State = Strange
asked_by_name head (Events after) = Strange

abbrev pub asked_as : SocketAddrV4 → List (List ℕ) → Parts → Route → Asked
asked_as site names head route =
    if is_at_home site head then asked_at site head route
    else if is_by_name names head then asked_by_name head route else Strange

-- a request for another host is told nothing; who reads gets it; who acts has to be a page of this site
abbrev pub asked_of : SocketAddrV4 → List (List ℕ) → Parts → Asked
asked_of site names head = asked_as site names head (route_of (uri_path head.uri) (uri_query head.uri))
