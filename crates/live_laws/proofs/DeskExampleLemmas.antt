-- What the worked examples of lines, looks and ends at a desk, and of whom a gateway knows, want shown.
use Rattle.std.proofs.Common.{◌≡◌, ◌⊎◌, inl, inr, ℕ, true, false, List, [], ◌∷◌, Option, None, Some, ◌∙◌, sym, ap, subst, true≢false}
use Rattle.std.specs.Prelude.{IsTrue, IsSomeAnd, Result, Ok, codes, is_some}
use Rattle.std.specs.List.{fold}
use Rattle.std.specs.Net.Addr.{IsLoopbackV4, IsLoopbackV6, MatchIp}
use Rattle.std.specs.Net.Socket.{socket_ip}
use Rattle.std.specs.declared.net.socket_addr.SocketAddr.{SocketAddr}
use Rattle.std.specs.declared.net.socket_addr.SocketAddrV4.{SocketAddrV4}
use Rattle.std.specs.Global.{Box}
use Rattle.endpoint_names.specs.declared.route.Route.{Route}
use Rattle.endpoint_names.specs.declared.route.Route.TheVariants.{One}
use Rattle.endpoint_names.specs.declared.table.Host.{Host}
use Rattle.endpoint_names.specs.Route.{addresses}
use Rattle.gateway_core.specs.GatewayState.{GatewayState}
use Rattle.gateway_core.specs.Stands.{Stands}
use Rattle.plain_machine.specs.Event.{GatewayEvent}
use Rattle.plain_machine.specs.declared.setup.Setup.{Setup}
use Rattle.live_io.specs.Speaking.{nobody, with_host}
use Rattle.live_io.specs.Typing.{left_of}
use Rattle.live_io.specs.declared.lines.Lines.{Lines}
use Rattle.live_io.specs.declared.surroundings.Fault.{Fault}
use Rattle.telephone_control.specs.Asking.{request_in, usage}
use Rattle.telephone_control.specs.declared.telephones.TelephoneRequest.{TelephoneRequest}
use Rattle.telephone_control.specs.declared.telephones.TelephoneRequest.TheVariants.{Counts, OutOfMemory}
use Rattle.telephone_control.specs.declared.telephones.Typist.{Typist}
use Rattle.telephone_control.specs.declared.watch.Watch.{Watch}
use Rattle.live_gateway.specs.declared.admission.Admission.{Admission}
use Rattle.live_gateway.specs.declared.desk.Desk.{Desk}
use Rattle.live_gateway.specs.declared.exchange.Exchange.{Exchange}
use Rattle.live_gateway.specs.declared.spoilt_way.SpoiltWay.{SpoiltWay}
use Rattle.live_gateway.specs.Admitting.{hosts_of, known_to, with_hosts, with_named}
use Rattle.live_gateway.specs.Answering.{AsksToWatch, DoesLine, IsPut, IsRequest, IsTypist}
use Rattle.live_gateway.specs.Ending.{is_stop, AsksForEnd}
use Rattle.live_gateway.specs.Exchanging.{found_at, heard_in, read_at, CountsReceived, LooksHere, LooksOnce}
use Rattle.live_gateway.specs.Naming.{known_word, no_word, with_all, with_each}
use Rattle.live_gateway.specs.Noting.{with_looked}
use Rattle.live_laws.specs.TurnExample.{anywhere}
use Rattle.live_laws.specs.Example.{host, at_port}
use Rattle.live_laws.proofs.Computing.{on_examples}

-- ---- lines

-- a line that nobody sent is typed neither here nor elsewhere
pub nobody_is_here : (lines : Lines) (who : Typist) (typist : IsTypist lines true who) → lines.sender ≡ None → IsTrue typist.is_here → ⊥
nobody_is_here lines who typist none here =
    subst (λ (o : Option SocketAddr). IsSomeAnd o (λ (s : SocketAddr). MatchIp (socket_ip s) IsLoopbackV4 IsLoopbackV6)) none (typist.here.0 here)

pub nobody_is_afar : (lines : Lines) (who : Typist) (typist : IsTypist lines true who) → lines.sender ≡ None → IsTrue typist.is_afar → ⊥
nobody_is_afar lines who typist none afar =
    subst (λ (o : Option SocketAddr). IsSomeAnd o (λ (s : SocketAddr). MatchIp (socket_ip s) IsLoopbackV4 IsLoopbackV6 → ⊥)) none (typist.afar.0 afar)

-- what isn't want of memory is asked for
asks_counts : (request : TelephoneRequest) → (Counts ≡ request) ⊎ (Counts ≡ OutOfMemory) → request ≡ Counts
asks_counts request (inl so) = sym so
asks_counts request (inr none) = absurd cc

pub asked_for : (lines : Lines) (text : List ℕ) (request : IsRequest lines true text Counts) → request_in request.who text ≡ Counts
asked_for lines text request = asks_counts (request_in request.who text) request.asked

pub put_so : (gateway : GatewayState) (events : List GatewayEvent) (answer : List ℕ) → Stands gateway events
    → IsPut gateway (λ (all : List GatewayEvent). codes "a") answer → (answer ≡ codes "! 1 OutOfMemory\n") ⊎ (answer ≡ codes "a")
put_so gateway events answer stands (inl none) = inl none
put_so gateway events answer stands (inr so) = inr (so events stands)

pub page_asks : (gateway : GatewayState) (answer : List ℕ) (was is : Watch) → AsksToWatch None gateway 60 answer was is
    → (answer ≡ codes "! 1 OutOfMemory\n") ⊎ (answer ≡ usage)
page_asks gateway answer was is (inl none) = inl none.0
page_asks gateway answer was is (inr so) = inr so.1

not_empty : (piece : List ℕ) (more all : List (List ℕ)) → all ≡ [] → all ≡ piece ∷ more → ⊥
not_empty piece more [] none some = absurd cc
not_empty piece more (first ∷ rest) none some = absurd cc

pub no_line_left : (was is : Desk ℕ ℕ) → left_of was.lines ≡ []
    → DoesLine (λ (told : ℕ). None) anywhere was is → is ≡ was
no_line_left was is none (inl nothing) = nothing.1
no_line_left was is none (inr line) = absurd (not_empty line.2.0 _ (left_of was.lines) none line.2.1)

-- ---- ends

pub page_asks_for_no_end : (lines : Lines) → lines.sender ≡ None → AsksForEnd lines → ⊥
page_asks_for_no_end lines none asks =
    subst (λ (o : Option SocketAddr). IsSomeAnd o (λ (s : SocketAddr). MatchIp (socket_ip s) IsLoopbackV4 IsLoopbackV6)) none asks.1

pub nobody_asks_for_the_end : (lines : Lines) → left_of lines ≡ [] → AsksForEnd lines → ⊥
nobody_asks_for_the_end lines none asks = true≢false (sym asks.0 ∙ ap is_stop none)

-- ---- looks

pub nothing_found : (was is : Exchange ℕ) (found : Option (SocketAddrV4 × ℕ))
    → LooksOnce (λ (before : ℕ) (outcome : Result (Option (SocketAddrV4 × ℕ)) Fault) (room : List ℕ) (after : ℕ). outcome ≡ Ok None) was found [] is
    → (found ≡ None) × (is.read ≡ was.read)
nothing_found was is found looks = (
  looks.gave ∙ ap found_at looks.looked,
  looks.read ∙ ap (λ (outcome : Result (Option (SocketAddrV4 × ℕ)) Fault). read_at outcome was.read) looks.looked,
)

pub nothing_heard : (admission : Admission) (was is : Exchange ℕ) (given : Option (SocketAddrV4 × ℕ))
    → LooksHere (λ (before : ℕ) (outcome : Result (Option (SocketAddrV4 × ℕ)) Fault) (room : List ℕ) (after : ℕ). outcome ≡ Ok None) admission was given [] is
    → (given ≡ None) × (is.journal.tally.value ≡ was.journal.tally.value)
nothing_heard admission was is given looks =
    let none : looks.0 ≡ None = (nothing_found was is looks.0 looks.1).0 in (
      looks.2 ∙ ap (heard_in admission) none,
      looks.3 ∙ ap (λ (found : Option (SocketAddrV4 × ℕ)). with_looked admission found was.journal.tally.value) none,
    )

is_none : (network : Option (Box SpoiltWay)) → network ≡ None → is_some network ≡ true → ⊥
is_none None none some = absurd cc
is_none (Some way) none some = absurd cc

pub nothing_received : (admission : Admission) (was is : Exchange ℕ) (given : Option (SocketAddrV4 × ℕ)) → was.network ≡ None
    → CountsReceived (λ (before : ℕ) (outcome : Result (Option (SocketAddrV4 × ℕ)) Fault) (room : List ℕ) (after : ℕ). outcome ≡ Ok None) admission was given [] is
    → given ≡ None
nothing_received admission was is given none (inl here) = (nothing_heard admission was is given here.1).0
nothing_received admission was is given none (inr over) = absurd (is_none was.network none over.0)

-- ---- who is known

pub knows_its_agent : (setup : Setup) → setup.agent.route ≡ One (at_port 9 2727) → setup.names.table ≡ []
    → known_to setup ≡ with_host nobody (host 9)
unfolding on_examples known_to
knows_its_agent setup one none =
    ap (λ (table : List Host). fold with_named (with_hosts nobody (addresses (hosts_of setup.agent.route))) table) none
    ∙ ap (λ (route : Route SocketAddrV4). with_hosts nobody (addresses (hosts_of route))) one

pub knows_who_is_named : (setup : Setup) (named : Host) → setup.names.table ≡ named ∷ []
    → known_to setup ≡ with_named (with_hosts nobody (addresses (hosts_of setup.agent.route))) named
unfolding on_examples known_to
knows_who_is_named setup named one =
    ap (λ (table : List Host). fold with_named (with_hosts nobody (addresses (hosts_of setup.agent.route))) table) one

pub tells_its_agent : (setup : Setup) → setup.names.table ≡ []
    → known_word setup ≡ (with_all no_word (addresses (hosts_of setup.agent.route))).text
unfolding on_examples known_word
tells_its_agent setup none =
    ap (λ (table : List Host). (fold with_each (with_all no_word (addresses (hosts_of setup.agent.route))) table).text) none
