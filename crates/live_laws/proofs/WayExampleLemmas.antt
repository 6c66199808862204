-- What the worked examples of networks, looks and outlets want shown.
use Rattle.std.proofs.Common.{◌≡◌, inl, inr, ℕ, Bool, [], ◌∷◌, Option, Some, None, ap, subst, arith, ◌⊎◌, zero, suc, ◌+◌, true, false, ◌&&◌, cond, List, ◌++◌, length, take, refl, sym, ◌∙◌}
use Rattle.std.specs.Prelude.{is_some, Result, Err}
use Rattle.std.specs.Global.{Box}
use Rattle.std.specs.declared.net.socket_addr.SocketAddrV4.{SocketAddrV4}
use Rattle.impairment.specs.declared.packet.Packet.{Packet}
use Rattle.live_gateway.specs.declared.admission.Admission.{Admission}
use Rattle.live_gateway.specs.declared.exchange.Exchange.{Exchange}
use Rattle.live_gateway.specs.declared.spoilt_way.SpoiltWay.{SpoiltWay}
use Rattle.live_gateway.specs.Offering.{TakesDue, next_fate}
use Rattle.live_gateway.specs.Passing.{HandsNext, HandsLast, HandsOut, LooksOver, LooksBy, Looks}
use Rattle.live_laws.specs.Example.{at_port}
use Rattle.live_laws.specs.WayExample.{sends_any, none_looks, OffersOne, copy_behind, LooksSeeing, arrival, arrivals}
use Rattle.impairment.specs.declared.fate.Fate.{Fate}
use Rattle.impairment.specs.declared.fate.Fate.TheVariants.{Lost as NeverComes, Once}
use Rattle.impairment.specs.declared.network.BadNetwork.{BadNetwork}
use Rattle.impairment.specs.declared.packet.Way.TheVariants.{In}
use Rattle.impairment.specs.Waiting.{copies_of, put_in, put_all}
use Rattle.message_counts.specs.declared.reporting.Faults.{Faults}
use Rattle.page_state.specs.BoardShowing.{BoardState}
use Rattle.gateway_core.specs.declared.sent.SentMessage.{SentMessage}
use Rattle.gateway_core.specs.GatewayState.{GatewayState}
use Rattle.live_io.specs.Sending.{Received, Grows, found_by}
use Rattle.live_io.specs.declared.surroundings.Fault.{Fault}
use Rattle.live_io.specs.declared.lines.Lines.{Lines}
use Rattle.traces.specs.declared.telling.Mark.{Mark}
use Rattle.traces.specs.declared.telling.Mark.TheVariants.{Lost}
use Rattle.traces.specs.Writing.{Entry, became}
use Rattle.transmission.specs.declared.output.OutDatagram.{OutDatagram}
use Rattle.live_journal.specs.declared.journal.Journal.{Journal}
use Rattle.gateway_core.specs.Outgoing.{own_messages}
use Rattle.live_play.specs.Running.{AreNoted, HandsEach}
use Rattle.live_play.specs.Example.{says, lost_behind_one, loses_the_second, keeps}
use Rattle.live_play.proofs.ExampleLemmas.{none_is_noted, lost_is_noted, alone}
use Rattle.telephone_control.specs.Paging.{IsOf, ShowsOn, ShowsPage}
use Rattle.live_gateway.specs.Admitting.{is_heard, heard_of}
use Rattle.live_gateway.specs.Exchanging.{received_by, read_at, faults_at, FoundSince}
use Rattle.live_gateway.specs.Leaving.{TakesIf}

-- What the worked examples of looks for a datagram want shown.

-- where there is no network, none of its packets is due
pub nothing_due : (now : ℕ) (were : Option (Box SpoiltWay)) (packet : Option Packet) (are : Option (Box SpoiltWay)) → were ≡ None
    → TakesDue now were packet are → packet ≡ None
nothing_due now were packet are none due = (subst (λ (o : Option (Box SpoiltWay)). TakesDue now o packet are) none due).0

-- what is given isn't nothing
pub not_given : (found : SocketAddrV4 × ℕ) → Some found ≡ None → ⊥
not_given found e = cc

-- three aren't too many
pub last_due : (admission : Admission) (was is : Exchange ℕ) → HandsLast 3 admission None [] was is → HandsNext None was is
last_due admission was is (inl due) = due
last_due admission was is (inr many) =
    let all = many.0 in
    absurd (omega (arith, all))

-- of what is kept nothing changes where none is given on
pub still_kept : (count : ℕ) (admission : Admission) (was is : Exchange ℕ) → HandsLast count admission None [] was is → is.journal ≡ was.journal
still_kept count admission was is (inl none) = ap (λ (e : Exchange ℕ). e.journal) none.rest
still_kept count admission was is (inr many) = ap (λ (e : Exchange ℕ). e.journal) many.1

-- nobody looked at the socket: so the network handed it out
pub handed_alone : (admission : Admission) (was is : Exchange ℕ) → LooksOver none_looks admission (Some (at_port 9 2727, 5)) [] was is
    → HandsOut sends_any admission (Some (at_port 9 2727, 5)) [] was is
handed_alone admission was is (inl hands) = hands.1
handed_alone admission was is (inr looks) = absurd looks.looked.looked

-- where there is no network somebody looks at the socket
pub looked_there : (admission : Admission) (given : Option (SocketAddrV4 × ℕ)) (was is : Exchange ℕ) → was.network ≡ None
    → Looks none_looks admission given [] was is → ⊥
looked_there admission given was is none looks =
    (subst (λ (b : Bool). LooksBy none_looks b admission given [] was is) (ap (λ (o : Option (Box SpoiltWay)). is_some o) none) looks).looked.looked

-- ---- what is offered

none_put : (number : ℕ) (waiting : List Packet) → put_all (take number []) waiting ≡ waiting
none_put zero waiting = refl
none_put (suc number) waiting = refl

one_put : (number : ℕ) (packet : Packet) (waiting : List Packet)
    → (put_all (take number (packet ∷ [])) waiting ≡ waiting) ⊎ (put_all (take number (packet ∷ [])) waiting ≡ put_in packet waiting)
one_put zero packet waiting = inl refl
one_put (suc number) packet waiting = inr (none_put number (put_in packet waiting))

-- the copies that wait are those of what is drawn
pub copies_wait : (was : BadNetwork) (fate : Fate) (waiting : List Packet) → next_fate In was ≡ fate
    → put_all (copies_of (next_fate In was) In (at_port 9 2727) (1 ∷ []) 5) waiting ≡ put_all (copies_of fate In (at_port 9 2727) (1 ∷ []) 5) waiting
copies_wait was fate waiting draws = ap (λ (f : Fate). put_all (copies_of f In (at_port 9 2727) (1 ∷ []) 5) waiting) draws

-- where memory is refused some of them may, from the front
pub lost_in_part : (was is : BadNetwork) → next_fate In was ≡ NeverComes → OffersOne (Err tt) was is → is.waiting.items ≡ was.waiting.items
lost_in_part was is draws offers =
    offers.in_part.1
    ∙ ap (λ (f : Fate). put_all (take offers.in_part.0 (copies_of f In (at_port 9 2727) (1 ∷ []) 5)) was.waiting.items) draws
    ∙ none_put offers.in_part.0 was.waiting.items

pub one_in_part : (was is : BadNetwork) → next_fate In was ≡ Once 10 → OffersOne (Err tt) was is
    → (is.waiting.items ≡ was.waiting.items) ⊎ (is.waiting.items ≡ put_in (copy_behind 10) was.waiting.items)
one_in_part was is draws offers =
    let same : is.waiting.items ≡ put_all (take offers.in_part.0 (copy_behind 10 ∷ [])) was.waiting.items =
    offers.in_part.1
    ∙ ap (λ (f : Fate). put_all (take offers.in_part.0 (copies_of f In (at_port 9 2727) (1 ∷ []) 5)) was.waiting.items) draws in
    subst (λ (l : List Packet). (l ≡ was.waiting.items) ⊎ (l ≡ put_in (copy_behind 10) was.waiting.items)) (sym same)
    (one_put offers.in_part.0 (copy_behind 10) was.waiting.items)

-- ---- looks

-- what a look gave is counted, and nothing else
pub counted_between : (seen : Result (Option (SocketAddrV4 × ℕ)) Fault) (was is : Exchange ℕ) → LooksSeeing seen was is
    → (is.read ≡ read_at seen was.read) × (is.faults ≡ faults_at seen was.faults)
counted_between seen was is look = (
  look.7 ∙ look.4.read ∙ ap (λ (o : Result (Option (SocketAddrV4 × ℕ)) Fault). read_at o look.0.read) look.4.looked
      ∙ ap (λ (n : ℕ). read_at seen n) look.5,
  look.8 ∙ look.4.faults ∙ ap (λ (o : Result (Option (SocketAddrV4 × ℕ)) Fault). faults_at o look.0.faults) look.4.looked
      ∙ ap (λ (f : Faults). faults_at seen f) look.6,
)

grew_over : (none : Option (Box SpoiltWay)) (at place : ℕ) (came : List Received) (are : Option (List Received)) → none ≡ None → at ≡ place
    → Grows (received_by none (arrivals at).received) came are → Grows (arrivals place).received came are
grew_over none at place came are without here grows =
    subst (λ (n : ℕ). Grows (arrivals n).received came are) here
    (subst (λ (o : Option (Box SpoiltWay)). Grows (received_by o (arrivals at).received) came are) without grows)

comes_over : (none : Option (Box SpoiltWay)) (at place : ℕ) (came : List Received) (were : Option (List Received)) → none ≡ None → at ≡ place
    → Grows were came (received_by none (arrivals at).received) → Grows were came (arrivals place).received
comes_over none at place came were without here grows =
    subst (λ (n : ℕ). Grows were came (arrivals n).received) here
    (subst (λ (o : Option (Box SpoiltWay)). Grows were came (received_by o (arrivals at).received)) without grows)

-- where nothing is before the sockets, what is found is what came there and is heard
pub found_there : (admission : Admission) (was is : Exchange ℕ) (found : Option (SocketAddrV4 × ℕ)) (room : List ℕ) → was.network ≡ None
    → is.network ≡ None → was.around ≡ 0 → is.around ≡ 1 → FoundSince arrivals admission was found room is
    → found_by found room ≡ heard_of admission (arrival ∷ [])
found_there admission was is found room nobody none first then since =
    let came : arrival ∷ [] ≡ since.0 =
    comes_over is.network is.around 1 since.0 (Some []) none then
    (grew_over was.network was.around 0 since.0 (received_by is.network (arrivals is.around).received) nobody first since.1) in
    sym since.2 ∙ ap (λ (l : List Received). heard_of admission l) (sym came)

pub none_there : (admission : Admission) (was is : Exchange ℕ) (found : Option (SocketAddrV4 × ℕ)) (room : List ℕ) → was.network ≡ None
    → is.network ≡ None → was.around ≡ 0 → is.around ≡ 0 → FoundSince arrivals admission was found room is → found_by found room ≡ []
none_there admission was is found room nobody none first then since =
    let came : [] ≡ since.0 =
    comes_over is.network is.around 0 since.0 (Some []) none then
    (grew_over was.network was.around 0 since.0 (received_by is.network (arrivals is.around).received) nobody first since.1) in
    sym since.2 ∙ ap (λ (l : List Received). heard_of admission l) (sym came)

pub heard_alone : (admission : Admission) (b : Bool) → is_heard admission arrival.source ≡ b
    → heard_of admission (arrival ∷ []) ≡ cond b (arrival ∷ []) []
heard_alone admission b may = ap (λ (x : Bool). cond x (arrival ∷ []) []) may

-- ---- outlets

pub none_said : (a : OutDatagram) (messages : List SentMessage) (said : List (Option Mark)) (marks : List Entry) (from to : ℕ)
    → HandsEach (says None) (a ∷ []) messages from said to → AreNoted 0 said marks → marks ≡ []
none_said a messages [] marks from to each noted = absurd each
none_said a messages (mark ∷ []) marks from to each noted =
    none_is_noted marks (subst (λ (m : Option Mark). AreNoted 0 (m ∷ []) marks) each.1 noted)
none_said a messages (mark ∷ other ∷ said) marks from to each noted = absurd each.2

-- one that is told before anything is handed to it loses what is handed to it first
pub lost_behind : (a : OutDatagram) (messages : List SentMessage) (said : List (Option Mark)) (marks : List Entry) (told to : ℕ) → told ≡ 0 + 1
    → HandsEach loses_the_second (a ∷ []) messages told said to → AreNoted 0 said marks → marks ≡ became Lost 1 ∷ []
lost_behind a messages [] marks told to one each noted = absurd each
lost_behind a messages (mark ∷ []) marks told to one each noted =
    let lost : mark ≡ Some Lost = each.1.1 ∙ ap lost_behind_one one in
    lost_is_noted marks (subst (λ (m : Option Mark). AreNoted 0 (m ∷ []) marks) lost noted)
lost_behind a messages (mark ∷ other ∷ said) marks told to one each noted = absurd each.2

-- what is handed to one that keeps it has the messages of its gateway
pub kept_of : (a : OutDatagram) (one : SentMessage) (messages : List SentMessage) (said : List (Option Mark))
    (told to : List (List SentMessage)) → told ≡ [] → messages ≡ one ∷ [] → length a.bytes ≡ one.size
    → HandsEach keeps (a ∷ []) messages told said to → to ≡ (one ∷ []) ∷ []
kept_of a one messages [] told to none has first each = absurd each
kept_of a one messages (mark ∷ []) told to none has first each =
    each.2 ∙ each.1 ∙ ap (λ (l : List (List SentMessage)). l ++ own_messages a messages ∷ []) none
    ∙ ap (λ (l : List SentMessage). own_messages a l ∷ []) has ∙ ap (λ (n : ℕ). take n (one ∷ []) ∷ []) (alone a one [] first)
kept_of a one messages (mark ∷ other ∷ said) told to none has first each = absurd each.2

-- ---- the page's acts

pub line_left : (asked is_empty is_of_page is_then : Bool) (was is : Journal) (lines left : Lines) → is_empty ≡ false
    → TakesIf (asked && is_empty) was lines is_of_page is left is_then → left ≡ lines
line_left true true is_of_page is_then was is lines left some takes = absurd cc
line_left true false is_of_page is_then was is lines left some takes = takes.1
line_left false is_empty is_of_page is_then was is lines left some takes = takes.1

-- ---- what a page is shown

pub nobody_shown : (gateway : GatewayState) (faults : Faults) (lag : ℕ) (was is : Journal) → was.board ≡ None → ShowsPage gateway faults lag was is
    → is.board ≡ None
nobody_shown gateway faults lag was is none (inl same) = ap (λ (j : Journal). j.board) same ∙ none
nobody_shown gateway faults lag was is none (inr shows) =
    subst (λ (o : Option (Box BoardState)). ShowsOn (IsOf gateway was faults lag) o is.board) none shows.1

shown_on : (gateway : GatewayState) (faults : Faults) (lag : ℕ) (was : Journal) (board shown : Box BoardState) (is : Option (Box BoardState))
    → is ≡ Some shown → ShowsOn (IsOf gateway was faults lag) (Some board) is → IsOf gateway was faults lag shown.value.picture
shown_on gateway faults lag was board shown is there shows =
    (subst (λ (o : Option (Box BoardState)). ShowsOn (IsOf gateway was faults lag) (Some board) o) there shows).0

pub gateway_shown : (gateway : GatewayState) (faults : Faults) (lag : ℕ) (was is : Journal) (board shown : Box BoardState) → was.board ≡ Some board
    → is.board ≡ Some shown → ShowsPage gateway faults lag was is → (is ≡ was) ⊎ IsOf gateway was faults lag shown.value.picture
gateway_shown gateway faults lag was is board shown some there (inl same) = inl same
gateway_shown gateway faults lag was is board shown some there (inr shows) =
    inr (shown_on gateway faults lag was board shown is.board there
    (subst (λ (o : Option (Box BoardState)). ShowsOn (IsOf gateway was faults lag) o is.board) some shows.1))
