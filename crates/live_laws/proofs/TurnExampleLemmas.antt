-- What the worked examples of turns, of visitors and of datagrams want shown.
use Rattle.std.proofs.Common.{◌≡◌, ◌⊎◌, inl, inr, ℕ, Bool, true, false, List, [], ◌∷◌, ◌++◌, Option, None, Some, ◌∙◌, refl, ap, subst}
use Rattle.std.specs.Prelude.{⊤, codes, Result, Ok, Err, IsErr, is_some}
use Rattle.std.specs.Global.{Box}
use Rattle.std.specs.declared.net.socket_addr.SocketAddrV4.{SocketAddrV4}
use Rattle.impairment.specs.declared.fate.Fate.{Fate}
use Rattle.page_state.specs.declared.ring.Kind.TheVariants.{Sent as OfSent}
use Rattle.page_state.specs.BoardShowing.{BoardState}
use Rattle.gateway_core.specs.declared.sent.SentMessage.{SentMessage}
use Rattle.told_messages.specs.Labelling.{sent_label}
use Rattle.told_messages.specs.Showing.{GoesOn, HappenedWith}
use Rattle.traces.specs.declared.telling.Mark.{Mark}
use Rattle.traces.specs.declared.telling.Mark.TheVariants.{Unsent}
use Rattle.live_io.specs.Speaking.{anybody}
use Rattle.live_io.specs.declared.surroundings.Fault.{Fault}
use Rattle.live_system.specs.declared.ending.CommonEnding.{CommonEnding}
use Rattle.live_system.specs.declared.ending.CommonEnding.TheVariants.{OutOfMemory as LacksMemory}
use Rattle.output_queues.specs.declared.record.RecordState.{RecordState}
use Rattle.output_queues.specs.declared.record.RecordState.TheVariants.{Off, On, OutOfMemory}
use Rattle.log_format.specs.declared.note.Note.{Note}
use Rattle.output_queues.specs.declared.record.Record.{Record}
use Rattle.told_messages.specs.Recording.{Puts}
use Rattle.told_messages.specs.declared.log.Log.{Log}
use Rattle.live_journal.specs.Spoiling.{fate_note, Notes as NotesOf}
use Rattle.output_queues.specs.declared.written.Written.{Written}
use Rattle.live_system.specs.Ending.{served_ending}
use Rattle.output_queues.specs.Written.{faults_in}
use Rattle.live_journal.specs.declared.trace.Trace.{Trace}
use Rattle.live_gateway.specs.declared.admission.Admission.{Admission}
use Rattle.live_gateway.specs.declared.desk.Desk.{Desk}
use Rattle.live_gateway.specs.declared.exchange.Exchange.{Exchange}
use Rattle.live_gateway.specs.declared.spoilt_way.SpoiltWay.{SpoiltWay}
use Rattle.live_gateway.specs.Ending.{is_record_refused, IsCounted, EndsWith}
use Rattle.live_gateway.specs.Exchanging.{mark_of, NotesFate, TakesOver, IsSentSo, SendsOver, Becomes, CountsReceived}
use Rattle.live_gateway.specs.Visiting.{ServesOnce}
use Rattle.live_gateway.specs.Desk.{Standing, MayRefuse}
use Rattle.live_play.specs.Running.{Live}
use Rattle.gateway_core.specs.Wire.{counted}
use Rattle.gateway_core.specs.Stands.{Stands}
use Rattle.machine_rules.specs.declared.refusal.Refusal.{Refusal}
use Rattle.machine_rules.specs.declared.refusal.Refusal.TheVariants.{OutOfMemory as OfMemory}
use Rattle.mg_line.specs.declared.phone.Act.TheVariants.{OffHook}
use Rattle.plain_machine.specs.Event.{GatewayEvent, datagram, phone, tick}
use Rattle.plain_machine.specs.Lists.{plain}
use Rattle.plain_machine.specs.Machine.{Machine}
use Rattle.plain_machine.specs.Refusing.{Ends, refusal_of}
use Rattle.plain_machine.proofs.EndLaws.{ends_well, ends_by_memory}
use Rattle.traces.specs.Writing.{Input, arrived, passed}
use Rattle.live_laws.specs.TurnExample.{one, CanFreely, TriesNowhere, TriesOffHook, HandsNowhere, HandsWith}

-- ---- the end

-- memory was refused for a record: so it ends
pub refused_ends : {S W : Type 0} (ends : List ℕ → W → Written → W → Type 0) (desk : Desk S Trace) (was is : W) (ending : CommonEnding)
    → is_record_refused desk.play.teller desk.exchange.journal ≡ true → EndsWith ends desk was is ending → ending ≡ LacksMemory
refused_ends ends desk was is ending refused (inl none) = none.1
refused_ends ends desk was is ending refused (inr told) = told.4 ∙ ap (λ (b : Bool). served_ending b (faults_in told.1)) refused

-- what was counted is said last, or memory was refused for it
pub counts_end : {S W : Type 0} (last : List ℕ) (desk : Desk S Trace) (was is : W) (ending : CommonEnding)
    → EndsWith (λ (words : List ℕ) (before : W) (written : Written) (after : W). words ≡ last) desk was is ending
    → (ending ≡ LacksMemory) ⊎ IsCounted desk last
counts_end last desk was is ending (inl none) = inl none.1
counts_end last desk was is ending (inr told) = inr (subst (λ (words : List ℕ). IsCounted desk words) told.3 told.2)

-- ---- visitors

pub nobody_served : (one : Box ℕ) (board : Box BoardState) (left : Option (Box ℕ)) (shown : Option (Box BoardState))
    → ServesOnce {V = ℕ} {S = ℕ} (λ v s b at w t c. ⊥) 5 (Some one) 0 (Some board) left 0 shown → ⊥
nobody_served one board None shown served = served
nobody_served one board (Some left) None served = served
nobody_served one board (Some left) (Some shown) served = served

-- ---- datagrams

not_both : (b : Bool) → b ≡ true → b ≡ false → ⊥
not_both true some none = cc
not_both false some none = cc

-- nothing is found of a socket that isn't looked at
pub nobody_looked : {S : Type 0} (admission : Admission) (was is : Exchange S) (given : Option (SocketAddrV4 × ℕ)) (room : List ℕ)
    → is_some was.network ≡ false → CountsReceived
    (λ (before : S) (outcome : Result (Option (SocketAddrV4 × ℕ)) Fault) (room : List ℕ) (after : S). ⊥) admission was given room is → ⊥
nobody_looked admission was is given room none (inl here) = here.1.1.looked
nobody_looked admission was is given room none (inr over) = not_both (is_some was.network) over.0 none

nobody_over : {S : Type 0} (to : SocketAddrV4) (bytes : List ℕ) (now : ℕ) (became : Result Fate Fault) (next : Option (Box SpoiltWay)) (before after : S)
    → SendsOver (λ (before : S) (to : SocketAddrV4) (bytes : List ℕ) (sent : Result ⊤ Fault) (after : S). ⊥) to bytes now became None before next after → ⊥
nobody_over to bytes now became None before after so = so.1
nobody_over to bytes now became (Some way) before after so = so

-- nothing becomes of what isn't handed to a socket
pub nobody_sends : {S : Type 0} (was is : Exchange S) (to : SocketAddrV4) (bytes : List ℕ) (became : Result Fate Fault) → was.network ≡ None
    → Becomes (λ (before : S) (to : SocketAddrV4) (bytes : List ℕ) (sent : Result ⊤ Fault) (after : S). ⊥) was to bytes became is → ⊥
nobody_sends {S} was is to bytes became none sends =
    nobody_over to bytes was.now.clock became is.network was.around is.around
    (subst (λ (o : Option (Box SpoiltWay)). SendsOver (λ (before : S) (to : SocketAddrV4) (bytes : List ℕ) (sent : Result ⊤ Fault) (after : S). ⊥) to bytes
    was.now.clock became o was.around is.network is.around) none sends)

-- one that couldn't be sent is noted as unsent
unsent_of : (became : Result Fate Fault) → IsErr became → mark_of became ≡ Some Unsent
unsent_of (Ok fate) failed = absurd cc
unsent_of (Err fault) failed = refl

unsent_over : (became : Result Fate Fault) (before after : ℕ)
    → SendsOver (λ (before : ℕ) (to : SocketAddrV4) (bytes : List ℕ) (sent : Result ⊤ Fault) (after : ℕ). IsErr sent) one.0 [] 0 became None before None after
    → IsErr became
unsent_over became before after so = failed so.0 so.1 so.2 where
  failed : (sent : Result ⊤ Fault) → IsErr sent → IsSentSo sent became → IsErr became
  failed (Ok all) err is = absurd cc
  failed (Err fault) err is = is

unsent_now : (now : ℕ) (became : Result Fate Fault) (network next : Option (Box SpoiltWay)) (before after : ℕ) → network ≡ None → next ≡ None
    → SendsOver (λ (before : ℕ) (to : SocketAddrV4) (bytes : List ℕ) (sent : Result ⊤ Fault) (after : ℕ). IsErr sent) one.0 [] now became network before next after
    → IsErr became
unsent_now now became None None before after none still so = unsent_over became before after so
unsent_now now became (Some way) next before after none still so = absurd cc
unsent_now now became None (Some way) before after none still so = absurd cc

pub nothing_is_sent : (mark : Option Mark) (was is : Exchange ℕ) → was.network ≡ None → is.network ≡ None → HandsNowhere mark was is → mark ≡ Some Unsent
nothing_is_sent mark was is none still hands =
    hands.became.2
    ∙ unsent_of hands.became.0 (unsent_now was.now.clock hands.became.0 was.network is.network was.around is.around none still hands.became.1)

-- the page is shown a datagram with the label of its message
pub page_has_label : (message : SentMessage) (was is : Exchange ℕ) (board shown : Box BoardState) → was.journal.board ≡ Some board
    → is.journal.board ≡ Some shown → HandsWith message was is
    → HappenedWith was.now.clock OfSent one.0 [] (sent_label message ∷ []) board.value shown.value
page_has_label message was is board shown before after hands =
    subst (λ (o : Option (Box BoardState)). GoesOn (HappenedWith was.now.clock OfSent one.0 [] (sent_label message ∷ [])) (Some board) o) after
    (subst (λ (o : Option (Box BoardState)). GoesOn (HappenedWith was.now.clock OfSent one.0 [] (sent_label message ∷ [])) o is.journal.board) before hands.shown)

-- an event was taken, or refused
pub taken_keeps : (was is : Live) (input : Input) (event : GatewayEvent) (from to : Exchange ℕ)
    → TakesOver (λ (before : ℕ) (at : SocketAddrV4) (bytes : List ℕ) (sent : Result ⊤ Fault) (after : ℕ). ⊤) anybody was from input event is to
    → (to.faults.refused ≡ from.faults.refused) × (to.read ≡ from.read) × (to.now ≡ from.now)
taken_keeps was is input event from to takes = (
  ap (λ (x : Exchange ℕ). x.faults.refused) takes.noted.rest ∙ takes.only.refused,
  ap (λ (x : Exchange ℕ). x.read) takes.noted.rest ∙ takes.only.read,
  ap (λ (x : Exchange ℕ). x.now) takes.noted.rest ∙ takes.only.turn.0,
)

pub tried_counts : (was is : Standing) (input : Input) (event : GatewayEvent) (from to : Exchange ℕ) → TriesNowhere input event was from is to
    → (is.came.refused ≡ was.came.refused) ⊎ (to.faults.refused ≡ counted from.faults.refused 1)
tried_counts was is input event from to (inl takes) = inl takes.1
tried_counts was is input event from to (inr misses) = inr (ap (λ (x : Exchange ℕ). x.faults.refused) misses.1.rest)

-- what can be done, and wants no memory, isn't refused
never_refused : (m : Machine) (event : GatewayEvent) (refusal : Refusal) → CanFreely m event → Ends m event (Some refusal) → ⊥
never_refused m event refusal can ends =
    let none : Some refusal ≡ None = ends_well m event (Some refusal) can.0 can.1 ends in
    cc

pub freely_ticks : (was is : Standing) (events : List GatewayEvent) (from to : Exchange ℕ) → Stands was.live.gateway events
    → CanFreely (plain was.live.gateway.setup events) (tick 5) → TriesNowhere (passed 5) (tick 5) was from is to
    → is.came.refused ≡ was.came.refused
freely_ticks was is events from to stands can (inl takes) = takes.1
freely_ticks was is events from to stands can (inr misses) =
    absurd (never_refused (plain was.live.gateway.setup events) (tick 5) misses.3 can (misses.4 events stands))

pub freely_done : (was is : Standing) (events : List GatewayEvent) (from to : Exchange ℕ) (answer : List ℕ) → Stands was.live.gateway events
    → CanFreely (plain was.live.gateway.setup events) (phone 1 OffHook) → TriesOffHook answer was from is to → answer ≡ codes "done\n"
freely_done was is events from to answer stands can (inl takes) = takes.2
freely_done was is events from to answer stands can (inr misses) =
    absurd (never_refused (plain was.live.gateway.setup events) (phone 1 OffHook) misses.0 can (misses.7 events stands can.0))

-- a datagram always can be taken
datagram_can : (m : Machine) (source : SocketAddrV4) (bytes : List ℕ) → refusal_of m (datagram source bytes) ≡ None
unfolding refusal_of
datagram_can m source bytes = refl

pub heard_or_unremembered : (was is : Standing) (from to : Exchange ℕ) → Stands was.live.gateway []
    → TriesNowhere (arrived one.0 []) (datagram one.0 []) was from is to
    → (is.came.refused ≡ was.came.refused) ⊎ MayRefuse was.live.gateway (datagram one.0 []) OfMemory
heard_or_unremembered was is from to stands (inl takes) = inl takes.1
heard_or_unremembered was is from to stands (inr misses) =
    let why : misses.3 ≡ OfMemory = ends_by_memory (plain was.live.gateway.setup []) (datagram one.0 []) misses.3
    (datagram_can (plain was.live.gateway.setup []) one.0 []) (misses.4 [] stands) in
    inr (subst (λ (refusal : Refusal). MayRefuse was.live.gateway (datagram one.0 []) refusal) why misses.4)

-- ---- what is noted

-- a log that is told all, and still is, has a text behind what it had
pub noted_on : (state : RecordState) (were text : List ℕ) (next : RecordState) (are : List ℕ) → state ≡ On → next ≡ On → Puts state were text next are
    → are ≡ were ++ text
noted_on Off were text next are on still puts = absurd cc
noted_on On were text next are on still (inl put) = put.1
noted_on On were text next are on still (inr refused) =
    let other : next ≡ OutOfMemory = refused.0 in
    absurd cc
noted_on OutOfMemory were text next are on still puts = absurd cc

-- one for which memory was refused is told nothing more
still_refused : (state : RecordState) (were text : List ℕ) (next : RecordState) (are : List ℕ) → state ≡ OutOfMemory → Puts state were text next are
    → next ≡ OutOfMemory
still_refused Off were text next are refused puts = absurd cc
still_refused On were text next are refused puts = absurd cc
still_refused OutOfMemory were text next are refused puts = puts.0

-- two texts stand one behind the other
pub both_on : (state : RecordState) (were one : List ℕ) (mid : RecordState) (between two : List ℕ) (next : RecordState) (are : List ℕ)
    → state ≡ On → next ≡ On → Puts state were one mid between → Puts mid between two next are → are ≡ (were ++ one) ++ two
both_on Off were one mid between two next are on still first second = absurd cc
both_on On were one mid between two next are on still (inl put) second =
    noted_on mid between two next are put.0 still second ∙ ap (λ (text : List ℕ). text ++ two) put.1
both_on On were one mid between two next are on still (inr refused) second =
    let other : next ≡ OutOfMemory = still_refused mid between two next are refused.0 second in
    absurd cc
both_on OutOfMemory were one mid between two next are on still first second = absurd cc

-- one that is told nothing has what it had
pub puts_off : (state : RecordState) (were text : List ℕ) (next : RecordState) (are : List ℕ) → state ≡ Off → Puts state were text next are
    → (next ≡ Off) × (are ≡ were)
puts_off Off were text next are off puts = puts
puts_off On were text next are off puts = absurd cc
puts_off OutOfMemory were text next are off puts = absurd cc

noted_off : (was : Record) (time : ℕ) (to : SocketAddrV4) (note : Option Note) (is : Record) → was.state ≡ Off → NotesOf was time to note is
    → is.out.items ≡ was.out.items
noted_off was time to None is off same = ap (λ (x : Record). x.out.items) same
noted_off was time to (Some note) is off puts = (puts_off was.state was.out.items _ is.state is.out.items off puts).1

pub fate_off : (time : ℕ) (to : SocketAddrV4) (became : Result Fate Fault) (was is : Log) → was.record.state ≡ Off → NotesFate time to became was is
    → is.record.out.items ≡ was.record.out.items
fate_off time to (Ok fate) was is off notes = noted_off was.record time to (fate_note fate) is.record off notes.0
fate_off time to (Err fault) was is off notes =
    (puts_off was.record.state was.record.out.items _ is.record.state is.record.out.items off notes.0).1
