-- What a turn does, from what its calls say.
use Rattle.std.proofs.Common.{◌≡◌, ◌⊎◌, inl, inr, ℕ, ◌+◌, ◌<◌, ◌≤◌, ◌^◌, [], sym, ◌∙◌, ap, subst, arith}
use Rattle.std.specs.Prelude.{⊤, not, is_ok, Result, Ok, Err, OnOk, OnErr, List}
use Rattle.std.specs.Result.{result_err}
use Rattle.std.specs.declared.net.socket_addr.SocketAddrV4.{SocketAddrV4}
use Rattle.gateway_core.specs.Stands.{Stands}
use Rattle.gateway_core.specs.Wire.{counted}
use Rattle.machine_rules.specs.declared.refusal.Refusal.{Refusal}
use Rattle.plain_machine.specs.Event.{GatewayEvent}
use Rattle.plain_machine.specs.Lists.{plain}
use Rattle.plain_machine.specs.Refusing.{Ends}
use Rattle.traces.specs.Writing.{Input}
use Rattle.turns.specs.declared.schedule.Schedule.{Schedule}
use Rattle.turns.specs.declared.situation.Situation.{Situation}
use Rattle.turns.specs.declared.turn.Turn.{Turn}
use Rattle.turns.specs.declared.turn.Turn.TheVariants.{Tick}
use Rattle.turns.specs.Schedule.{next_of}
use Rattle.turns.proofs.ScheduleLaws.{ticks_within}
use Rattle.output_queues.specs.declared.now.Now.{Now}
use Rattle.live_journal.specs.Writing.{WriterBy}
use Rattle.live_play.specs.Running.{Live, Ran, Takes, TakesBy}
use Rattle.live_gateway.specs.Desk.{Standing, with_input}
use Rattle.live_play.specs.Readable.{first_unread}
use Rattle.live_io.specs.Speaking.{Admitted}
use Rattle.live_io.specs.declared.surroundings.Fault.{Fault}
use Rattle.live_gateway.specs.declared.desk.Desk.{Desk}
use Rattle.live_gateway.specs.declared.exchange.Exchange.{Exchange}
use Rattle.live_gateway.specs.Exchanging.{OnlyWrites, IsTold, HandsOver, NotesTaken, NotesRefused, TakesOver}
use Rattle.live_gateway.specs.Turning.{Tries, TurnsAndWrites, RunsTurns}
use Rattle.live_gateway.proofs.EndingLemmas.{wrote_once_more}
use Rattle.live_gateway.proofs.OverLemmas.{takes_over}

-- it was taken over an exchange, or refused, and that is counted
pub tries : {S A : Type 0} (sends : S → SocketAddrV4 → List ℕ → Result ⊤ Fault → S → Type 0) (admitted : Admitted) (input : Input)
    (event : GatewayEvent) (done : Result A Refusal) (was mid is : Standing) (from sent to : Exchange S)
    → OnOk done (TakesBy (λ a gateway b. IsTold a gateway b) (λ a at bytes own mark b. HandsOver sends a at bytes own mark b)
    was.live from input event mid.live sent)
    → OnErr done (sent ≡ from) → OnErr done (Ran was.live [] mid.live)
    → OnOk done (NotesTaken admitted event mid.live.gateway sent to) → OnErr done (NotesRefused event sent to)
    → mid.came.refused ≡ was.came.refused → is ≡ with_input (not (is_ok done)) mid
    → ((events : List GatewayEvent) → Stands was.live.gateway events → Ends (plain was.live.gateway.setup events) event (result_err done))
    → Tries sends admitted input event was from is to
tries sends admitted input event (Ok done) was mid is from sent to takes stays misses notes lacks counts same ends =
    inl (
      subst (λ (s : Standing). TakesOver sends admitted was.live from input event s.live to) (sym same)
          (takes_over sends admitted was.live from sent to input event mid.live takes notes),
      ap (λ (s : Standing). s.came.refused) same ∙ counts,
    )
tries {S} sends admitted input event (Err why) was mid is from sent to takes stays misses notes lacks counts same ends =
    inr (
      subst (λ (s : Standing). Ran was.live [] s.live) (sym same) misses,
      subst (λ (x : Exchange S). NotesRefused event x to) stays lacks,
      ap (λ (s : Standing). s.came.refused) same ∙ ap (λ (n : ℕ). counted n 1) counts,
      why,
      ends,
    )

-- a play that stands so
pub takes_from : {S A B : Type 0} (sends : S → SocketAddrV4 → List ℕ → Result ⊤ Fault → S → Type 0) (input : Input) (event : GatewayEvent)
    (done : Result A B) (was there is : Live) (from sent : Exchange S) → there ≡ was
    → OnOk done (TakesBy (λ a gateway b. IsTold a gateway b) (λ a at bytes own mark b. HandsOver sends a at bytes own mark b) there from input event is sent)
    → OnOk done (TakesBy (λ a gateway b. IsTold a gateway b) (λ a at bytes own mark b. HandsOver sends a at bytes own mark b) was from input event is sent)
takes_from {S} sends input event done was there is from sent same takes =
    subst (λ (x : Live). OnOk done (TakesBy {O = Exchange S} (λ a gateway b. IsTold a gateway b)
    (λ a at bytes own mark b. HandsOver sends a at bytes own mark b) x from input event is sent)) same takes

pub taken_from : {A B : Type 0} (done : Result A B) (input : Input) (event : GatewayEvent) (there was is : Live) → there ≡ was
    → OnOk done (Takes there input event is) → OnOk done (Takes was input event is)
taken_from done input event there was is same takes = subst (λ (x : Live). OnOk done (Takes x input event is)) same takes

pub refused_from : {A B : Type 0} (done : Result A B) (there was is : Live) → there ≡ was → OnErr done (Ran there [] is) → OnErr done (Ran was [] is)
refused_from done there was is same misses = subst (λ (x : Live). OnErr done (Ran x [] is)) same misses

-- so it was from where a turn began
pub tries_begun : {S : Type 0} (sends : S → SocketAddrV4 → List ℕ → Result ⊤ Fault → S → Type 0) (admitted : Admitted) (input : Input)
    (event : GatewayEvent) (was is : Standing) (desk begun to : Exchange S) → begun ≡ record desk { now = begun.now } → to.now ≡ begun.now
    → Tries sends admitted input event was begun is to → Tries sends admitted input event was (record desk { now = to.now }) is to
tries_begun {S} sends admitted input event was is desk begun to begins same tried =
    subst (λ (x : Exchange S). Tries sends admitted input event was x is to) (begins ∙ ap (λ (n : Now). record desk { now = n }) (sym same)) tried

-- a tick that comes next goes on
pub tick_is_later : (s : Schedule) (at : Situation) (turn : Turn) (next : Schedule) (to now : ℕ) → at.moment < 2 ^ 64 → (turn, next) ≡ next_of s at
    → turn ≡ Tick to → at.ticked ≡ now → now < to
tick_is_later s at turn next to now few comes is same =
    let first : (next_of s at).0 ≡ Tick to = sym (ap (λ (r : Turn × Schedule). r.0) comes) ∙ is in
    subst (λ (n : ℕ). n < to) same (ticks_within s at to few first).0

-- a tick that comes next is one that is read, where the clock is, or is where ticks have come
pub tick_is_short : (s : Schedule) (at : Situation) (turn : Turn) (next : Schedule) (to now : ℕ) → at.moment < 2 ^ 64 → (turn, next) ≡ next_of s at
    → turn ≡ Tick to → at.ticked ≡ now → (at.moment < first_unread) ⊎ (at.moment ≡ now) → to < first_unread
tick_is_short s at turn next to now few comes is same (inl short) =
    let first : (next_of s at).0 ≡ Tick to = sym (ap (λ (r : Turn × Schedule). r.0) comes) ∙ is in
    let within : to ≤ at.moment = (ticks_within s at to few first).1 in
    omega (arith, within, short)
tick_is_short s at turn next to now few comes is same (inr still) =
    let first : (next_of s at).0 ≡ Tick to = sym (ap (λ (r : Turn × Schedule). r.0) comes) ∙ is in
    let on : at.ticked < to = (ticks_within s at to few first).0 in
    let within : to ≤ at.moment = (ticks_within s at to few first).1 in
    absurd (omega (arith, on, within, same, still))

-- one turn more, and what was recorded at it was written
pub runs_once_more : {S T V W : Type 0} (passes : S → Result ℕ Fault → Type 0) (does : Desk S T → V → Desk S T → V → Type 0)
    (writer : WriterBy W T) (count : ℕ) (was : Desk S T) (came : V) (before : W) (between : Desk S T) (there : V) (amid : W) (done is : Desk S T) (left : V) (after : W)
    → RunsTurns passes does writer count was came before between there amid → does between there done left
    → writer.writes amid done.exchange.journal done.play.teller done.exchange.now.time after is.exchange.journal is.play.teller
    → writer.offers after is.exchange.is_offering
    → is.play ≡ record done.play { teller = is.play.teller } → OnlyWrites done.exchange is.exchange
    → is ≡ record done { play = is.play; exchange = is.exchange }
    → RunsTurns passes does writer (count + 1) was came before is left after
runs_once_more passes does writer count was came before between there amid done is left after some turn wrote offering teller exchange rest = record {
  begun = some.begun;
  starts = some.starts;
  turns = wrote_once_more (TurnsAndWrites does writer) count (some.begun, came, before) (between, there, amid) (is, left, after) some.turns
      (record { done = done; turn = turn; wrote = wrote; offering = offering; teller = teller; exchange = exchange; rest = rest });
}
