-- What is done of a line, from what the calls of its turn say.
use Rattle.std.proofs.Common.{◌≡◌, inl, inr, ℕ, List, Option, None, Some, refl, sym, ◌∙◌, ap, subst}
use Rattle.std.specs.Prelude.{⊤, not, is_ok, Result, Ok, Err, OnOk, OnErr, IfOk, IfErr}
use Rattle.std.specs.Result.{result_err}
use Rattle.std.specs.declared.net.socket_addr.SocketAddrV4.{SocketAddrV4}
use Rattle.mg_line.specs.declared.phone.Act.{Act}
use Rattle.gateway_core.specs.GatewayState.{GatewayState}
use Rattle.gateway_core.specs.Stands.{Stands}
use Rattle.gateway_core.specs.Wire.{counted}
use Rattle.plain_machine.specs.Event.{GatewayEvent, phone}
use Rattle.plain_machine.specs.Lists.{plain}
use Rattle.plain_machine.specs.Refusing.{Ends, refusal_of}
use Rattle.machine_rules.specs.declared.refusal.Refusal.{Refusal}
use Rattle.traces.specs.Writing.{Input, typed}
use Rattle.live_io.specs.Speaking.{Admitted}
use Rattle.live_io.specs.declared.surroundings.Fault.{Fault}
use Rattle.live_play.specs.Running.{Live, RanOf, TakesBy, Refuses, Asked}
use Rattle.telephone_control.specs.Asking.{usage}
use Rattle.telephone_control.specs.Watching.{AnswersWatch, BeginsToSee, IsUnasked}
use Rattle.telephone_control.specs.declared.watch.Watch.{Watch}
use Rattle.live_gateway.specs.declared.exchange.Exchange.{Exchange}
use Rattle.live_gateway.specs.Desk.{Standing, with_input}
use Rattle.live_gateway.specs.Exchanging.{IsTold, HandsOver, NotesTaken, NotesRefused, TakesOver}
use Rattle.live_gateway.proofs.OverLemmas.{takes_over}
use Rattle.live_gateway.specs.Answering.{no_memory, IsActAnswer, TriesAct, Asks, IsPut, AsksToWatch}

-- an act was taken over an exchange, or refused, and that is answered
pub tries_act : {S A : Type 0} (sends : S → SocketAddrV4 → List ℕ → Result ⊤ Fault → S → Type 0) (admitted : Admitted) (text : List ℕ)
    (line : ℕ) (act : Act) (done : Result A Refusal) (printed answer : List ℕ) (was mid is : Standing) (from sent to : Exchange S)
    → OnOk done (TakesBy (λ a gateway b. IsTold a gateway b) (λ a at bytes own mark b. HandsOver sends a at bytes own mark b)
    was.live from (typed text) (phone line act) mid.live sent)
    → OnErr done (sent ≡ from) → IfErr done (λ refusal. Refuses was.live text (phone line act) refusal printed mid.live)
    → OnOk done (NotesTaken admitted (phone line act) mid.live.gateway sent to) → OnErr done (NotesRefused (phone line act) sent to)
    → mid.came.refused ≡ was.came.refused → is ≡ with_input (not (is_ok done)) mid
    → IsActAnswer done printed answer
    → ((events : List GatewayEvent) → Stands was.live.gateway events → refusal_of (plain was.live.gateway.setup events) (phone line act) ≡ None
    → Ends (plain was.live.gateway.setup events) (phone line act) (result_err done))
    → TriesAct sends admitted text line act answer was from is to
tries_act sends admitted text line act (Ok done) printed answer was mid is from sent to takes stays misses notes lacks counts same says ends =
    inl (
      subst (λ (s : Standing). TakesOver sends admitted was.live from (typed text) (phone line act) s.live to) (sym same)
          (takes_over sends admitted was.live from sent to (typed text) (phone line act) mid.live takes notes),
      ap (λ (s : Standing). s.came.refused) same ∙ counts,
      says.done_so,
    )
tries_act {S} sends admitted text line act (Err refusal) printed answer was mid is from sent to takes stays misses notes lacks counts same says ends =
    inr (
      refusal,
      printed,
      subst (λ (s : Standing). Refuses was.live text (phone line act) refusal printed s.live) (sym same) misses,
      subst (λ (x : Exchange S). NotesRefused (phone line act) x to) stays lacks,
      ap (λ (s : Standing). s.came.refused) same ∙ ap (λ (n : ℕ). counted n 1) counts,
      λ e. says.memory (rw e refl),
      says.refused,
      ends,
    )

-- what a line is was told and answered, or memory was refused
pub asks_of : {A B : Type 0} (text : List ℕ) (line : ℕ) (done : Result A B) (printed answer : List ℕ) (was is : Live)
    → OnOk done (Asked was text line printed is) → RanOf (λ (input : Input). input ≡ typed text) was is
    → IfOk done (λ a. answer ≡ printed) → IfErr done (λ b. answer ≡ no_memory) → Asks text line answer was is
asks_of text line (Ok done) printed answer was is asked ran says memory =
    inl (subst (λ (told : List ℕ). Asked was text line told is) (sym says) asked)
asks_of text line (Err why) printed answer was is asked ran says memory = inr (ran, memory)

-- what was put is answered, or that memory was refused for it
pub put_so : {V E : Type 0} (items : V → List ℕ) (put : Result V E) (gateway : GatewayState) (text : List GatewayEvent → List ℕ)
    (tells : List ℕ → Type 0) → ((events : List GatewayEvent) → Stands gateway events → IfOk put (λ v. items v ≡ text events))
    → IfOk put (λ v. tells (items v)) → IfErr put (λ e. tells no_memory) → (answer : List ℕ) × IsPut gateway text answer × tells answer
put_so items (Ok v) gateway text tells says told memory = (items v, inr says, told)
put_so items (Err why) gateway text tells says told memory = (no_memory, inl refl, memory)

-- so is who asks to watch
pub watch_so : {V E : Type 0} (items : V → List ℕ) (put : Result V E) (sender : Option SocketAddrV4) (gateway : GatewayState) (seconds : ℕ)
    (was is : Watch) (tells : List ℕ → Type 0) → (sender ≡ None → (is ≡ was) × IfOk put (λ v. items v ≡ usage))
    → ((events : List GatewayEvent) (address : SocketAddrV4) → Stands gateway events → sender ≡ Some address
    → IfOk put (λ v. AnswersWatch was.watchers.places address (plain gateway.setup events).now seconds was.told.number (items v) is.watchers.places))
    → ((events : List GatewayEvent) (address : SocketAddrV4) → Stands gateway events → sender ≡ Some address
    → IfOk put (λ v. BeginsToSee gateway.setup (plain gateway.setup events) was is))
    → IfErr put (λ e. IsUnasked gateway was is) → IfOk put (λ v. tells (items v)) → IfErr put (λ e. tells no_memory)
    → (answer : List ℕ) × AsksToWatch sender gateway seconds answer was is × tells answer
watch_so items (Ok v) None gateway seconds was is tells nobody some seen kept told memory = (items v, inr (nobody refl), told)
watch_so items (Ok v) (Some address) gateway seconds was is tells nobody some seen kept told memory =
    (items v, inr (λ events stands. (some events address stands refl, seen events address stands refl)), told)
watch_so items (Err why) sender gateway seconds was is tells nobody some seen kept told memory = (no_memory, inl (refl, kept), memory)
