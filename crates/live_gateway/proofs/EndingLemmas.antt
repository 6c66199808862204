-- When a desk comes to its end.
use Rattle.std.proofs.Common.{◌≡◌, inl, inr, ℕ, suc, ◌+◌, Bool, true, false, List, Option, refl, sym, ◌∙◌, ap, subst, arith}
use Rattle.std.specs.Prelude.{not, Result, Ok, Err, IfOk, OnErr}
use Rattle.plain_machine.specs.Event.{GatewayEvent}
use Rattle.plain_machine.specs.Lists.{plain}
use Rattle.gateway_core.specs.GatewayState.{GatewayState}
use Rattle.gateway_core.specs.Stands.{Stands}
use Rattle.turns.specs.declared.schedule.Schedule.{Schedule}
use Rattle.turns.specs.declared.situation.Situation.{Situation}
use Rattle.turns.specs.declared.turn.Turn.{Turn}
use Rattle.turns.specs.Clock.{has_come}
use Rattle.turns.specs.Runs.{is_end}
use Rattle.turns.specs.Schedule.{next_of}
use Rattle.turns.proofs.ScheduleLaws.{ends_when_over}
use Rattle.live_system.specs.declared.ending.CommonEnding.{CommonEnding}
use Rattle.live_system.specs.declared.ending.CommonEnding.TheVariants.{OutOfMemory}
use Rattle.output_queues.specs.declared.written.Written.{Written}
use Rattle.live_system.specs.Ending.{served_ending}
use Rattle.output_queues.specs.Written.{faults_in}
use Rattle.live_journal.specs.declared.trace.Trace.{Trace}
use Rattle.live_journal.specs.Reporting.{counts_with}
use Rattle.telephone_control.specs.Losses.{counts_text, lost_of_lines}
use Rattle.message_counts.specs.declared.reporting.Faults.{Faults}
use Rattle.live_gateway.specs.declared.desk.Desk.{Desk}
use Rattle.live_gateway.specs.declared.exchange.Exchange.{Exchange}
use Rattle.live_gateway.specs.Ending.{EndsAt, WroteTimes, WritesLast, AsksForEnd, is_record_refused, EndsWith, OnlyEnds}
use Rattle.live_gateway.specs.Exchanging.{OnlyWrites}
use Rattle.live_io.specs.Hearing.{AnswersTo}
use Rattle.live_io.specs.declared.lines.Lines.{Lines}
use Rattle.std.specs.declared.net.socket_addr.SocketAddr.{SocketAddr}
use Rattle.live_journal.specs.declared.journal.Journal.{Journal}
use Rattle.live_play.specs.declared.play.LivePlay.{LivePlay}

pub ends_so : (end next : Option ℕ) (gateway after : GatewayState) (is_over : Bool) → next ≡ end → after ≡ gateway → EndsAt end gateway is_over
    → EndsAt next after is_over
ends_so end next gateway after is_over same kept ends =
    subst (λ (e : Option ℕ). EndsAt e after is_over) (sym same) (subst (λ (g : GatewayState). EndsAt end g is_over) (sym kept) ends)

not_not : (b : Bool) → not (not b) ≡ b
not_not true = refl
not_not false = refl

-- the schedule says that it is the end once ticks have come to it
pub turn_ends : (s next : Schedule) (at : Situation) (turn : Turn) (end : Option ℕ) (gateway : GatewayState) (goes_on : Bool) → (turn, next) ≡ next_of s at
    → at.end ≡ end → ((events : List GatewayEvent) → Stands gateway events → at.ticked ≡ (plain gateway.setup events).now) → goes_on ≡ not (is_end turn)
    → EndsAt end gateway (not goes_on)
turn_ends s next at turn end gateway goes_on asked same ticked says = λ events stands.
    ap not says ∙ not_not (is_end turn) ∙ ap (λ (r : Turn × Schedule). is_end r.0) asked ∙ ends_when_over s at
    ∙ ap (λ (e : Option ℕ). has_come e at.ticked) same ∙ ap (has_come end) (ticked events stands)

pub wrote_once_more : {W : Type 0} (writes : W → W → Type 0) (count : ℕ) (was between is : W) → WroteTimes writes count was between → writes between is
    → WroteTimes writes (count + 1) was is
wrote_once_more {W} writes count was between is some once =
    let more : suc count ≡ count + 1 = omega arith in
    subst (λ (n : ℕ). WroteTimes writes n was is) more (between, some, once)

pub not_false : (is_over : Bool) → not is_over ≡ false → is_over ≡ true
not_false true goes_on = refl
not_false false goes_on = absurd cc

-- ---- what was counted

-- it is told by all events that the gateway stands for, where so many events of its lines were lost
pub counts_so : {V E : Type 0} (items : V → List ℕ) (counts : Result V E) (journal : Journal) (faults : Faults) (lost : ℕ) (gateway : GatewayState)
    → ((events : List GatewayEvent) → Stands gateway events → lost ≡ lost_of_lines (plain gateway.setup events) gateway.setup.names.lines)
    → IfOk counts (λ v. items v ≡ counts_with journal lost faults)
    → (events : List GatewayEvent) → Stands gateway events
    → IfOk counts (λ v. items v ≡ counts_text journal faults gateway.setup (plain gateway.setup events))
counts_so items counts journal faults lost gateway loses says = λ events stands.
    subst (λ (n : ℕ). IfOk counts (λ v. items v ≡ counts_with journal n faults)) (loses events stands) says

-- ---- what is said last

-- behind the last words nothing changes at a desk but the surroundings and the lines
pub ended_by : {S W V E : Type 0} (items : V → List ℕ) (ends : List ℕ → W → Written → W → Type 0) (desk after : Desk S Trace) (counts : Result V E)
    (is_refused : Bool) (was is : W) (ending : CommonEnding)
    → ((events : List GatewayEvent) → Stands desk.play.gateway.value events → IfOk counts (λ v. items v
    ≡ counts_text desk.exchange.journal desk.exchange.faults desk.play.gateway.value.setup (plain desk.play.gateway.value.setup events)))
    → is_refused ≡ is_record_refused desk.play.teller desk.exchange.journal
    → IfOk counts (λ v. (written : Written) × ends (items v) was written is × (ending ≡ served_ending is_refused (faults_in written)))
    → OnErr counts ((is ≡ was) × (ending ≡ OutOfMemory))
    → after.exchange ≡ record desk.exchange { around = after.exchange.around }
    → after ≡ record desk { exchange = after.exchange; lines = after.lines } → EndsWith ends after was is ending
ended_by {S} items ends desk after (Ok v) is_refused was is ending says refused counted lacks kept rest =
    subst (λ (d : Desk S Trace). EndsWith ends d was is ending) (sym rest)
    (subst (λ (e : Exchange S). EndsWith ends (let d : Desk S Trace = record desk { exchange = e; lines = after.lines } in d) was is ending) (sym kept)
    (inr (items v, counted.0, says, counted.1, subst (λ (b : Bool). ending ≡ served_ending b (faults_in counted.0)) refused counted.2)))
ended_by items ends desk after (Err why) is_refused was is ending says refused counted lacks kept rest = inl lacks

-- behind the end the journal and the trace are as they were left by who wrote
pub wrote_last : {S W : Type 0} (writes : W → Journal → Trace → ℕ → W → Journal → Trace → Type 0) (was mid is : Desk S Trace) (before after : W)
    (told : Trace) → writes before was.exchange.journal told was.exchange.now.time after mid.exchange.journal mid.play.teller
    → is.exchange ≡ record mid.exchange { around = is.exchange.around } → is ≡ record mid { exchange = is.exchange; lines = is.lines }
    → WritesLast writes was before is after
wrote_last {S} writes was mid is before after told wrote kept rest = (
  told,
  subst (λ (j : Journal). writes before was.exchange.journal told was.exchange.now.time after j is.play.teller)
      (sym (ap (λ (e : Exchange S). e.journal) kept))
      (subst (λ (t : Trace). writes before was.exchange.journal told was.exchange.now.time after mid.exchange.journal t)
      (sym (ap (λ (d : Desk S Trace). d.play.teller) rest)) wrote),
)

-- ---- what stays

-- a play came to its end, and what was recorded was written; then who asked for the end was answered
pub only_ends : {S T : Type 0} (old mid new : Desk S T) (play : LivePlay T) → play.gateway ≡ old.play.gateway → mid.play.gateway ≡ play.gateway
    → OnlyWrites old.exchange mid.exchange → mid ≡ record old { play = mid.play; exchange = mid.exchange }
    → new.exchange ≡ record mid.exchange { around = new.exchange.around }
    → new ≡ record mid { exchange = new.exchange; lines = new.lines } → OnlyEnds old new
only_ends {S} {T} old mid new play ended gateway written rest kept last = record {
  gateway = ap (λ (d : Desk S T). d.play.gateway) last ∙ gateway ∙ ended;
  counted = ap (λ (e : Exchange S). e.journal.tally) kept ∙ written.counted;
  shown = ap (λ (e : Exchange S). e.journal.board) kept ∙ written.shown;
  exchange = kept
      ∙ ap (λ (e : Exchange S). let x : Exchange S = record e { around = new.exchange.around } in x) written.rest
      ∙ ap (λ (j : Journal). let x : Exchange S = record old.exchange { around = new.exchange.around; journal = j; is_offering = mid.exchange.is_offering } in x)
      (sym (ap (λ (e : Exchange S). e.journal) kept))
      ∙ ap (λ (b : Bool). let x : Exchange S = record old.exchange { around = new.exchange.around; journal = new.exchange.journal; is_offering = b } in x)
      (sym (ap (λ (e : Exchange S). e.is_offering) kept));
  rest = last
      ∙ ap (λ (d : Desk S T). let x : Desk S T = record d { exchange = new.exchange; lines = new.lines } in x) rest
      ∙ ap (λ (p : LivePlay T). let x : Desk S T = record old { play = p; exchange = new.exchange; lines = new.lines } in x)
      (sym (ap (λ (d : Desk S T). d.play) last));
}

-- nothing was answered before
pub stopped_so : {S : Type 0} (answers : S → SocketAddr → List ℕ → S → Type 0) (was is : Lines) (before mid after : S) (said : List ℕ) → is ≡ was → mid ≡ before
    → (AsksForEnd is → AnswersTo answers is.sender mid said after) → AsksForEnd was → AnswersTo answers was.sender before said after
stopped_so {S} answers was is before mid after said lines around stops =
    subst (λ (l : Lines). AsksForEnd l → AnswersTo answers l.sender before said after) lines
    (subst (λ (s : S). AsksForEnd is → AnswersTo answers is.sender s said after) around stops)

pub unasked_so : {S : Type 0} (was is : Lines) (before mid after : S) → is ≡ was → mid ≡ before → ((AsksForEnd is → ⊥) → after ≡ mid)
    → (AsksForEnd was → ⊥) → after ≡ before
unasked_so {S} was is before mid after lines around stays =
    subst (λ (l : Lines). (AsksForEnd l → ⊥) → after ≡ before) lines (subst (λ (s : S). (AsksForEnd is → ⊥) → after ≡ s) around stays)
