-- What changes in an agent, and what a piece of work does to it.
use Rattle.std.specs.Prelude.{◌≡◌, ℕ, List, [], ◌++◌, map, Result, Ok, Err}
use Rattle.std.specs.Global.{Vec}
use Rattle.std.specs.declared.alloc.AllocError.{AllocError}
use Rattle.packages.specs.declared.observed.Observed.{Observed}
use Rattle.transmission.specs.declared.entry.Entry.{Entry}
use Rattle.transmission.specs.Kept.{from_young}
use Rattle.retransmission.specs.Flight.{InFlight}
use Rattle.transmission.specs.declared.output.OutDatagram.{OutDatagram}
use Rattle.transmission.specs.Packing.{packed}
use Rattle.machine_rules.specs.declared.refusal.Refusal.{Refusal}
use Rattle.retransmission.specs.declared.issued.Answer.{Answer}
use Rattle.retransmission.specs.declared.issued.Answered.{Answered}
use Rattle.call_agent.specs.declared.state.State.{State}
use Rattle.call_agent.specs.Flights.{Commands}
use Rattle.call_agent.specs.Flying.{Flown}
use Rattle.call_agent.specs.Agent.{FinalAnswer, AgentMachine, AgentEffect}
use Rattle.call_agent.specs.AgentAlike.{AgentAlike}

abbrev pub final_of : Answered → FinalAnswer
final_of one = record { id = one.id; code = one.answer.code; text = one.answer.text }

-- an answer, without its id
abbrev pub answer_in : FinalAnswer → Answer
answer_in one = record { code = one.code; text = one.text }

-- the plain agent that is kept
abbrev pub kept_in : State → AgentMachine
kept_in state = record {
  now = state.clock;
  next = state.flights.next;
  flights = state.flights.is;
  answers = map final_of state.answers.is;
  history = state.history.kept;
  taken = state.told.is;
}

-- what an event goes back to where it fails; it issues no id
pub record Found : Type 0 where
  pub next : ℕ
  pub flights : List InFlight
  pub answers : List Answered
  pub history : List Entry
  pub taken : List (List Observed)

abbrev pub found_in : State → Found
found_in state = record {
  next = state.flights.next;
  flights = state.flights.found;
  answers = state.answers.found;
  history = state.history.settled;
  taken = state.told.found;
}

-- the agent that was found, at this moment
abbrev pub machine_of : ℕ → Found → AgentMachine
machine_of now found = record {
  now = now;
  next = found.next;
  flights = found.flights;
  answers = map final_of found.answers;
  history = found.history;
  taken = found.taken;
}

-- the agent goes on as the effect says, the messages grow by what it sends, and what the event found can still be had
pub record Went (effect : AgentEffect) (was is : State) (were are : List OutDatagram) : Type 0 where
  pub machine : kept_in is ≡ effect.machine
  pub found : found_in is ≡ found_in was
  pub sent : are ≡ were ++ effect.sent

-- so it goes; or memory is refused, and what the event found can still be had
abbrev pub Does : {A : Type 0} → Result A AllocError → AgentEffect → State → State → List OutDatagram → List OutDatagram → Type 0
Does (Ok x) effect was is were are = Went effect was is were are
Does (Err fault) effect was is were are = found_in is ≡ found_in was

-- an event happened so, and this is what is sent; or it is refused, and what it found can still be had
abbrev pub Happens : {E : Type 0} → Result (Vec OutDatagram) E → AgentEffect → State → State → Type 0
Happens (Ok out) effect was is = Went effect was is [] out.items
Happens (Err fault) effect was is = found_in is ≡ found_in was

-- the agent without what can't matter any more
abbrev pub purged_in : AgentMachine → AgentMachine
purged_in m = record m { history = from_young m.now m.history }

-- the agent goes on as the effect says, and these datagrams are what it sends
pub record PutsOut (effect : AgentEffect) (is : State) (out : List OutDatagram) : Type 0 where
  pub machine : kept_in is ≡ effect.machine
  pub outputs : out ≡ packed effect.sent

-- all of it, or nothing but that the agent is this
abbrev pub AllOr : AgentMachine → Result (List OutDatagram) Refusal → AgentEffect → State → Type 0
AllOr m (Ok outputs) effect is = PutsOut effect is outputs
AllOr m (Err refusal) effect is = kept_in is ≡ m

-- what is kept goes on as the plain agent m does at an event, and these datagrams are what m sends
pub record GoesOnAs (effect : AgentEffect) (kept : AgentMachine) (out : List OutDatagram) : Type 0 where
  pub alike : AgentAlike kept effect.machine
  pub outputs : out ≡ packed effect.sent

-- no id was used, and the commands that the event found can still be had
pub record StillFound (was is : Commands) : Type 0 where
  pub next : is.next ≡ was.next
  pub found : is.found ≡ was.found

-- the flights go on as the passage says, the messages grow by what it sends, no id is used, and what the event found can still
-- be had
pub record FlewOn (passage : Flown) (was is : Commands) (were are : List OutDatagram) : Type 0 where
  pub flights : is.is ≡ passage.flights
  pub still : StillFound was is
  pub sent : are ≡ were ++ passage.sent

abbrev pub Flies : {A : Type 0} → Result A AllocError → Flown → Commands → Commands → List OutDatagram → List OutDatagram → Type 0
Flies (Ok x) passage was is were are = FlewOn passage was is were are
Flies (Err fault) passage was is were are = StillFound was is
