-- What changes in a gateway, and what a piece of work does to it.
use Rattle.std.specs.Prelude.{◌≡◌, ⊤, List, [], ◌∷◌, ◌++◌, Result, Ok, Err}
use Rattle.std.specs.Global.{Vec}
use Rattle.std.specs.declared.alloc.AllocError.{AllocError}
use Rattle.transmission.specs.declared.entry.Entry.{Entry}
use Rattle.transmission.specs.Kept.{from_young}
use Rattle.transmission.specs.declared.output.OutDatagram.{OutDatagram}
use Rattle.plain_machine.specs.declared.label.OutMessage.{OutMessage}
use Rattle.machine_rules.specs.declared.refusal.Refusal.{Refusal}
use Rattle.plain_machine.specs.Effect.{Effect}
use Rattle.plain_machine.specs.Labelling.{messages_of}
use Rattle.plain_machine.specs.Packing.{put_out}
use Rattle.plain_machine.specs.Machine.{Endpoints, Machine}
use Rattle.gateway_core.specs.declared.state.State.{State}

-- the machine that is kept
abbrev pub machine_in : State → Machine
machine_in state = record { now = state.clock; endpoints = state.store.endpoints; history = state.history.kept }

-- what an event goes back to where it fails
pub record Found : Type 0 where
  pub endpoints : Endpoints
  pub history : List Entry

abbrev pub found_in : State → Found
found_in state = record { endpoints = state.store.found; history = state.history.settled }

-- the machine goes on as the effect says, the messages grow by what it sends, and what the event found can still be had
pub record Went (effect : Effect Machine) (was is : State) (were are : List OutMessage) : Type 0 where
  pub machine : machine_in is ≡ effect.value
  pub found : found_in is ≡ found_in was
  pub sent : are ≡ were ++ messages_of effect.sent

-- so it goes; or memory is refused, and what the event found can still be had
abbrev pub Does : {A : Type 0} → Result A AllocError → Effect Machine → State → State → List OutMessage → List OutMessage → Type 0
Does (Ok x) effect was is were are = Went effect was is were are
Does (Err fault) effect was is were are = found_in is ≡ found_in was

-- where there is anything to send, what the event found can still be had
abbrev pub CanGoBack : List OutMessage → State → State → Type 0
CanGoBack [] was is = ⊤
CanGoBack (first ∷ more) was is = found_in is ≡ found_in was

-- the machine went on as the effect says, and this is what is to be sent
pub record Happened (effect : Effect Machine) (was is : State) (out : List OutMessage) : Type 0 where
  pub machine : machine_in is ≡ effect.value
  pub found : CanGoBack out was is
  pub sent : out ≡ messages_of effect.sent

-- an event happened so; or it is refused, and what it found can still be had
abbrev pub Happens : Result (Vec OutMessage) Refusal → Effect Machine → State → State → Type 0
Happens (Ok out) effect was is = Happened effect was is out.items
Happens (Err refusal) effect was is = found_in is ≡ found_in was

-- the machine without what can't matter any more
abbrev pub purged_in : Machine → Machine
purged_in m = record m { history = from_young m.now m.history }

-- the machine goes on as the effect says, and the outputs gain what it sends
pub record PutsOut (effect : Effect Machine) (is : State) (were are : List OutDatagram) : Type 0 where
  pub machine : machine_in is ≡ effect.value
  pub outputs : are ≡ were ++ put_out effect.sent

-- nothing goes out, and this is the machine
pub record Remains (m : Machine) (is : State) (were are : List OutDatagram) : Type 0 where
  pub machine : machine_in is ≡ m
  pub outputs : are ≡ were

-- all of it, or nothing but that the machine is this
abbrev pub AllOr : {A : Type 0} → Machine → Result A Refusal → Effect Machine → State → List OutDatagram → List OutDatagram → Type 0
AllOr m (Ok x) effect is were are = PutsOut effect is were are
AllOr m (Err refusal) effect is were are = Remains m is were are
