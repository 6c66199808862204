-- A desk, as its contracts see it.
use Rattle.std.specs.Prelude.{◌≡◌, ℕ, ◌+◌, Bool, true, List, [], ◌∷◌, Option, None, Some}
use Rattle.std.specs.declared.net.socket_addr.SocketAddrV4.{SocketAddrV4}
use Rattle.gateway_core.specs.GatewayState.{GatewayState}
use Rattle.gateway_core.specs.Stands.{Stands}
use Rattle.gateway_core.specs.Wire.{counted}
use Rattle.machine_rules.specs.declared.refusal.Refusal.{Refusal}
use Rattle.plain_machine.specs.Event.{GatewayEvent}
use Rattle.plain_machine.specs.Lists.{plain}
use Rattle.plain_machine.specs.Refusing.{Ends, refusal_of}
use Rattle.live_io.specs.Sending.{Received, Traffic, Grows}
use Rattle.rgw_scripts.specs.Moves.{give, pass, ask, sends, refuses, tells}
use Rattle.traces.specs.Writing.{Entry, showed, became}
use Rattle.live_play.specs.Coming.{Came, arrived_in, AreAllBut}
use Rattle.live_play.specs.Readable.{IsReadable, AreLater}
use Rattle.live_play.specs.Running.{Live, live, Ran, AreOf}
use Rattle.live_gateway.specs.declared.admission.Admission.{Admission}
use Rattle.live_gateway.specs.declared.desk.Desk.{Desk}
use Rattle.live_gateway.specs.Admitting.{is_heard, heard_of}
use Rattle.live_gateway.specs.Exchanging.{handed_by, came_by, refusals}

-- its play, by what its trace was told and what was handed out; and what came to it
pub record Standing : Type 0 where
  pub live : Live
  pub came : Came

abbrev pub at_desk : {S T : Type 0} → (T → Option (List ℕ)) → (S → Traffic) → Desk S T → Standing
at_desk told traffic desk = record {
  live = live desk.play.gateway.value desk.play.script (told desk.play.teller)
      (handed_by desk.exchange.network (traffic desk.exchange.around).sent);
  came = came_by traffic desk.exchange;
}

-- an input was refused, or taken
abbrev pub with_input : Bool → Standing → Standing
with_input is_refused standing = record standing { came = record standing.came { refused = refusals is_refused standing.came.refused } }

-- Whatever events a gateway stands for, it may refuse this one so: as it must be refused, or for want of memory where it takes some.
abbrev pub MayRefuse : GatewayState → GatewayEvent → Refusal → Type 0
MayRefuse gateway event refusal =
    (events : List GatewayEvent) → Stands gateway events → Ends (plain gateway.setup events) event (Some refusal)

-- so it is with what can be done; of what can't be, memory may be wanted to say why
abbrev pub MayRefuseIfDone : GatewayState → GatewayEvent → Refusal → Type 0
MayRefuseIfDone gateway event refusal = (events : List GatewayEvent) → Stands gateway events
    → refusal_of (plain gateway.setup events) event ≡ None → Ends (plain gateway.setup events) event (Some refusal)

-- an input that was refused at an entry, which says why
abbrev pub refusals_at : Entry → ℕ
refusals_at (became mark place) = 0
refusals_at (showed input (give event) (sends datagrams)) = 0
refusals_at (showed input (give event) (refuses refusal)) = 1
refusals_at (showed input (give event) (tells status)) = 0
refusals_at (showed input (pass by) shown) = 0
refusals_at (showed input (ask line) shown) = 0

abbrev pub refusals_in : List Entry → ℕ
refusals_in [] = 0
refusals_in (entry ∷ entries) = refusals_at entry + refusals_in entries

-- It went on by these entries of a play, while this came. The datagrams that came in at the entries are those that came, without what
-- isn't heard, each with its bytes, in their order; but that so many are missing at most that memory was refused for. Each of these is
-- counted as an input that was refused, and so is each act of which an entry says why, and beside these the acts and ticks that memory
-- was refused for. What came in can be read again, and each tick goes on.
pub record GoesOnBy (admission : Admission) (was is : Standing) (entries : List Entry) (came : List Received) (missing : ℕ) : Type 0 where
  pub ran : Ran was.live entries is.live
  pub received : Grows was.came.received came is.came.received
  pub others : ℕ
  pub refused : is.came.refused ≡ counted was.came.refused (missing + (refusals_in entries + others))
  pub events : AreAllBut missing (heard_of admission came) (arrived_in entries)
  pub inputs : AreOf IsReadable entries
  pub later : (before : List GatewayEvent) → Stands was.live.gateway before → AreLater was.live.gateway.setup before entries

-- it went on by some, and who is heard stays as it was
pub record GoesOn {S T : Type 0} (told : T → Option (List ℕ)) (traffic : S → Traffic) (old new : Desk S T) : Type 0 where
  pub entries : List Entry
  pub came : List Received
  pub missing : ℕ
  pub went : GoesOnBy old.admission (at_desk told traffic old) (at_desk told traffic new) entries came missing
  pub admission : new.admission ≡ old.admission

-- who sent it is heard
abbrev pub IsHeard : Admission → SocketAddrV4 → Type 0
IsHeard admission source = is_heard admission source ≡ true
