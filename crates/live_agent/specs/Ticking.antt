-- What a tick does: the clock of each agent goes on; what is given up by now is so, and what was put off is sent again, as lines are
-- settled.
use Rattle.std.specs.Prelude.{◌≡◌, ◌⊎◌, ℕ, zero, suc, Bool, true, false, is_ok, is_some, List, [], length, None, IfNone, IfOk, OnErr, Result, Ok, slice_get}
use Rattle.std.specs.Result.{result_err}
use Rattle.agent_log.specs.Counts.{with_given_up}
use Rattle.call_agent.specs.AgentStands.{AgentStays, AgentTook}
use Rattle.call_agent.specs.Hearing.{hears}
use Rattle.machine_rules.specs.declared.refusal.Refusal.{Refusal}
use Rattle.plain_machine.specs.Event.{tick}
use Rattle.live_io.specs.Around.{Around}
use Rattle.transmission.specs.declared.output.OutDatagram.{OutDatagram}
use Rattle.agent_gateways.specs.declared.switchboard.Switchboard.{Switchboard}
use Rattle.agent_gateways.specs.AgentClock.{tick_to}
use Rattle.agent_gateways.specs.Boards.{woken_at, WakesIn}
use Rattle.agent_gateways.specs.GivingUp.{ended_in, GivesUp}
use Rattle.agent_gateways.specs.Steps.{AtPlace, InOffice, LinesWaitOn, OthersStay, Refuses, Ticks, Wakens}
use Rattle.agent_gateways.specs.Tallying.{counted_if}
use Rattle.live_agent.specs.declared.wire.TheConstants.{MOST_AT_ONCE}
use Rattle.live_agent.specs.declared.wire.Wire.{Wire}
use Rattle.live_agent.specs.Clock.{is_behind}
use Rattle.live_agent.specs.Sending.{SendsOutputs}
use Rattle.live_agent.specs.Tallying.{OnlyTellsAndNotes}
use Rattle.live_agent.specs.Settling.{SettlesAll}

-- The clocks of agents

-- That of the agent of the gateway at this place goes on, and what it says by that is sent, again; or it refuses that, for its reason.
-- Where there is no such gateway nothing is said.
pub record TicksOne {S : Type 0} (around : Around S) (to place : ℕ) (board : Switchboard) (was : Wire S) (now : Switchboard) (is : Wire S)
    : Type 0 where
  pub outputs : Result (List OutDatagram) Refusal
  pub went_on : Bool
  pub took : AtPlace place (λ before behind. IfOk outputs (λ sent.
      AgentTook before.agent.value (hears (tick (tick_to before.ticked to))) behind.agent.value sent)) board.gateways.items
      now.gateways.items
  pub stays : AtPlace place (λ before behind. OnErr outputs (AgentStays before.agent.value behind.agent.value)) board.gateways.items
      now.gateways.items
  pub ends : AtPlace place (λ before behind. Refuses (tick (tick_to before.ticked to)) (result_err outputs) before)
      board.gateways.items now.gateways.items
  pub nobody : IfNone (slice_get board.gateways.items place) (outputs ≡ Ok [])
  pub own : AtPlace place (λ before behind. behind ≡ record before { agent = behind.agent; ticked = behind.ticked })
      board.gateways.items now.gateways.items
  pub clock : AtPlace place (Ticks (is_ok outputs) to) board.gateways.items now.gateways.items
  pub others : OthersStay place board.gateways.items now.gateways.items
  pub rest : now ≡ record board { gateways = now.gateways }
  pub goes : SendsOutputs around true outputs went_on was is

-- those of so many agents, one behind another
abbrev pub TicksEach : {S : Type 0} → Around S → ℕ → ℕ → Switchboard → Wire S → Switchboard → Wire S → Type 0
TicksEach around to zero board was now is = (now ≡ board) × (is ≡ was)
TicksEach {S} around to (suc place) board was now is =
    (ticked : Switchboard) × (sent : Wire S) × TicksEach around to place board was ticked sent × TicksOne around to place ticked sent now is

-- What is given up

-- the next command to the gateway at this place that is given up by now is so, and counts, and that is told and noted, if there is one
pub record GivesUpNext {S : Type 0} (found : Bool) (place : ℕ) (board : Switchboard) (was : Wire S) (now : Switchboard)
    (is : Wire S)
    : Type 0 where
  pub is_found : found ≡ is_some (ended_in None (slice_get board.gateways.items place))
  pub gives_up : GivesUp place board now
  pub counts : is.journal.value.tally ≡ counted_if found with_given_up was.journal.value.tally
  pub tells : OnlyTellsAndNotes was.journal.value is.journal.value
  pub rest : is ≡ record was { journal = is.journal }

-- so many are, one behind another; behind each lines are settled
pub record GivesUpOne {S : Type 0} (around : Around S) (place : ℕ) (board : Switchboard) (was : Wire S) (now : Switchboard) (is : Wire S)
    : Type 0 where
  pub given : Switchboard
  pub told : Wire S
  pub gives_up : GivesUpNext true place board was given told
  pub settles : SettlesAll around given told now is

abbrev pub GivesUpMany : {S : Type 0} → Around S → ℕ → ℕ → Switchboard → Wire S → Switchboard → Wire S → Type 0
GivesUpMany around place zero board was now is = (now ≡ board) × (is ≡ was)
GivesUpMany {S} around place (suc count) board was now is =
    (given : Switchboard) × (told : Wire S) × GivesUpMany around place count board was given told
    × GivesUpOne around place given told now is

-- all that are at this gateway: behind them none is found; after too many none is looked for any more at this tick
abbrev pub GivesUpLast : {S : Type 0} → ℕ → ℕ → Switchboard → Wire S → Switchboard → Wire S → Type 0
GivesUpLast count place board was now is =
    GivesUpNext false place board was now is ⊎ ((count ≡ MOST_AT_ONCE) × (now ≡ board) × (is ≡ was))

pub record GivesUpAll {S : Type 0} (around : Around S) (place : ℕ) (board : Switchboard) (was : Wire S) (now : Switchboard) (is : Wire S)
    : Type 0 where
  pub count : ℕ
  pub given : Switchboard
  pub told : Wire S
  pub many : GivesUpMany around place count board was given told
  pub last : GivesUpLast count place given told now is

-- at so many gateways, one behind another
abbrev pub GivesUpEach : {S : Type 0} → Around S → ℕ → Switchboard → Wire S → Switchboard → Wire S → Type 0
GivesUpEach around zero board was now is = (now ≡ board) × (is ≡ was)
GivesUpEach {S} around (suc place) board was now is =
    (given : Switchboard) × (told : Wire S) × GivesUpEach around place board was given told × GivesUpAll around place given told now is

-- What was put off

-- the next line of the gateway at this place to which a command is sent again by now waits to be settled, if there is one, and whoever
-- waited waits still
pub record WakesNext (found : Bool) (place : ℕ) (board now : Switchboard) : Type 0 where
  pub is_found : found ≡ is_some (woken_at (slice_get board.gateways.items place))
  pub line : WakesIn (woken_at (slice_get board.gateways.items place)) board.office now.office
  pub lines : InOffice LinesWaitOn board.office now.office
  pub gateway : AtPlace place Wakens board.gateways.items now.gateways.items
  pub own : AtPlace place (λ before behind. behind ≡ record before { wakes = behind.wakes }) board.gateways.items now.gateways.items
  pub others : OthersStay place board.gateways.items now.gateways.items
  pub rest : now ≡ record board { gateways = now.gateways; office = now.office }

-- so many do, one behind another
abbrev pub WakesMany : ℕ → ℕ → Switchboard → Switchboard → Type 0
WakesMany place zero board now = now ≡ board
WakesMany place (suc count) board now = (woken : Switchboard) × WakesMany place count board woken × WakesNext true place woken now

-- all that there are of this gateway: behind them none is found; after too many none is looked for any more at this tick
pub record WakesAll (place : ℕ) (board now : Switchboard) : Type 0 where
  pub count : ℕ
  pub woken : Switchboard
  pub many : WakesMany place count board woken
  pub last : WakesNext false place woken now ⊎ ((count ≡ MOST_AT_ONCE) × (now ≡ woken))

-- of so many gateways, one behind another
abbrev pub WakesEach : ℕ → Switchboard → Switchboard → Type 0
WakesEach zero board now = now ≡ board
WakesEach (suc place) board now = (woken : Switchboard) × WakesEach place board woken × WakesAll place woken now

-- All of it

-- It is this moment, and the clock goes on to one: that of each agent first. Then it is known whether it is behind; what is given up by now
-- is so, at each gateway; and lines of which something was put off that is sent again by now are settled.
pub record TicksAll {S : Type 0} (around : Around S) (moment to : ℕ) (board : Switchboard) (was : Wire S) (now : Switchboard) (is : Wire S)
    : Type 0 where
  pub ticked : Switchboard
  pub said : Wire S
  pub given : Switchboard
  pub told : Wire S
  pub woken : Switchboard
  pub ticks : TicksEach around to (length board.gateways.items) board (record was { now = record was.now { clock = to } }) ticked said
  pub gives_up : GivesUpEach around (length ticked.gateways.items) ticked (record said { is_behind = is_behind moment to }) given told
  pub wakes : WakesEach (length given.gateways.items) given woken
  pub settles : SettlesAll around woken told now is
