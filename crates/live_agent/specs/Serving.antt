-- How a call agent serves: one turn behind another, until the end comes.
use Rattle.std.specs.Prelude.{◌≡◌, ◌⊎◌, ⊤, ℕ, zero, suc, ◌-◌, ◌^◌, Bool, true, false, is_err, List, Result, Ok, Err}
use Rattle.agent_config.specs.declared.config.AgentConfig.{AgentConfig}
use Rattle.agent_log.specs.declared.journal.Journal.{Journal}
use Rattle.live_system.specs.declared.ending.CommonEnding.{CommonEnding}
use Rattle.live_system.specs.declared.ending.CommonEnding.TheVariants.{OutOfMemory}
use Rattle.output_queues.specs.declared.written.Written.{Written}
use Rattle.live_io.specs.Around.{Around}
use Rattle.live_io.specs.declared.surroundings.Fault.{Fault}
use Rattle.agent_gateways.specs.declared.switchboard.Switchboard.{Switchboard}
use Rattle.agent_gateways.specs.Opening.{BoardOf}
use Rattle.turns.specs.Schedule.{opening}
use Rattle.turns.specs.declared.schedule.Schedule.{Schedule}
use Rattle.live_agent.specs.declared.wire.Wire.{Wire}
use Rattle.live_agent.specs.Clock.{milliseconds}
use Rattle.live_agent.specs.Ending.{WritesAndEnds}
use Rattle.live_agent.specs.Turning.{DoesNext}
use Rattle.live_agent.specs.Wiring.{AsksNext}

-- What was recorded is written once, by whoever does that; whether some of it waits to be taken is known by that. What was counted stays.
pub record Writes {S W : Type 0} (writes : W → Journal → ℕ → W → Journal → Type 0) (was is : Wire S) : Type 0 where
  pub before : W
  pub after : W
  pub wrote : writes before was.journal.value was.now.time after is.journal.value
  pub counts : is.journal.value.tally ≡ was.journal.value.tally
  pub rest : is ≡ record was { journal = is.journal; is_offering = is.is_offering }

-- what comes next by a schedule has its turn; then what was recorded is written
pub record TurnsOnce {S W : Type 0} (around : Around S) (writes : W → Journal → ℕ → W → Journal → Type 0) (board : Switchboard)
    (was : Wire S) (schedule : Schedule) (now : Switchboard) (is : Wire S) (next : Schedule) : Type 0 where
  pub done : Wire S
  pub asks : AsksNext around board was schedule true next
  pub does : DoesNext around board now was done schedule next
  pub written : Writes writes done is

-- so many turns, one behind another
abbrev pub RunsTurns :
    {S : Type 0} → (Switchboard → Wire S → Schedule → Switchboard → Wire S → Schedule → Type 0) → ℕ
    → Switchboard → Wire S → Schedule → Switchboard → Wire S → Schedule → Type 0
RunsTurns turns zero board was schedule now is next = (now ≡ board) × (is ≡ was) × (next ≡ schedule)
RunsTurns {S} turns (suc count) board was schedule now is next =
    (between : Switchboard) × (left : Wire S) × (behind : Schedule)
    × RunsTurns turns count board was schedule between left behind × turns between left behind now is next

-- behind them the end comes next, or there were as many as can be; or the clock fails
abbrev pub StopsAt : {S : Type 0} → Around S → Result ⊤ Fault → ℕ → Switchboard → Wire S → Schedule → Type 0
StopsAt around (Ok done) count board wire schedule =
    ((next : Schedule) × AsksNext around board wire schedule false next) ⊎ (count ≡ 2 ^ 64 - 1)
StopsAt around (Err fault) count board wire schedule = around.passes wire.around (Err fault)

pub record Runs {S : Type 0} (around : Around S) (turns : Switchboard → Wire S → Schedule → Switchboard → Wire S → Schedule → Type 0)
    (result : Result ⊤ Fault) (board : Switchboard) (was : Wire S) (schedule : Schedule) (now : Switchboard) (is : Wire S) : Type 0 where
  pub count : ℕ
  pub behind : Schedule
  pub runs : RunsTurns turns count board was schedule now is behind
  pub stops : StopsAt around result count now is behind

-- It begins at the moment that the clock tells: what the start took isn't a pause. Or the clock fails, and nothing is done.
abbrev pub Serves : {S : Type 0} → Around S → (Switchboard → Wire S → Schedule → Switchboard → Wire S → Schedule → Type 0) → Result ⊤ Fault
    → Switchboard → Wire S → Switchboard → Wire S → Type 0
Serves around turns result board was now is =
    ((start : ℕ) × around.passes was.around (Ok start) × Runs around turns result board was (opening start) now is)
    ⊎ ((fault : Fault) × around.passes was.around (Err fault) × (result ≡ Err fault) × (now ≡ board) × (is ≡ was))

-- From its beginning to its end

-- It serves; then what was recorded is written, and written to its end, and so it ends.
pub record ServesToEnd {S W : Type 0}
    (serves : Result ⊤ Fault → Switchboard → Wire S → Switchboard → Wire S → Type 0) (writes : W → Journal → ℕ → W → Journal → Type 0)
    (ends : List ℕ → W → Written → W → Type 0) (board : Switchboard) (was is : Wire S) (recorder : W) (ending : CommonEnding)
    : Type 0 where
  pub served : Result ⊤ Fault
  pub now : Switchboard
  pub done : Wire S
  pub does : serves served board was now done
  pub time : ℕ
  pub left : W
  pub ends_so : WritesAndEnds writes ends (is_err served) time done.journal.value left is.journal.value recorder ending
  pub counts : is.journal.value.tally ≡ done.journal.value.tally
  pub rest : is ≡ record done { journal = is.journal }

-- with the desk of a configuration as it begins at the time of day that was told, which routes calls where that is asked for; or memory is
-- refused for that, and nothing is done
abbrev pub ServesOver :
    {S W : Type 0} → AgentConfig → Bool → (Result ⊤ Fault → Switchboard → Wire S → Switchboard → Wire S → Type 0)
    → (W → Journal → ℕ → W → Journal → Type 0) → (List ℕ → W → Written → W → Type 0) → Wire S → Wire S → W → CommonEnding → Type 0
ServesOver config is_routed serves writes ends was is recorder ending =
    ((ending ≡ OutOfMemory) × (is ≡ was))
    ⊎ ((board : Switchboard) × BoardOf config is_routed (milliseconds was.now.time) board
    × ServesToEnd serves writes ends board was is recorder ending)
