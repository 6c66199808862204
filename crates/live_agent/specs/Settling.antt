-- How lines to which something has happened are settled: each is shown, then each is sent what it is to be sent.
use Rattle.std.specs.Prelude.{◌≡◌, ℕ, zero, suc, Bool, true, false, is_err, Option, Some, None, Result, Ok, Err}
use Rattle.call_agent.specs.declared.issuing.Issued.{Issued}
use Rattle.call_agent.specs.declared.issuing.IssueFault.{IssueFault}
use Rattle.line_control.specs.Showing.{ShowsIn}
use Rattle.live_io.specs.Around.{Around}
use Rattle.agent_gateways.specs.declared.switchboard.Switchboard.{Switchboard}
use Rattle.agent_gateways.specs.Boards.{settling_in, SettlesIn}
use Rattle.agent_gateways.specs.Issuing.{IssuesSettled, SendsAtMost}
use Rattle.agent_gateways.specs.Steps.{settled_in, IssuesAt, ToldAt}
use Rattle.live_agent.specs.declared.wire.Wire.{Wire}
use Rattle.live_agent.specs.Sending.{SendsCommand, SendsOver, SettlesLines}
use Rattle.live_agent.specs.Tallying.{with_refusal}

-- Shown

-- how the line stands that is settled so many behind the first is told, where that has changed
pub record ShowsOne {S : Type 0} (index : ℕ) (board : Switchboard) (was : Wire S) (now : Switchboard) (is : Wire S) : Type 0 where
  pub told : ShowsIn board.stations.items (settled_in index board.office) board.office was.journal.value is.journal.value
  pub office : ToldAt (settled_in index board.office) board.office now.office
  pub rest : now ≡ record board { office = now.office }
  pub leaves : is ≡ record was { journal = is.journal }

-- so it is of so many lines, one behind another
abbrev pub ShowsEach : {S : Type 0} → ℕ → Switchboard → Wire S → Switchboard → Wire S → Type 0
ShowsEach zero board was now is = (now ≡ board) × (is ≡ was)
ShowsEach {S} (suc index) board was now is =
    (shown : Switchboard) × (told : Wire S) × ShowsEach index board was shown told × ShowsOne index shown told now is

-- Sent

-- What was issued to a line counts, and goes out; nothing does where it was to be sent nothing. What couldn't be issued counts as refused.
abbrev pub SendsIssued : {S : Type 0} → Around S → Result (Option Issued) IssueFault → Wire S → Wire S → Type 0
SendsIssued around (Ok None) was is = is ≡ was
SendsIssued around (Ok (Some issued)) was is = SendsCommand around issued.datagram was is
SendsIssued around (Err fault) was is =
    (is ≡ record was { journal = is.journal })
    × (is.journal.value ≡ record was.journal.value { tally = with_refusal was.journal.value.tally })

-- the line that is settled so many behind the first is sent what it is to be sent, or it isn't, for the reason of its agent
pub record SendsNext {S : Type 0} (around : Around S) (index : ℕ) (board : Switchboard) (was : Wire S) (now : Switchboard) (is : Wire S)
    : Type 0 where
  pub issued : Result (Option Issued) IssueFault
  pub office : IssuesAt (settled_in index board.office) (is_err issued) board.office now.office
  pub issues : IssuesSettled (settled_in index board.office) issued board now
  pub alone : SendsAtMost (settled_in index board.office) board now
  pub rest : now ≡ record board { gateways = now.gateways; office = now.office }
  pub goes : SendsIssued around issued was is

-- so are so many lines, one behind another
abbrev pub SendsEach : {S : Type 0} → Around S → ℕ → Switchboard → Wire S → Switchboard → Wire S → Type 0
SendsEach around zero board was now is = (now ≡ board) × (is ≡ was)
SendsEach {S} around (suc index) board was now is =
    (issued : Switchboard) × (sent : Wire S) × SendsEach around index board was issued sent × SendsNext around index issued sent now is

-- Both

-- those that waited are settled from now on: all of them are shown, then all are sent what they are to be sent
pub record SettlesNow {S : Type 0} (around : Around S) (board : Switchboard) (was : Wire S) (now : Switchboard) (is : Wire S) : Type 0 where
  pub begun : Switchboard
  pub shown : Switchboard
  pub told : Wire S
  pub begins : SettlesIn board.office begun.office
  pub rest : begun ≡ record board { office = begun.office }
  pub shows : ShowsEach (settling_in begun.office) begun was shown told
  pub goes : SendsEach around (settling_in begun.office) shown told now is

-- where the agents' clock is behind they go on waiting
abbrev pub SettlesBy : {S : Type 0} → Around S → Bool → Switchboard → Wire S → Switchboard → Wire S → Type 0
SettlesBy around true board was now is = (now ≡ board) × (is ≡ was)
SettlesBy around false board was now is = SettlesNow around board was now is

-- of the board the gateways and the exchange alone may have changed by that, and of the wire what sending changes
pub record SettlesAll {S : Type 0} (around : Around S) (board : Switchboard) (was : Wire S) (now : Switchboard) (is : Wire S) : Type 0 where
  pub lines : SettlesLines board now
  pub over : SendsOver was is
  pub by : SettlesBy around was.is_behind board was now is
