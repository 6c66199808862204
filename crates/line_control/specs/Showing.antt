-- What people are told of a line: how it stands, and what it refuses for good, where that is new.
use Rattle.std.specs.Prelude.{◌≡◌, ◌≢◌, ℕ, List, ◌++◌, Option, Some, None, slice_get}
use Rattle.std.specs.Global.{Box}
use Rattle.call_processing.specs.Exchange.{ExchangeState}
use Rattle.agent_log.specs.declared.journal.Journal.{Journal}
use Rattle.agent_log.specs.declared.station.Station.{Station}
use Rattle.agent_log.specs.Standings.{standing_of, with_change}
use Rattle.agent_log.specs.Refusals.{refusals_of, refusals_told}
use Rattle.agent_log.specs.Telling.{change_told, Tells}
use Rattle.line_control.specs.declared.care.Care.{Care}
use Rattle.line_control.specs.declared.care.Shown.{Shown}
use Rattle.line_control.specs.declared.office.Office.{Office}

-- how a line stands, and what it refuses for good
abbrev pub shown_in : ExchangeState → ℕ → Shown
shown_in exchange line = record { standing = standing_of exchange line; refusals = refusals_of exchange line }

-- A line stood and refused so when that was told last, and stands and refuses so now. Where it stands otherwise that is told, and counts;
-- and behind that each code by which it refuses what it didn't refuse by that is told. Nothing else of the journal has changed.
pub record Shows (stations : List Station) (line : ℕ) (was is : Shown) (before now : Journal) : Type 0 where
  pub same : was.standing ≡ is.standing → Tells (refusals_told stations line was.refusals is.refusals) before.told now.told
  pub changed : was.standing ≢ is.standing →
      Tells (change_told stations line was.standing is.standing ++ refusals_told stations line was.refusals is.refusals)
      before.told now.told
  pub uncounted : was.standing ≡ is.standing → now.tally ≡ before.tally
  pub counted : was.standing ≢ is.standing → now.tally ≡ with_change was.standing is.standing before.tally
  pub rest : now ≡ record before { told = now.told; tally = now.tally }

-- so a line is shown of which this is kept; nothing is where there is no such line
abbrev pub ShowsLine : List Station → ℕ → ExchangeState → Option Care → Journal → Journal → Type 0
ShowsLine stations line exchange None before now = now ≡ before
ShowsLine stations line exchange (Some care) before now = Shows stations line care.shown (shown_in exchange line) before now

-- how a line of a board is shown, where that has changed; nothing is where there is no line to show, or no exchange
abbrev pub ShowsIn : List Station → Option ℕ → Option (Box Office) → Journal → Journal → Type 0
ShowsIn stations None office before now = now ≡ before
ShowsIn stations (Some line) None before now = now ≡ before
ShowsIn stations (Some line) (Some office) before now =
    ShowsLine stations line office.value.exchange (slice_get office.value.cares.items line) before now
