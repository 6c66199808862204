-- Turns, one behind another.
use Rattle.std.proofs.Common.{◌≡◌, inl, ℕ, ◌+◌, suc, Bool, true, false, Result, Ok, refl, sym, ap, subst, ◌∙◌, arith}
use Rattle.std.specs.Prelude.{⊤, not, List, Option}
use Rattle.agent_log.specs.declared.journal.Journal.{Journal}
use Rattle.live_io.specs.Around.{Around}
use Rattle.live_io.specs.declared.surroundings.Fault.{Fault}
use Rattle.agent_gateways.specs.declared.gateway.Gateway.{Gateway}
use Rattle.agent_gateways.specs.declared.switchboard.Switchboard.{Switchboard}
use Rattle.turns.specs.Schedule.{opening}
use Rattle.turns.specs.declared.schedule.Schedule.{Schedule}
use Rattle.live_agent.specs.declared.wire.Wire.{Wire}
use Rattle.live_agent.specs.Serving.{Runs, RunsTurns, Serves, Writes}
use Rattle.live_agent.specs.Turning.{Waits, WaitsUntil}
use Rattle.live_agent.specs.Wiring.{due_of, longest_until, FallsDueFirst}

-- what comes next isn't the end
pub not_end : (is_over : Bool) → true ≡ not is_over → is_over ≡ false
not_end true so = absurd cc
not_end false so = refl

module _ {S W : Type 0} (writes : W → Journal → ℕ → W → Journal → Type 0) where
  -- what was recorded was written, and after it was kept whether some of it waits
  pub written_so : (before after : W) (was between is : Wire S) → writes before was.journal.value was.now.time after between.journal.value
      → between.journal.value.tally ≡ was.journal.value.tally → between ≡ record was { journal = between.journal }
      → is ≡ record between { is_offering = is.is_offering } → Writes writes was is
  written_so before after was between is wrote kept leaves next =
      let all : is ≡ record was { journal = between.journal; is_offering = is.is_offering }
      = next ∙ ap (λ (one : Wire S). record one { is_offering = is.is_offering }) leaves in
      record {
        before = before;
        after = after;
        wrote = subst (λ (one : Wire S). writes before was.journal.value was.now.time after one.journal.value) (sym next) wrote;
        counts = ap (λ (one : Wire S). one.journal.value.tally) next ∙ kept;
        rest = all ∙ ap (λ (one : Wire S). record was { journal = one.journal; is_offering = is.is_offering }) (sym all);
      }

-- it waited so long that it is until a moment, and no longer than to what falls due
pub waited_until : {S : Type 0} (around : Around S) (until moment longest : ℕ) (due : Option ℕ)
    (gateways : List Gateway) (was is : Wire S) → FallsDueFirst gateways (due_of was.network) due
    → longest ≡ longest_until until due moment → Waits around longest was is → WaitsUntil around until moment gateways was is
waited_until around until moment longest due gateways was is falls long waits =
    (due, falls, subst (λ (n : ℕ). Waits around n was is) long waits)

module _ {S : Type 0} (turns : Switchboard → Wire S → Schedule → Switchboard → Wire S → Schedule → Type 0) where
  -- one more
  runs_by : (count next : ℕ) (board between now : Switchboard) (was left is : Wire S) (schedule behind after : Schedule) → next ≡ suc count
      → RunsTurns turns count board was schedule between left behind → turns between left behind now is after
      → RunsTurns turns next board was schedule now is after
  runs_by count next board between now was left is schedule behind after one_more so_far turn =
      subst (λ (many : ℕ). RunsTurns turns many board was schedule now is after) (sym one_more) (between, left, behind, so_far, turn)

  pub runs_more : (count : ℕ) (board between now : Switchboard) (was left is : Wire S) (schedule behind after : Schedule)
      → RunsTurns turns count board was schedule between left behind → turns between left behind now is after
      → RunsTurns turns (count + 1) board was schedule now is after
  runs_more count board between now was left is schedule behind after so_far turn =
      runs_by count (count + 1) board between now was left is schedule behind after (omega arith) so_far turn

-- it served from the moment on that the clock told
pub serves_so : {S : Type 0} (around : Around S)
    (turns : Switchboard → Wire S → Schedule → Switchboard → Wire S → Schedule → Type 0) (start : ℕ) (result : Result ⊤ Fault)
    (board now : Switchboard) (was is : Wire S) (opened : Schedule) → around.passes was.around (Ok start) → opened ≡ opening start
    → Runs around turns result board was opened now is → Serves around turns result board was now is
serves_so around turns start result board now was is opened tells_start opened_is runs =
    inl (start, tells_start, subst (λ (schedule : Schedule). Runs around turns result board was schedule now is) opened_is runs)
