-- The lines of a trace, replayed one after the other.
use Rattle.std.specs.Prelude.{ℕ, List, [], ◌∷◌, ◌++◌, Option, None, Some, option_and_then}
use Rattle.plain_machine.specs.declared.setup.Setup.{Setup}
use Rattle.rgw_scripts.specs.Moves.{Move}
use Rattle.traces.specs.Replaying.{Replayed, Comes, goes_on, tells, differs, is_broken, next}

-- what was replayed, the lines that went out so far, and the moves that the others say
pub record Run : Type 0 where
  pub at : Replayed
  pub told : List ℕ
  pub moves : List Move

-- nothing yet
abbrev pub opening_run : Run
opening_run = record { at = record { taken = []; opened = None; owed = [] }; told = []; moves = [] }

-- a run goes on by what a line comes to, unless that isn't as it is told, or can't stand there
abbrev pub with_line : Run → List ℕ → Comes → Option Run
with_line run piece (goes_on moves after) = Some (record { at = after; told = run.told; moves = run.moves ++ moves })
with_line run piece (tells after) = Some (record { at = after; told = run.told ++ piece; moves = run.moves })
with_line run piece differs = None
with_line run piece is_broken = None

unfoldable pub run_from : Setup → Run → List (List ℕ) → Option Run
run_from setup run [] = Some run
run_from setup run (piece ∷ pieces) =
    option_and_then (λ next_run. run_from setup next_run pieces) (with_line run piece (next setup run.at piece))
