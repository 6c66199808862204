use Rattle.std.proofs.Common.{◌≡◌, take}
use Rattle.packages.specs.Signals.{signals_text}
use Rattle.packages.proofs.signals.write_signals.Given as goal

abbrev pub invariant-loop-place : goal.invariant-loop-place
invariant-loop-place l = l.out.items ≡ signals_text (take l.place l.requests)
