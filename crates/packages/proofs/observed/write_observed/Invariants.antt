use Rattle.std.proofs.Common.{◌≡◌, take}
use Rattle.packages.specs.Observed.{observed_text}
use Rattle.packages.proofs.observed.write_observed.Given as goal

abbrev pub invariant-loop-place : goal.invariant-loop-place
invariant-loop-place l = l.out.items ≡ observed_text (take l.place l.list)
