use Rattle.std.proofs.Common.{◌≡◌, drop, None}
use Rattle.transmission.specs.Looking.{latest}
use Rattle.transmission.proofs.recall.latest.Given as goal

abbrev pub invariant-loop-place : goal.invariant-loop-place
invariant-loop-place l = latest (drop l.place l.entries) l.id l.now ≡ None
