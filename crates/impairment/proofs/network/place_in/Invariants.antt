use Rattle.std.proofs.Common.{◌≡◌, ◌+◌, drop}
use Rattle.impairment.specs.Waiting.{place_in}
use Rattle.impairment.proofs.network.place_in.Given as goal

abbrev pub invariant-loop-place : goal.invariant-loop-place
invariant-loop-place l = l.place + place_in l.due (drop l.place l.waiting.items) ≡ place_in l.due l.waiting.items
