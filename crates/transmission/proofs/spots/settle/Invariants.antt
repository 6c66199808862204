use Rattle.std.proofs.Common.{◌-◌, ◌≤◌, length, take}
use Rattle.indexmap.specs.IndexMap.{spare}
use Rattle.transmission.specs.Spots.{Indexes}
use Rattle.transmission.proofs.spots.settle.Given as goal

abbrev pub invariant-loop-place : goal.invariant-loop-place
invariant-loop-place l = record {
  index : Indexes l.spots (take l.place l.entries);
  room : length l.entries - l.place ≤ spare l.spots;
}
