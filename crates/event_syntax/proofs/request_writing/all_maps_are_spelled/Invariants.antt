use Rattle.std.proofs.Common.{◌≡◌, true, take}
use Rattle.event_syntax.specs.Requested.{all_maps_are_spelled}
use Rattle.event_syntax.proofs.request_writing.all_maps_are_spelled.Given as goal

abbrev pub invariant-loop-entry : goal.invariant-loop-entry
invariant-loop-entry l = all_maps_are_spelled (take l.entry-index l.list) ≡ true
