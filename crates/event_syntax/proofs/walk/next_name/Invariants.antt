use Rattle.std.proofs.Common.{◌≡◌, true, take}
use Rattle.std.specs.List.{list_all}
use Rattle.event_syntax.specs.Walking.{is_free_byte}
use Rattle.event_syntax.proofs.walk.next_name.Given as goal

abbrev pub invariant-loop-place : goal.invariant-loop-place
invariant-loop-place l = list_all (is_free_byte l.nested) (take l.place l.text) ≡ true
