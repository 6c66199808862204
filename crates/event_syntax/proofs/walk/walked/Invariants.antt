use Rattle.std.proofs.Common.{◌≡◌, true, [], length}
use Rattle.std.specs.Prelude.{reverse}
use Rattle.event_syntax.specs.declared.walk.Stand.TheVariants.{Entry}
use Rattle.event_syntax.specs.Walking.{is_left, holds_events}
use Rattle.event_syntax.proofs.walk.walked.Given as goal

abbrev pub invariant-loop-outers : goal.invariant-loop-outers
invariant-loop-outers l = record {
  left : is_left l.stand l.depth (reverse l.outers.items) l.rest ≡ is_left Entry (length l.value) [] l.value;
  holds : holds_events [] l.rest ≡ true → holds_events [] l.value ≡ true;
}

abbrev pub decreases-loop-outers : goal.decreases-loop-outers
decreases-loop-outers l = length l.rest
