use Rattle.std.proofs.Common.{◌≡◌, take}
use Rattle.event_syntax.specs.Requested.{requested_text}
use Rattle.event_syntax.proofs.request_writing.events_text.Given as goal

abbrev pub invariant-loop-place : goal.invariant-loop-place
invariant-loop-place l = l.out.items ≡ requested_text (take l.place l.list)
