use Rattle.std.proofs.Common.{◌≡◌, ◌++◌, map, take}
use Rattle.event_syntax.specs.Requested.{listed, embedded_event_text}
use Rattle.event_syntax.proofs.request_writing.put_embedded_events.Given as goal

abbrev pub invariant-loop-place : goal.invariant-loop-place
invariant-loop-place l = l.out.items ≡ l.fn.out.items ++ listed (map embedded_event_text (take l.place l.events))
