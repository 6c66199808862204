use Rattle.std.proofs.Common.{◌≡◌, take}
use Rattle.audits.specs.EndpointReport.{active_text}
use Rattle.audits.proofs.event_items.active_text.Given as goal

abbrev pub invariant-loop-place : goal.invariant-loop-place
invariant-loop-place l = l.out.items ≡ active_text (take l.place l.signals)
