use Rattle.std.proofs.Common.{◌≡◌, drop, map}
use Rattle.mg_bytes.specs.Checks.{first_fault}
use Rattle.events_and_signals.specs.Applying.{refused_entry}
use Rattle.events_and_signals.proofs.signal_request.refused.Given as goal

abbrev pub invariant-loop-request : goal.invariant-loop-request
invariant-loop-request l = first_fault (map (refused_entry l.hook) (drop l.request-index l.requests)) ≡ first_fault (map (refused_entry l.hook) l.requests)
