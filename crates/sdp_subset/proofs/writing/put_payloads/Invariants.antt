use Rattle.std.proofs.Common.{◌≡◌, ◌++◌, drop}
use Rattle.sdp_subset.specs.Writing.{payloads_text}
use Rattle.sdp_subset.proofs.writing.put_payloads.Given as goal

abbrev pub invariant-loop-payload : goal.invariant-loop-payload
invariant-loop-payload l = l.out ++ payloads_text (drop l.payload-index l.payloads) ≡ l.fn.out ++ payloads_text l.payloads
