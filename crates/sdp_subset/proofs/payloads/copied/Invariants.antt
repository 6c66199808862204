use Rattle.std.proofs.Common.{◌≡◌, take}
use Rattle.sdp_subset.proofs.payloads.copied.Given as goal

abbrev pub invariant-loop-payload : goal.invariant-loop-payload
invariant-loop-payload l = l.copy ≡ take l.payload-index l.list
