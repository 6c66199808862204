use Rattle.std.proofs.Common.{◌≡◌, true}
use Rattle.sdp_subset.specs.Payloads.{are_payloads}
use Rattle.sdp_subset.specs.Reading.{payloads_of}
use Rattle.sdp_subset.proofs.NumberLemmas.{with_rest}
use Rattle.sdp_subset.proofs.audio.payloads_of.Given as goal

abbrev pub invariant-loop-number : goal.invariant-loop-number
invariant-loop-number l = record {
  whole : with_rest l.payloads l.number-iterator ≡ payloads_of l.fn.numbers;
  are : are_payloads l.payloads ≡ true;
}
