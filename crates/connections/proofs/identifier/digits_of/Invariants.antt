use Rattle.std.proofs.Common.{◌≡◌, ◌<◌, ◌-◌, ◌^◌}
use Rattle.arrayvec.specs.ArrayVec.{array_vec_len}
use Rattle.connections.specs.Numbers.{number_text}
use Rattle.connections.proofs.DigitLemmas.{digits_before}
use Rattle.connections.proofs.identifier.digits_of.Given as goal

abbrev pub invariant-loop-rest : goal.invariant-loop-rest
invariant-loop-rest l = record {
  made : digits_before (array_vec_len l.digits) l.rest l.digits.items ≡ number_text l.number;
  few : array_vec_len l.digits < 8;
  small : l.rest < 16 ^ (8 - array_vec_len l.digits);
}

abbrev pub decreases-loop-rest : goal.decreases-loop-rest
decreases-loop-rest l = l.rest
