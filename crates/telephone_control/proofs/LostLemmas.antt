-- Events that were lost, line by line.
use Rattle.std.proofs.Common.{◌≡◌, ℕ, suc, ◌+◌, Some, refl, arith}
use Rattle.plain_machine.specs.Lists.{lost_of}
use Rattle.plain_machine.specs.Machine.{Machine}
use Rattle.output_queues.specs.Backlog.{sum_within}
use Rattle.telephone_control.specs.Losses.{lost_of_lines}

pub none_lost : (m : Machine) → 0 ≡ lost_of_lines m 0
unfolding lost_of_lines
none_lost m = refl

lost_suc : (m : Machine) (before next : ℕ) → lost_of m (suc before) ≡ Some next → sum_within (lost_of_lines m before) next ≡ lost_of_lines m (suc before)
unfolding lost_of_lines
lost_suc m before next is = rw is refl

pub more_lost : (m : Machine) (before lost next now : ℕ) → lost ≡ lost_of_lines m before → lost_of m (before + 1) ≡ Some next → now ≡ sum_within lost next
    → now ≡ lost_of_lines m (before + 1)
more_lost m before lost next now were is now_is =
    let same : before + 1 ≡ suc before = omega arith in
    rw same (rw now_is (rw were (lost_suc m before next (rw same at is))))
