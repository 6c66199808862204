use Rattle.std.proofs.Common.{arith}
use Rattle.std.proofs.lemmas.Grind.{common_steps}
use Rattle.transmission.specs.Packing.{packed_after}
use Rattle.transmission.proofs.packing.packed.Goals as goal

pub loop-next-preserved : goal.loop-next-preserved
unfolding packed_after
loop-next-preserved c = grind (arith, common_steps)
