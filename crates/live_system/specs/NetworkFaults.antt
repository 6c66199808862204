-- What is wanted where a text says nothing of a network.
use Rattle.std.specs.Prelude.{ℕ, codes, List}
use Rattle.impairment.specs.declared.spoiling.SpoilingFault.{SpoilingFault}
use Rattle.impairment.specs.declared.spoiling.SpoilingFault.TheVariants.{Lose, Copy, Late, Seed, Other}

-- what stands, in a text that is right, at the place of a fault
unfoldable pub wanted_by : SpoilingFault → List ℕ
wanted_by Lose = codes "lose: 0% to 100%, once for each direction"
wanted_by Copy = codes "copy: 0% to 100%, once for each direction"
wanted_by Late = codes "late: LEAST-MOST in ms, 10000 at most, once for each direction"
wanted_by Seed = codes "seed: a number, once for each direction"
wanted_by Other = codes "lose N%, copy N%, late LEAST-MOST, seed N, or one of these after in or out"
