use Rattle.std.proofs.Common.{length, sym, arith}
use Rattle.std.proofs.lemmas.Bool.{lt-ltb}
use Rattle.transmission.specs.Memory.{most_firsts}
use Rattle.transmission.specs.Kept.{young_firsts}
use Rattle.transmission.proofs.CountLaws.{young-le-firsts}
use Rattle.transmission.proofs.recall.has_room.Goals as goal

pub returns-then-firsts-lt-MOST_FIRSTS : goal.returns-then-firsts-lt-MOST_FIRSTS
returns-then-firsts-lt-MOST_FIRSTS c =
    sym (lt-ltb (length (young_firsts c.args.now c.args.entries.now)) most_firsts
    (omega (arith, young-le-firsts c.args.now c.args.entries.now, c.requires.counted, c.if-firsts-lt-MOST_FIRSTS.true)))
