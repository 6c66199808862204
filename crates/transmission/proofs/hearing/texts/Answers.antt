use Rattle.std.proofs.Common.{rules}
use Rattle.transmission.specs.Texts.{texts_of}
use Rattle.transmission.proofs.hearing.texts.Goals as goal

pub returns-clause-texts : goal.returns-clause-texts
unfolding texts_of
returns-clause-texts c = search rules
