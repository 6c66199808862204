use Rattle.std.proofs.Common.{refl}
use Rattle.telephone_control.proofs.picture.picture_of.Goals as goal

pub returns-clause-counted : goal.returns-clause-counted
returns-clause-counted c = rw (c.put_numbers.ensures) refl
