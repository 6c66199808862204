use Rattle.std.proofs.Common.{refl}
use Rattle.rgw_c.proofs.examples.a_text_is_read_last.Goals as goal

pub returns-clause-long : goal.returns-clause-long
returns-clause-long c = λ text e. rw e refl

pub returns-clause-longest : goal.returns-clause-longest
returns-clause-longest c = λ text e. rw e refl
