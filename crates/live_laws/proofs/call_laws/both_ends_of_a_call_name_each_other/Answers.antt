use Rattle.live_laws.proofs.CallLaws.{name_each_other}
use Rattle.live_laws.proofs.call_laws.both_ends_of_a_call_name_each_other.Goals as goal

pub returns : goal.returns
returns c = name_each_other
