use Rattle.world_laws.proofs.RoundLaws.{out_in_time, rests_in_time}
use Rattle.world_laws.proofs.delivery_laws.what_is_quarantined_goes_out_in_time.Goals as goal

pub returns-clause-out : goal.returns-clause-out
returns-clause-out c = out_in_time

pub returns-clause-rests : goal.returns-clause-rests
returns-clause-rests c = rests_in_time
