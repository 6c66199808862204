use Rattle.rgw_scripts.proofs.JudgedLemmas.{judged-long, judged-short}
use Rattle.rgw_scripts.proofs.laws.faults_come_in_their_order.Goals as goal

pub returns-clause-long : goal.returns-clause-long
returns-clause-long c = judged-long

pub returns-clause-short : goal.returns-clause-short
returns-clause-short c = judged-short
