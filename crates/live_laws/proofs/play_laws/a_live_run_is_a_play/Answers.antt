use Rattle.live_play.proofs.RunLemmas.{handed_known, told_known, script_known}
use Rattle.live_laws.proofs.play_laws.a_live_run_is_a_play.Goals as goal

pub returns-clause-stands : goal.returns-clause-stands
returns-clause-stands c = λ was is entries before r s. r.stands before s

pub returns-clause-shown : goal.returns-clause-shown
returns-clause-shown c = λ was is entries before r s. r.play before s

pub returns-clause-handed : goal.returns-clause-handed
returns-clause-handed c = handed_known

pub returns-clause-told : goal.returns-clause-told
returns-clause-told c = told_known

pub returns-clause-script : goal.returns-clause-script
returns-clause-script c = script_known

pub returns-clause-marks : goal.returns-clause-marks
returns-clause-marks c = λ was is entries r. r.marks

pub returns-clause-ticks : goal.returns-clause-ticks
returns-clause-ticks c = λ was is entries r. r.ticks
