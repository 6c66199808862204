use Rattle.retransmission.proofs.LifeLaws.{never_answered}
use Rattle.retransmission.proofs.pending_laws.other_responses_answer_nothing.Goals as goal

pub returns : goal.returns
returns c = λ message happenings none e. absurd (let no = never_answered message happenings none in cc)
