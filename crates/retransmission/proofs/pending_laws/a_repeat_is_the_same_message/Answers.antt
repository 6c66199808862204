use Rattle.retransmission.proofs.LifeLaws.{repeat_same, reply_same}
use Rattle.retransmission.proofs.pending_laws.a_repeat_is_the_same_message.Goals as goal

pub returns-clause-repeat : goal.returns-clause-repeat
returns-clause-repeat c = λ message moment. let s = repeat_same message moment in (s.same_id, s.same_route, s.same_text, s.same_start)

pub returns-clause-reply : goal.returns-clause-reply
returns-clause-reply c =
    λ message id code moment. let s = reply_same message id code moment in (s.same_id, s.same_route, s.same_text, s.same_start)
