use Rattle.endpoints.proofs.ResponseLemmas.{is_answered, nothing_sent, on_ok}
use Rattle.endpoints.proofs.rules.responding.responded_on.Goals as goal

pub returns-in_ok-replied-in-Answered-clause-turn : goal.returns-in_ok-replied-in-Answered-clause-turn
returns-in_ok-replied-in-Answered-clause-turn c = on_ok c.answered_on.result
    (λ goes. is_answered c.args.context.setup.now c.args.occasion.line c.args.occasion.moment c.args.response.now c.args.endpoint.now _ _ c.replied-in-Answered.new.post _ _ _
    c.in-Answered.ensures (rw c.in-Answered.is at c.in_ok-replied-in-Answered.ensures.turn) goes)
    c.answered_on.ensures.turn

pub returns-in_ok-replied-in-Answered-clause-err : goal.returns-in_ok-replied-in-Answered-clause-err
returns-in_ok-replied-in-Answered-clause-err c = nothing_sent c.answered_on.result _ _ c.args.context.setup.now c.args.occasion.line c.args.occasion.moment
    c.args.response.now c.args.endpoint.now _ _ _ (rw c.in-Answered.is at c.in_ok-replied-in-Answered.ensures.turn) c.answered_on.ensures.err
