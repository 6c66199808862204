use Rattle.std.proofs.Common.{◌∙◌, ap, refl}
use Rattle.retransmission.specs.Issued.{answered_with}
use Rattle.call_agent.proofs.StandLemmas.{answered_is}
use Rattle.call_agent.proofs.agent.Agent.answers.Goals as goal

pub returns : goal.returns
returns c = λ events s.
    c.answer_with.ensures ∙ ap (answered_with c.args.id) c.as_slice.ensures
    ∙ answered_is c.args.self.now c.self.inside.state.answers.is c.args.id events (rw (← c.self.view_is) refl) s
