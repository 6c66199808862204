use Rattle.std.proofs.Common.{[], ◌∙◌}
use Rattle.call_agent.proofs.HearingLemmas.{went_next, went_end, went_on}
use Rattle.call_agent.proofs.hearing.take_datagram.Goals as goal

pub loop-text-preserved : goal.loop-text-preserved
loop-text-preserved c = record {
  completes = λ is are rest. c.loop-text.invariant.completes is are (went_next _ _ _ _ _ _ _ is _ _ are c.in-Some-next.ensures.steps c.in_ok-take.ensures rest);
  found = c.in_ok-take.ensures.found ∙ c.loop-text.invariant.found;
  clock = went_on _ _ _ _ _ _ _ c.in_ok-take.ensures ∙ c.loop-text.invariant.clock;
}

pub returns-clause-happens : goal.returns-clause-happens
returns-clause-happens c = c.loop-text.invariant.completes c.loop-text.state _ (went_end _ _ _ _ _ c.in_default-next.ensures.steps.0)

pub returns-in_default-clause-happens : goal.returns-in_default-clause-happens
returns-in_default-clause-happens c = rw c.new-out.ensures.items (went_end _ _ _ c.args.state.now [] c.in_default.ensures.texts)
