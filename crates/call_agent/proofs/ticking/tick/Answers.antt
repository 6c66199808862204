use Rattle.std.proofs.Common.{rules, refl}
use Rattle.call_agent.proofs.PassLemmas.{ticked_idly}
use Rattle.call_agent.proofs.ticking.tick.Goals as goal

pub returns-then-is_none-clause-happens : goal.returns-then-is_none-clause-happens
returns-then-is_none-clause-happens c = ticked_idly c.args.state.now _ c.args.moment _ (search rules) c.new-out.ensures.items refl
