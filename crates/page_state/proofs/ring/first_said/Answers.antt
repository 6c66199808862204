use Rattle.page_state.proofs.KeepingLemmas.{is_short}
use Rattle.page_state.specs.declared.ring.TheConstants.{MOST_SAID}
use Rattle.page_state.proofs.ring.first_said.Goals as goal

pub returns-in-None : goal.returns-in-None
returns-in-None c = is_short MOST_SAID c.args.said.now c.in-None.ensures.lookup.0
