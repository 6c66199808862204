use Rattle.page_state.proofs.KeepingLemmas.{is_short}
use Rattle.page_state.specs.declared.ring.TheConstants.{MOST_TEXT}
use Rattle.page_state.proofs.ring.beginning.Goals as goal

pub returns-in-None : goal.returns-in-None
returns-in-None c = is_short MOST_TEXT c.args.text.now c.in-None.ensures.lookup.0
