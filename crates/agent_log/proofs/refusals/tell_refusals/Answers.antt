use Rattle.agent_log.proofs.TellingLemmas.{tells_both}
use Rattle.agent_log.proofs.refusals.tell_refusals.Goals as goal

pub returns-clause-tells : goal.returns-clause-tells
returns-clause-tells c =
    tells_both _ _ c.args.journal.now.told c.tell_code.new.journal.told c.tell_code-2.new.journal.told
    (rw c.number_at-number.ensures at c.tell_code.ensures.tells) (rw c.number_at-number.ensures at c.tell_code-2.ensures.tells)
