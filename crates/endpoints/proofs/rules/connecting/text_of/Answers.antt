use Rattle.plain_machine.proofs.ShownLemmas.{body_writable}
use Rattle.endpoints.proofs.rules.connecting.text_of.Goals as goal

pub returns-clause-writable : goal.returns-clause-writable
returns-clause-writable c =
    rw c.owned.ensures (body_writable _ c.in_ok-text.ensures.whole c.in_ok-text.ensures.first c.in_ok-text.ensures.no_dots)
