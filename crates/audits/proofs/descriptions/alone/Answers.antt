use Rattle.audits.proofs.BodyLemmas.{body_writable}
use Rattle.audits.proofs.descriptions.alone.Goals as goal

pub returns-clause-writable : goal.returns-clause-writable
returns-clause-writable c = rw c.owned.ensures (body_writable _ c.requires)
