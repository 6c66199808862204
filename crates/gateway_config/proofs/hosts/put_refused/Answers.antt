use Rattle.gateway_config.proofs.PieceLemmas.{behind}
use Rattle.gateway_config.proofs.hosts.put_refused.Goals as goal

pub returns-in-NotADomain : goal.returns-in-NotADomain
returns-in-NotADomain c =
    rw (c.in-NotADomain.is) (behind _ _ _ _ _ (behind _ _ _ _ _ c.put_text.ensures c.put.ensures) c.put_domain_wanted.ensures)

pub returns-in-Twice : goal.returns-in-Twice
returns-in-Twice c = rw (c.in-Twice.is) (behind _ _ _ _ _ c.put_text-in-Twice.ensures c.put-in-Twice.ensures)

pub returns-in-Full : goal.returns-in-Full
returns-in-Full c =
    rw (c.in-Full.is) (behind _ _ _ _ _ (behind _ _ _ _ _ c.write_number.ensures c.put-in-Full.ensures) c.write_number-in-Full.ensures)
