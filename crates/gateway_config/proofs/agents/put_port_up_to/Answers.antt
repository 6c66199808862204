use Rattle.std.specs.Prelude.{codes}
use Rattle.gateway_config.proofs.PieceLemmas.{behind}
use Rattle.gateway_config.proofs.agents.put_port_up_to.Goals as goal

pub returns : goal.returns
returns c = behind _ (codes ", wanted a port from 1 to ") _ _ _ c.put.ensures c.write_number.ensures
