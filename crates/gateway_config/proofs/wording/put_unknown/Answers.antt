use Rattle.std.specs.Prelude.{codes}
use Rattle.gateway_config.proofs.PieceLemmas.{behind}
use Rattle.gateway_config.proofs.wording.put_unknown.Goals as goal

pub returns : goal.returns
returns c = behind _ (codes "unknown key ") _ _ _ c.put.ensures c.put_text.ensures
