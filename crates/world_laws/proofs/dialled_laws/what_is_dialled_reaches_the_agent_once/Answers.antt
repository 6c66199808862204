use Rattle.world_laws.proofs.EndLemmas.{dialled_on, dialled_through}
use Rattle.world_laws.proofs.dialled_laws.what_is_dialled_reaches_the_agent_once.Goals as goal

pub returns-clause-whole : goal.returns-clause-whole
returns-clause-whole c =
    λ setup steps line before after endpoint set_up taken few took at asked none. dialled_through setup steps line set_up taken few before after endpoint took at asked none

pub returns-clause-beginning : goal.returns-clause-beginning
returns-clause-beginning c =
    λ setup steps line before after endpoint set_up taken took at asked none. (_, dialled_on setup steps line set_up taken endpoint at none before after took asked)
