use Rattle.agent_core.proofs.RunLemmas.{stop_spends, stop_stands}
use Rattle.world_laws.proofs.laws.what_running_a_world_means.Goals as goal

pub returns-clause-spent : goal.returns-clause-spent
returns-clause-spent c = λ w w' steps stopped stops is. stop_spends w w' steps stopped stops is

pub returns-clause-stands : goal.returns-clause-stands
returns-clause-stands c = λ w w' before steps stopped stops other s. stop_stands w w' before steps stopped stops other s
