use Rattle.std.proofs.Common.{refl}
use Rattle.live_laws.proofs.turning_examples.an_act_is_answered_by_what_came_of_it.Goals as goal

pub returns-clause-done : goal.returns-clause-done
returns-clause-done c = λ printed answer is. is.done_so

pub returns-clause-memory : goal.returns-clause-memory
returns-clause-memory c = λ printed answer is. is.memory refl

pub returns-clause-refused : goal.returns-clause-refused
returns-clause-refused c = λ printed answer is. is.refused (λ e. absurd cc)
