use Rattle.std.proofs.Common.{ap}
use Rattle.events_and_signals.specs.Choice.{chosen, chosen_by}
use Rattle.events_and_signals.specs.Naming.{names}
use Rattle.events_and_signals.proofs.ChoiceLaws.{none_found, first_found}
use Rattle.events_and_signals.proofs.request_laws.the_first_entry_that_names_an_event_counts.Goals as goal

-- src/laws.rt:10:1
pub returns-clause-first : goal.returns-clause-first
unfolding chosen
returns-clause-first c = λ front rest entry event others named.
    ap (chosen_by event) (first_found (λ other. names other.events event) front rest entry others named)

-- src/laws.rt:10:1
pub returns-clause-none : goal.returns-clause-none
unfolding chosen
returns-clause-none c = λ requested event none.
    ap (chosen_by event) (none_found (λ other. names other.events event) requested none)
