use Rattle.events_and_signals.proofs.GivenLaws.{few_held, in_order_from}
use Rattle.events_and_signals.proofs.quarantine_laws.nothing_but_the_lost_is_missing.Goals as goal

pub returns-clause-in_order : goal.returns-clause-in_order
returns-clause-in_order c = in_order_from

pub returns-clause-few : goal.returns-clause-few
returns-clause-few c = few_held
