use Rattle.transmission.specs.Memory.{most_firsts}
use Rattle.transmission.proofs.KindLaws.{firsts_apart}
use Rattle.plain_machine.specs.Transactions.{commands_of}
use Rattle.machine_laws.proofs.TransactionLaws.{history_is}
use Rattle.machine_laws.proofs.laws.the_firsts_of_all_commands_are_kept.Goals as goal

pub returns-clause-kept : goal.returns-clause-kept
returns-clause-kept c = history_is

pub returns-clause-apart : goal.returns-clause-apart
returns-clause-apart c = λ setup events. firsts_apart most_firsts (commands_of setup events)
