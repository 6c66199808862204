use Rattle.std.proofs.Common.{◌≡◌, [], drop}
use Rattle.plain_machine.specs.Setup.{table_from}
use Rattle.endpoints.proofs.opening.table_of.Given as goal

abbrev pub invariant-loop-name : goal.invariant-loop-name
invariant-loop-name l = table_from l.table (drop l.name-index l.names) ≡ table_from [] l.names
