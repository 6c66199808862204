use Rattle.std.proofs.Common.{sym}
use Rattle.packages.proofs.HandlingLaws.{fault_is_code}
use Rattle.packages.proofs.handling.read_handling.Goals as goal

pub returns-in-Err-clause-answers : goal.returns-in-Err-clause-answers
returns-in-Err-clause-answers c = let read = sym c.in-Err.ensures in (read, fault_is_code c.args.value.now _ read)
