use Rattle.packages.proofs.SignalReading.{spelled, read_is_writable, fault_is_code}
use Rattle.packages.proofs.signals.read_signals.Goals as goal

pub returns-in-Ok-clause-writable : goal.returns-in-Ok-clause-writable
returns-in-Ok-clause-writable c =
    read_is_writable c.args.value.now _ (spelled c.args.value.now _ c.if-not-are_signals.ensures c.in-Ok.ensures)

pub returns-in-Err-clause-answers : goal.returns-in-Err-clause-answers
returns-in-Err-clause-answers c =
    let read = spelled c.args.value.now _ c.if-not-are_signals.ensures c.in-Err.ensures in (read, fault_is_code c.args.value.now _ read)
