use Rattle.std.proofs.Common.{sym}
use Rattle.std.proofs.lemmas.Result.{err_from_is_err_and}
use Rattle.mgcp_text.proofs.MemoryLemmas.{command_takes}
use Rattle.mgcp_text.proofs.reading.read_command.Goals as goal

pub returns-in_err-params-clause-memory : goal.returns-in_err-params-clause-memory
returns-in_err-params-clause-memory c =
    let p = err_from_is_err_and c.from_residual.result c.from_residual.ensures.1 in
    let there = c.in-Some-Some-Some in
    rw (p.1, p.2) (command_takes c.args.verb c.args.id c.args.words _ _ _ c.args.lines _ _ _ there.ensures.steps there.ensures'.steps there.ensures''.steps (sym c.if-not-is_version.ensures) c.in_err-params.ensures.memory)
