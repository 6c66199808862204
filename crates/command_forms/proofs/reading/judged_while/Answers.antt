use Rattle.std.proofs.Common.{◌≡◌, true, ◌||◌, refl}
use Rattle.mgcp_text.specs.Message.{params_in}
use Rattle.command_forms.specs.Order.{is_audit}
use Rattle.command_forms.proofs.MemoryLemmas.{either_holds, message_takes}
use Rattle.command_forms.proofs.reading.judged_while.Goals as goal
use Rattle.command_forms.proofs.reading.judged_while.Goals.{then-serves, else-serves}

pub returns-clause-memory : goal.returns-clause-memory
returns-clause-memory c =
    let here : params_in c.args.message.now ≡ c.as_slice-params.result.now = rw c.in-Command.is (cc) in
    let passes : (c.args.serves || is_audit c.in_ok-found.found.row.purpose) ≡ true = elim c.if-serves.branch [
      | then-serves w ↦ rw w.if-serves.true refl
      | else-serves w ↦ either_holds c.args.serves (is_audit c.in_ok-found.found.row.purpose) (cc)
    ] in
    message_takes c.args.serves c.args.message.now c.args.names.now c.in_ok-found.found c.args.confirms.now c.as_slice-params.result.now c.asked.result
    c.in_ok-found.ensures.answers passes here c.asked.ensures.memory
