use Rattle.std.proofs.Common.{◌≡◌, ℕ, ap, ◌∙◌, Ok, rules}
use Rattle.std.specs.Result.{result_ok}
use Rattle.plain_machine.specs.Answering.{line_of_name}
use Rattle.gateway_core.specs.State.{found_in}
use Rattle.gateway_core.proofs.TextLemmas.{command_done, command_told}
use Rattle.gateway_core.proofs.answering.handle.Goals as goal

pub returns-in_ok-reply-in-Command-clause-does : goal.returns-in_ok-reply-in-Command-clause-does
returns-in_ok-reply-in-Command-clause-does c = command_done {A = ℕ} (Ok 0) _ _ _ _ _ _ _ _ _ _ _ _ _ _ (ap result_ok c.in-Ok.is) c.in-Command.is (c.line_of_name-line.ensures ∙ ap (line_of_name c.args.context.setup.now) c.as_slice.ensures) c.in_ok-reply-in-Command.ensures.does

pub returns-in_ok-reply-in-Command-clause-outcome : goal.returns-in_ok-reply-in-Command-clause-outcome
returns-in_ok-reply-in-Command-clause-outcome c = command_told _ _ _ _ _ _ _ _ _ _ _ _ (ap result_ok c.in-Ok.is) c.in-Command.is c.in_ok-reply-in-Command.ensures.reply

pub returns-in_err-reply-in-Command-clause-does : goal.returns-in_err-reply-in-Command-clause-does
returns-in_err-reply-in-Command-clause-does c =
    let found : found_in c.execute.new.state ≡ found_in c.args.state.now = c.in_err-reply-in-Command.ensures.does in
    search rules
