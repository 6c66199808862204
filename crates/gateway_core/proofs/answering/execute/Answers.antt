use Rattle.gateway_core.proofs.answering.execute.Goals as goal

pub returns-clause-does : goal.returns-clause-does
returns-clause-does c = rw c.in_ok-confirms.ensures at c.execute_with_k.ensures.does

pub returns-clause-reply : goal.returns-clause-reply
returns-clause-reply c = rw c.in_ok-confirms.ensures at c.execute_with_k.ensures.reply
