use Rattle.std.proofs.Common.{arith}
use Rattle.mgcp_text.proofs.AnswerLemmas.{answer_writable}
use Rattle.mgcp_text.proofs.answer.AnswerContent.text.Goals as goal

pub returns-clause-writable : goal.returns-clause-writable
returns-clause-writable c =
    rw (← c.self.view_is) (answer_writable c.args.id (record { code = c.self.inside.code; params = c.self.inside.params; body = c.self.inside.body }) (omega arith) (omega arith) c.self.invariant)
