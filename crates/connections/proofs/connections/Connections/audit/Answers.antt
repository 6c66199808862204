use Rattle.connections.proofs.CodeLaws.{code_of, audit_answers}
use Rattle.connections.proofs.connections.Connections.audit.Goals as goal

pub returns-in-Err-clause-answers : goal.returns-in-Err-clause-answers
returns-in-Err-clause-answers c = code_of _ _ c.in-Err.ensures (audit_answers c.args.id.now c.args.self.now)
