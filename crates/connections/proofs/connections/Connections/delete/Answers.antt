use Rattle.connections.proofs.CodeLaws.{refused_deletion_code, deletion_answers}
use Rattle.connections.proofs.connections.Connections.delete.Goals as goal

pub returns-in-Err-clause-answers : goal.returns-in-Err-clause-answers
returns-in-Err-clause-answers c = refused_deletion_code _ _ c.in-Err.ensures (deletion_answers c.args.deletion.now c.args.self.now)
