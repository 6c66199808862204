use Rattle.connections.proofs.CodeLaws.{refused_code, creation_answers}
use Rattle.connections.proofs.connections.Connections.create.Goals as goal

pub returns-in-Err-clause-answers : goal.returns-in-Err-clause-answers
returns-in-Err-clause-answers c = refused_code _ _ c.in-Err.ensures (creation_answers c.args.encoding c.args.creation c.args.self.now)
