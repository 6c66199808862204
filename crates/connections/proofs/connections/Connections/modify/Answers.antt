use Rattle.connections.proofs.CodeLaws.{refused_code, change_answers}
use Rattle.connections.proofs.connections.Connections.modify.Goals as goal

pub returns-in-Err-clause-answers : goal.returns-in-Err-clause-answers
returns-in-Err-clause-answers c = refused_code _ _ c.in-Err.ensures (change_answers c.args.encoding c.args.call.now c.args.id.now c.args.change c.args.self.now)
