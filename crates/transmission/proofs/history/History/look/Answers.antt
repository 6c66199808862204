use Rattle.transmission.specs.Looking.{looked_in}
use Rattle.transmission.proofs.EntryLaws.{tells_arrival}
use Rattle.transmission.proofs.history.History.look.Goals as goal

pub returns-clause-arrived : goal.returns-clause-arrived
returns-clause-arrived c = tells_arrival c.args.self.now.kept c.args.id c.args.now (looked_in c.tell.result) c.tell.ensures
