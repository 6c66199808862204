use Rattle.std.proofs.Common.{◌∙◌}
use Rattle.transmission.proofs.CountLaws.{purge_counted}
use Rattle.transmission.proofs.history.History.len.Goals as goal

pub returns-clause-purged : goal.returns-clause-purged
returns-clause-purged c = λ now before is. c.count.ensures ∙ purge_counted c.args.self.now now before is
