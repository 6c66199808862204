use Rattle.agent_gateways.proofs.CopyLemmas.{repeats_so}
use Rattle.agent_gateways.proofs.own_copy.OwnCopy.repeat.Goals as goal

pub returns-clause-kept : goal.returns-clause-kept
returns-clause-kept c =
    repeats_so c.self.inside.id c.self.inside.text c.self.inside.timing _ c.args.self.now c.args.moment c.self.view_is c.repeat.ensures.kept
