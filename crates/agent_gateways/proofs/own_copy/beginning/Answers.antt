use Rattle.std.proofs.Common.{rules}
use Rattle.transmission.specs.Texts.{largest_datagram}
use Rattle.agent_gateways.proofs.CopyLemmas.{whole, whole_short, cut_short}
use Rattle.agent_gateways.proofs.own_copy.beginning.Goals as goal

pub returns-in-Some-clause-short : goal.returns-in-Some-clause-short
returns-in-Some-clause-short c = cut_short largest_datagram c.args.text.now c.in-Some.beginning.now (search rules)

pub returns-in-None-clause-beginning : goal.returns-in-None-clause-beginning
returns-in-None-clause-beginning c = whole largest_datagram c.args.text.now c.in-None.ensures.lookup.0

pub returns-in-None-clause-short : goal.returns-in-None-clause-short
returns-in-None-clause-short c = whole_short largest_datagram c.args.text.now c.in-None.ensures.lookup.0
