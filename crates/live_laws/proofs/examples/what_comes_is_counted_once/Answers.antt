use Rattle.std.proofs.Common.{ap}
use Rattle.message_counts.specs.declared.message_tally.MessageTally.{MessageTally}
use Rattle.live_gateway.proofs.ArrivalLemmas.{found_keeps_sent}
use Rattle.live_laws.proofs.examples.what_comes_is_counted_once.Goals as goal

pub returns-clause-once : goal.returns-clause-once
returns-clause-once c was is counts = ap (λ (tally : MessageTally). tally.datagrams_in) counts.tally

pub returns-clause-none : goal.returns-clause-none
returns-clause-none c was is counts = ap (λ (tally : MessageTally). tally.datagrams_in) counts.tally

pub returns-clause-rest : goal.returns-clause-rest
returns-clause-rest c was is found counts = found_keeps_sent was found is counts
