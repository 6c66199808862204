use Rattle.std.specs.Prelude.{Some}
use Rattle.live_agent.proofs.HandingLemmas.{offered_none, offered_so}
use Rattle.live_agent.proofs.wire.Wire.offer.Goals as goal

pub returns-in_default-clause-offers : goal.returns-in_default-clause-offers
returns-in_default-clause-offers g c =
    offered_none c.args.way c.args.peer c.args.bytes.now c.args.self.now.now.clock c.args.self.now.network c.args.self.now.journal.value.tally
    c.in_default.is

pub returns-clause-offers : goal.returns-clause-offers
returns-clause-offers g c =
    offered_so c.args.way c.args.peer c.args.bytes.now c.args.self.now.now.clock c.args.self.now.network c.in-Some.network c.offer_to.new.network
    c.args.self.now.journal.value.tally _ c.in-Some.is (rw (c.deref_mut.ensures.value) at c.offer_to.ensures.offers)
