use Rattle.std.proofs.Common.{◌≡◌, true, false, refl, rules}
use Rattle.std.specs.Prelude.{is_some}
use Rattle.std.specs.Box.{with_value}
use Rattle.live_agent.proofs.SendingLemmas.{goes_leaving, goes_offered, over_journal, over_leaving, over_network, sent_more}
use Rattle.live_agent.proofs.TallyingLemmas.{left_so, offered_so}
use Rattle.live_agent.proofs.wire.Wire.send.Goals as goal

pub returns-then-offer-clause-tally : goal.returns-then-offer-clause-tally
returns-then-offer-clause-tally g c =
    let some : is_some c.args.self.now.network ≡ true = search rules in
    offered_so c.args.is_repeat c.args.self.now.network c.args.self.now.journal.value.tally _ c.offer.new.self.journal.value.tally
    (rw (c.deref_mut.ensures.value) at c.sent.ensures.tally) some c.offer.ensures.tally

pub returns-clause-tally : goal.returns-clause-tally
returns-clause-tally g c =
    let none : is_some c.args.self.now.network ≡ false = search rules in
    left_so c.args.is_repeat c.args.self.now.network c.args.self.now.journal.value.tally _ c.offer.new.self.journal.value.tally
    c.transmit.new.self.journal.value.tally (rw (c.deref_mut.ensures.value) at c.sent.ensures.tally)
    none c.offer.ensures.tally c.transmit.ensures.tally

pub returns-then-offer-clause-over : goal.returns-then-offer-clause-over
returns-then-offer-clause-over g c =
    let noted = record c.args.self.now { journal = with_value c.args.self.now.journal c.sent.new.self } in
    sent_more c.args.self.now noted c.offer.new.self (over_journal c.args.self.now noted refl)
    (over_network noted c.offer.new.self c.offer.ensures.rest)

pub returns-clause-over : goal.returns-clause-over
returns-clause-over g c =
    let noted = record c.args.self.now { journal = with_value c.args.self.now.journal c.sent.new.self } in
    sent_more c.args.self.now c.offer.new.self c.transmit.new.self
    (sent_more c.args.self.now noted c.offer.new.self (over_journal c.args.self.now noted refl)
    (over_network noted c.offer.new.self c.offer.ensures.rest))
    (over_leaving c.offer.new.self c.transmit.new.self c.transmit.ensures.rest)

pub returns-then-offer-clause-one : goal.returns-then-offer-clause-one
returns-then-offer-clause-one g c =
    let some : is_some c.args.self.now.network ≡ true = search rules in
    let noted = record c.args.self.now { journal = with_value c.args.self.now.journal c.sent.new.self } in
    record {
      over = sent_more c.args.self.now noted c.offer.new.self (over_journal c.args.self.now noted refl)
          (over_network noted c.offer.new.self c.offer.ensures.rest);
      counts = offered_so c.args.is_repeat c.args.self.now.network c.args.self.now.journal.value.tally _ c.offer.new.self.journal.value.tally
          (rw (c.deref_mut.ensures.value) at c.sent.ensures.tally) some c.offer.ensures.tally;
      noted = noted;
      notes = rw (c.deref_mut.ensures.value) at c.sent.ensures.tally;
      records = rw (c.deref_mut.ensures.value) at c.sent.ensures.rest;
      rest = refl;
      goes = goes_offered g.S.Surroundings.around c.args.to c.args.bytes.now c.args.self.now.network noted c.offer.new.self some c.offer.ensures.offers c.offer.ensures.notes c.offer.ensures.rest;
    }

pub returns-clause-one : goal.returns-clause-one
returns-clause-one g c =
    let none : is_some c.args.self.now.network ≡ false = search rules in
    let noted = record c.args.self.now { journal = with_value c.args.self.now.journal c.sent.new.self } in
    record {
      over = sent_more c.args.self.now c.offer.new.self c.transmit.new.self
          (sent_more c.args.self.now noted c.offer.new.self (over_journal c.args.self.now noted refl)
          (over_network noted c.offer.new.self c.offer.ensures.rest))
          (over_leaving c.offer.new.self c.transmit.new.self c.transmit.ensures.rest);
      counts = left_so c.args.is_repeat c.args.self.now.network c.args.self.now.journal.value.tally _ c.offer.new.self.journal.value.tally
          c.transmit.new.self.journal.value.tally (rw (c.deref_mut.ensures.value) at c.sent.ensures.tally)
          none c.offer.ensures.tally c.transmit.ensures.tally;
      noted = noted;
      notes = rw (c.deref_mut.ensures.value) at c.sent.ensures.tally;
      records = rw (c.deref_mut.ensures.value) at c.sent.ensures.rest;
      rest = refl;
      goes = goes_leaving g.S.Surroundings.around c.args.to c.args.bytes.now c.args.self.now.network noted c.offer.new.self c.transmit.new.self none
          (c.offer.ensures.none c.if-offer.false) c.transmit.ensures.leaves;
    }
