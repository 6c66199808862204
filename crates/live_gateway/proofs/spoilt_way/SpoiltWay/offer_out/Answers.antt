use Rattle.live_gateway.proofs.spoilt_way.SpoiltWay.offer_out.Goals as goal

pub returns-clause-offered : goal.returns-clause-offered
returns-clause-offered c = c.keep_copy.ensures

pub returns-clause-offers : goal.returns-clause-offers
returns-clause-offers c = record {
  fate = c.offer.ensures.fate;
  wait = c.offer.ensures.ok;
  in_part = c.offer.ensures.err;
  spoiling = c.offer.ensures.spoiling;
  draws = c.offer.ensures.generators;
}
