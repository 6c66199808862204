use Rattle.live_gateway.proofs.spoilt_way.SpoiltWay.offer_in.Goals as goal

pub returns-clause-offers : goal.returns-clause-offers
returns-clause-offers c = record {
  fate = c.offer.ensures.fate;
  wait = c.offer.ensures.ok;
  in_part = c.offer.ensures.err;
  spoiling = c.offer.ensures.spoiling;
  draws = c.offer.ensures.generators;
}
