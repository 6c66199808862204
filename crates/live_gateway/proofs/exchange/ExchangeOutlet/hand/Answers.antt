use Rattle.std.proofs.Common.{rules, sym, ap, refl}
use Rattle.std.specs.Prelude.{Ok, Err}
use Rattle.impairment.specs.declared.fate.Fate.{Fate}
use Rattle.live_io.specs.declared.surroundings.Fault.{Fault}
use Rattle.live_gateway.specs.Exchanging.{mark_of}
use Rattle.live_gateway.proofs.SendingLemmas.{unmarked}
use Rattle.live_gateway.proofs.exchange.ExchangeOutlet.hand.Goals as goal

pub returns-in-Lost-clause-hands : goal.returns-in-Lost-clause-hands
returns-in-Lost-clause-hands g c = record {
  shown = search rules;
  became = (
    Ok c.in-Ok.fate,
    c.in-Ok.ensures.became,
    sym (ap (λ (fate : Fate). mark_of {E = Fault} (Ok fate)) c.in-Lost.is),
    c.sent.new.self.log.value,
    c.sent.ensures.logged,
    (rw (c.send.ensures.journal, c.send.ensures.rest.1.0) at c.spoilt.ensures.told, rw (c.send.ensures.journal) at c.spoilt.ensures.log),
  );
  captured = search rules;
  counted = search rules;
  faults = search rules;
  written = search rules;
  rest = search rules;
}

pub returns-in-Once-clause-hands : goal.returns-in-Once-clause-hands
returns-in-Once-clause-hands g c = record {
  shown = search rules;
  became = (
    Ok c.in-Ok.fate,
    c.in-Ok.ensures.became,
    unmarked Fault c.in-Ok.fate c.in-Once.is,
    c.sent.new.self.log.value,
    c.sent.ensures.logged,
    (rw (c.send.ensures.journal, c.send.ensures.rest.1.0) at c.spoilt.ensures.told, rw (c.send.ensures.journal) at c.spoilt.ensures.log),
  );
  captured = search rules;
  counted = search rules;
  faults = search rules;
  written = search rules;
  rest = search rules;
}

pub returns-in-Err-clause-hands : goal.returns-in-Err-clause-hands
returns-in-Err-clause-hands g c = record {
  shown = search rules;
  became = (
    Err _,
    c.in-Err.ensures.became,
    refl,
    c.sent.new.self.log.value,
    c.sent.ensures.logged,
    (rw (c.send.ensures.journal, c.send.ensures.rest.1.0) at c.unsent.ensures.told, rw (c.send.ensures.journal) at c.unsent.ensures.log),
  );
  captured = search rules;
  counted = search rules;
  faults = search rules;
  written = search rules;
  rest = search rules;
}
