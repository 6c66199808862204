use Rattle.std.proofs.Common.{◌≡◌, refl, sym, ap, inl, rules}
use Rattle.std.specs.Prelude.{⊤, Result}
use Rattle.live_io.specs.declared.surroundings.Fault.{Fault}
use Rattle.live_agent.specs.Tallying.{leaving_counted}
use Rattle.live_agent.proofs.HandingLemmas.{left_counted}
use Rattle.live_agent.proofs.wire.Wire.transmit.Goals as goal

pub returns-in-Ok-clause-tally : goal.returns-in-Ok-clause-tally
returns-in-Ok-clause-tally g c = inl refl

pub returns-in-Ok-clause-leaves : goal.returns-in-Ok-clause-leaves
returns-in-Ok-clause-leaves g c = record {
  outcome = c.send-sent.result;
  handed = (c.send-sent.ensures.handed, c.send-sent.ensures.sent, c.send-sent.ensures.received);
  counts = sym (ap (λ (sent : Result ⊤ Fault). leaving_counted sent c.args.self.now.journal.value.tally) c.in-Ok.is);
  notes = refl;
  rest = refl;
}

pub returns-in-Err-clause-tally : goal.returns-in-Err-clause-tally
returns-in-Err-clause-tally g c =
    left_counted c.send-sent.result c.args.self.now.journal.value.tally c.note.new.self.tally (search rules)

pub returns-in-Err-clause-leaves : goal.returns-in-Err-clause-leaves
returns-in-Err-clause-leaves g c = record {
  outcome = c.send-sent.result;
  handed = (c.send-sent.ensures.handed, c.send-sent.ensures.sent, c.send-sent.ensures.received);
  counts = search rules;
  notes = search rules;
  rest = refl;
}
