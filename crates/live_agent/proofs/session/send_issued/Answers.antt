use Rattle.std.proofs.Common.{ℕ, ap, refl}
use Rattle.live_agent.proofs.session.send_issued.Goals as goal

pub returns : goal.returns
returns g c = record {
  counted = _;
  counts = ap (λ (commands : ℕ). record c.args.wire.now.journal.value.tally { commands = commands }) (rw (c.deref_mut.ensures.value) at c.count.ensures);
  alone = refl;
  rest = refl;
  goes = rw (c.as_bytes.ensures, c.deref_mut.ensures.value) at c.send.ensures.one;
}
