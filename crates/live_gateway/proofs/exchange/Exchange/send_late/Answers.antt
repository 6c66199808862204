use Rattle.std.proofs.Common.{refl}
use Rattle.std.specs.Prelude.{Ok, Err}
use Rattle.live_gateway.proofs.exchange.Exchange.send_late.Goals as goal

pub returns-in-Ok-clause-noted : goal.returns-in-Ok-clause-noted
returns-in-Ok-clause-noted g c = (Ok _, c.in-Ok.ensures.handed, refl)

pub returns-in-Err-clause-noted : goal.returns-in-Err-clause-noted
returns-in-Err-clause-noted g c = (
  Err _,
  c.in-Err.ensures.handed,
  record {
    told = c.unsent.ensures.told;
    quiet = c.unsent.ensures.quiet;
    log = c.unsent.ensures.log;
    tally = c.unsent.ensures.tally;
    rest = c.unsent.ensures.rest;
  },
)
