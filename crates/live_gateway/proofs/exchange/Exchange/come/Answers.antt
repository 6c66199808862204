use Rattle.std.proofs.Common.{sym, ◌∙◌}
use Rattle.live_gateway.specs.Admitting.{is_heard}
use Rattle.live_gateway.proofs.ArrivalLemmas.{not_both, arrives, arrives_strange}
use Rattle.live_gateway.proofs.exchange.Exchange.come.Goals as goal

pub returns-then-not-hears-clause-noted : goal.returns-then-not-hears-clause-noted
returns-then-not-hears-clause-noted g c = arrives_strange _ _ _ _ _ (sym c.hears.ensures ∙ c.if-not-hears.true) c.turn_away.ensures.noted

pub returns-then-not-hears-clause-received : goal.returns-then-not-hears-clause-received
returns-then-not-hears-clause-received g c = λ may.
    absurd (not_both (is_heard c.args.admission.now c.args.source) may (sym c.hears.ensures ∙ c.if-not-hears.true))

pub returns-clause-noted : goal.returns-clause-noted
returns-clause-noted g c = arrives _ _ _ _ _ (sym c.hears.ensures ∙ c.if-not-hears.false) c.came.ensures.counted

pub returns-clause-received : goal.returns-clause-received
returns-clause-received g c = λ may. record {
  tally = c.came.ensures.counted;
  logged = c.came.ensures.logged;
  captured = c.came.ensures.captured;
  shown = c.came.ensures.shown;
  written = c.came.ensures.written;
}
