use Rattle.std.proofs.Common.{inl, inr, ap, ◌∙◌}
use Rattle.agent_log.specs.declared.journal.Journal.{Journal}
use Rattle.impairment.specs.declared.fate.Fate.{Fate}
use Rattle.live_agent.specs.Tallying.{with_fate}
use Rattle.live_agent.proofs.wire.offer_to.Goals as goal

pub returns-in_default-clause-offers : goal.returns-in_default-clause-offers
returns-in_default-clause-offers c = record {
  takes = inl (
    c.in-Ok.ensures.ok,
    c.count_fate.ensures ∙ ap (λ (fate : Fate). with_fate fate c.args.journal.now.tally) c.in-Ok.ensures.fate,
  );
  spoiling = c.in-Ok.ensures.spoiling;
  draws = c.in-Ok.ensures.generators;
}

pub returns-clause-offers : goal.returns-clause-offers
returns-clause-offers c = record {
  takes = inl (
    c.in-Ok.ensures.ok,
    ap (λ (journal : Journal). journal.tally) c.note.ensures.rest
        ∙ c.count_fate.ensures
        ∙ ap (λ (fate : Fate). with_fate fate c.args.journal.now.tally) c.in-Ok.ensures.fate,
  );
  spoiling = c.in-Ok.ensures.spoiling;
  draws = c.in-Ok.ensures.generators;
}

pub returns-in-Err-clause-offers : goal.returns-in-Err-clause-offers
returns-in-Err-clause-offers c = record {
  takes = inr (c.in-Err.ensures.err, ap (λ refused. record c.args.journal.now.tally { refused = refused }) c.count.ensures);
  spoiling = c.in-Err.ensures.spoiling;
  draws = c.in-Err.ensures.generators;
}
