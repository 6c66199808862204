use Rattle.std.proofs.Common.{inl, inr, refl, ap, ◌∙◌}
use Rattle.agent_log.specs.declared.journal.Journal.{Journal}
use Rattle.live_agent.specs.Ending.{counted_in}
use Rattle.live_agent.proofs.session.take_line.Goals as goal

pub returns-in-Nothing : goal.returns-in-Nothing
returns-in-Nothing g c = (
  c.hear_lines.new.self,
  (c.hear_lines.ensures.heard.0, c.hear_lines.ensures.heard.1, c.hear_lines.ensures.heard.2, c.hear_lines.ensures.rest),
  record {
    request = c.request_in-request.result;
    asks = c.request_in-request.ensures;
    does = rw (c.in-Nothing.is) (refl, refl);
  },
)

pub returns-in-Ok : goal.returns-in-Ok
returns-in-Ok g c = (
  c.hear_lines.new.self,
  (c.hear_lines.ensures.heard.0, c.hear_lines.ensures.heard.1, c.hear_lines.ensures.heard.2, c.hear_lines.ensures.rest),
  record {
    request = c.request_in-request.result;
    asks = c.request_in-request.ensures;
    does = rw (c.in-Counts.is) (
      refl,
      (
        c.as_slice.result.now,
        inl (c.as_slice.ensures.value ∙ c.in-Ok.ensures ∙ ap (λ (journal : Journal). counted_in journal) c.deref.ensures),
        (c.answer.ensures.answered, c.answer.ensures.left, c.answer.ensures.rest),
      ),
    );
  },
)

pub returns-in-Err : goal.returns-in-Err
returns-in-Err g c = (
  c.hear_lines.new.self,
  (c.hear_lines.ensures.heard.0, c.hear_lines.ensures.heard.1, c.hear_lines.ensures.heard.2, c.hear_lines.ensures.rest),
  record {
    request = c.request_in-request.result;
    asks = c.request_in-request.ensures;
    does = rw (c.in-Counts.is) (refl, (_, inr refl, (c.answer-in-Err.ensures.answered, c.answer-in-Err.ensures.left, c.answer-in-Err.ensures.rest)));
  },
)

pub returns-in-Stop : goal.returns-in-Stop
returns-in-Stop g c = (
  c.hear_lines.new.self,
  (c.hear_lines.ensures.heard.0, c.hear_lines.ensures.heard.1, c.hear_lines.ensures.heard.2, c.hear_lines.ensures.rest),
  record {
    request = c.request_in-request.result;
    asks = c.request_in-request.ensures;
    does = rw (c.in-Stop.is) (refl, (c.answer-in-Stop.new.self, (c.answer-in-Stop.ensures.answered, c.answer-in-Stop.ensures.left, c.answer-in-Stop.ensures.rest), refl));
  },
)

pub returns-in-StopFromAfar : goal.returns-in-StopFromAfar
returns-in-StopFromAfar g c = (
  c.hear_lines.new.self,
  (c.hear_lines.ensures.heard.0, c.hear_lines.ensures.heard.1, c.hear_lines.ensures.heard.2, c.hear_lines.ensures.rest),
  record {
    request = c.request_in-request.result;
    asks = c.request_in-request.ensures;
    does = rw (c.in-StopFromAfar.is) (refl, (c.answer-in-StopFromAfar.ensures.answered, c.answer-in-StopFromAfar.ensures.left, c.answer-in-StopFromAfar.ensures.rest));
  },
)

pub returns-in-Command : goal.returns-in-Command
returns-in-Command g c = (
  c.hear_lines.new.self,
  (c.hear_lines.ensures.heard.0, c.hear_lines.ensures.heard.1, c.hear_lines.ensures.heard.2, c.hear_lines.ensures.rest),
  record {
    request = c.request_in-request.result;
    asks = c.request_in-request.ensures;
    does = rw (c.in-Command.is) c.answer_command.ensures;
  },
)
