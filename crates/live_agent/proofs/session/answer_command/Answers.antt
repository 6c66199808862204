use Rattle.std.proofs.Common.{Ok, inl, inr, refl, ◌∙◌}
use Rattle.live_agent.proofs.session.answer_command.Goals as goal

pub returns-in-Ok-issued_text : goal.returns-in-Ok-issued_text
returns-in-Ok-issued_text g c =
    inr (
      c.in-Ok.typed.items,
      c.in-Ok.ensures,
      inr (
        Ok c.in-Ok-issue_typed.issued,
        rw (c.as_slice.ensures.value) at c.in-Ok-issue_typed.ensures,
        (
          c.send_issued.new.wire,
          c.as_slice-in-Ok-issued_text.result.now,
          c.send_issued.ensures,
          inl (c.as_slice-in-Ok-issued_text.ensures.value ∙ c.in-Ok-issued_text.ensures),
          record {
            answered = c.answer_all-in-Ok-issued_text.ensures.answered;
            left = c.answer_all-in-Ok-issued_text.ensures.left;
            rest = c.answer_all-in-Ok-issued_text.ensures.rest;
          },
        ),
      ),
    )

pub returns : goal.returns
returns g c =
    inr (
      c.in-Ok.typed.items,
      c.in-Ok.ensures,
      inr (
        Ok c.in-Ok-issue_typed.issued,
        rw (c.as_slice.ensures.value) at c.in-Ok-issue_typed.ensures,
        (
          c.send_issued.new.wire,
          _,
          c.send_issued.ensures,
          inr refl,
          record {
            answered = c.answer_all-in-Err-issued_text.ensures.answered;
            left = c.answer_all-in-Err-issued_text.ensures.left;
            rest = c.answer_all-in-Err-issued_text.ensures.rest;
          },
        ),
      ),
    )
