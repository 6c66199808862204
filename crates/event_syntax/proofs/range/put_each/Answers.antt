use Rattle.std.proofs.Common.{ap, ◌∙◌, ◌++◌, ◌∷◌, [], rules}
use Rattle.event_syntax.proofs.LetterLemmas.{letter_put, letter_left}
use Rattle.event_syntax.proofs.range.put_each.Goals as goal
use Rattle.event_syntax.proofs.range.put_each.Goals.{then-set-place+in_ok-push, else-set-place}

pub loop-place-preserved : goal.loop-place-preserved
loop-place-preserved c =
    elim c.if-set-place.branch [
      | then-set-place+in_ok-push w ↦
          letter_put c.args.set _ _ _ _ (search rules) c.loop-place-test.true w.if-set-place.true c.loop-place.invariant
          (ap (λ out. out.items) w.out-is ∙ w.in_ok-push.ensures.items ∙ ap (λ b. c.loop-place.out.items ++ b ∷ []) w.byte.ensures.value)
      | else-set-place w ↦
          letter_left c.args.set _ _ _ _ (search rules) c.loop-place-test.true w.if-set-place.false c.loop-place.invariant (ap (λ out. out.items) w.out-is)
    ]
