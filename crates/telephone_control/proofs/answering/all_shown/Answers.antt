use Rattle.std.proofs.Common.{◌∙◌, arith}
use Rattle.telephone_control.proofs.ShowingLemmas.{none_shown, more_shown}
use Rattle.telephone_control.proofs.answering.all_shown.Goals as goal

pub loop-before-init : goal.loop-before-init
loop-before-init c = record { shown = λ events s. c.new-text.ensures.items ∙ none_shown c.args.gateway.now.setup events; few = omega arith }

pub loop-before-preserved : goal.loop-before-preserved
loop-before-preserved c = record {
  shown = λ events s. more_shown c.args.gateway.now events c.loop-before.before _ _ _ s (c.loop-before.invariant.shown events s)
      c.in_ok-put_shown.ensures.1 c.in_ok-put_shown.ensures.2;
  few = let end = c.lines-before-end.ensures in let before = c.loop-before-test.true in omega (arith, end, before);
}
