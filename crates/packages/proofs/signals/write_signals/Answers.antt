use Rattle.std.proofs.Common.{ap, ◌∙◌}
use Rattle.packages.specs.Signals.{signals_text, signal_entry_text}
use Rattle.packages.proofs.WriteLemmas.{first_listed, next_listed}
use Rattle.packages.proofs.signals.write_signals.Goals as goal
use Rattle.packages.proofs.signals.write_signals.Goals.{then-place-gt0+in_ok-push, else-place-gt0}

pub loop-place-init : goal.loop-place-init
unfolding signals_text
loop-place-init c = c.new-out.ensures.items

pub loop-place-preserved : goal.loop-place-preserved
unfolding signals_text
loop-place-preserved c =
    elim c.if-place-gt0.branch [
      | then-place-gt0+in_ok-push w ↦
          next_listed signal_entry_text c.args.requests.now c.loop-place.place _ c.loop-place.out.items c.if-place-gt0.out.items _ c.loop-place-test.true w.if-place-gt0.true
          c.loop-place.invariant (ap (λ out. out.items) w.out-is ∙ w.in_ok-push.ensures.items) c.in_ok-put_entry.ensures
      | else-place-gt0 w ↦
          first_listed signal_entry_text c.args.requests.now c.loop-place.place _ c.if-place-gt0.out.items _ c.loop-place-test.true w.if-place-gt0.false
          (ap (λ out. out.items) w.out-is ∙ c.loop-place.invariant) c.in_ok-put_entry.ensures
    ]
