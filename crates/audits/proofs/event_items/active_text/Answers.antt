use Rattle.std.proofs.Common.{ap, ◌∙◌, ◌++◌}
use Rattle.packages.proofs.WriteLemmas.{first_listed, next_listed}
use Rattle.audits.specs.EndpointReport.{active_name, active_text}
use Rattle.audits.proofs.ValueLemmas.{active_no_blanks, active_one_line}
use Rattle.audits.proofs.event_items.active_text.Goals as goal
use Rattle.audits.proofs.event_items.active_text.Goals.{then-place-gt0+in_ok-push, else-place-gt0}

pub loop-place-init : goal.loop-place-init
unfolding active_text
loop-place-init c = c.new-out.ensures.items

pub loop-place-preserved : goal.loop-place-preserved
unfolding active_text
loop-place-preserved c =
    elim c.if-place-gt0.branch [
      | then-place-gt0+in_ok-push w ↦
          next_listed active_name c.args.signals.now c.loop-place.place _ c.loop-place.out.items c.if-place-gt0.out.items _ c.loop-place-test.true w.if-place-gt0.true
          c.loop-place.invariant (ap (λ out. out.items) w.out-is ∙ w.in_ok-push.ensures.items)
          (c.in_ok-extend_from_slice.ensures.items ∙ ap (λ name. c.if-place-gt0.out.items ++ name) c.signal_name.ensures)
      | else-place-gt0 w ↦
          first_listed active_name c.args.signals.now c.loop-place.place _ c.if-place-gt0.out.items _ c.loop-place-test.true w.if-place-gt0.false
          (ap (λ out. out.items) w.out-is ∙ c.loop-place.invariant)
          (c.in_ok-extend_from_slice.ensures.items ∙ ap (λ name. c.if-place-gt0.out.items ++ name) c.signal_name.ensures)
    ]

pub returns-clause-no_blanks : goal.returns-clause-no_blanks
returns-clause-no_blanks c = rw (c.of.ensures, c.loop-place.invariant) (active_no_blanks _)

pub returns-clause-one_line : goal.returns-clause-one_line
returns-clause-one_line c = rw (c.of.ensures, c.loop-place.invariant) (active_one_line _)
