use Rattle.std.proofs.Common.{ap, ◌∙◌}
use Rattle.packages.specs.Observed.{observed_text}
use Rattle.packages.specs.Observed.{observed_entry_text}
use Rattle.packages.proofs.WriteLemmas.{first_listed, next_listed}
use Rattle.packages.proofs.ObservedLaws.{observed_no_blanks, observed_one_line}
use Rattle.packages.proofs.observed.write_observed.Goals as goal
use Rattle.packages.proofs.observed.write_observed.Goals.{then-place-gt0+in_ok-push, else-place-gt0}

pub loop-place-init : goal.loop-place-init
unfolding observed_text
loop-place-init c = c.new-out.ensures.items

pub loop-place-preserved : goal.loop-place-preserved
unfolding observed_text
loop-place-preserved c =
    elim c.if-place-gt0.branch [
      | then-place-gt0+in_ok-push w ↦
          next_listed observed_entry_text c.args.list.now c.loop-place.place _ c.loop-place.out.items c.if-place-gt0.out.items _ c.loop-place-test.true w.if-place-gt0.true
          c.loop-place.invariant (ap (λ out. out.items) w.out-is ∙ w.in_ok-push.ensures.items) c.in_ok-put_observed.ensures
      | else-place-gt0 w ↦
          first_listed observed_entry_text c.args.list.now c.loop-place.place _ c.if-place-gt0.out.items _ c.loop-place-test.true w.if-place-gt0.false
          (ap (λ out. out.items) w.out-is ∙ c.loop-place.invariant) c.in_ok-put_observed.ensures
    ]

pub returns-clause-no_blanks : goal.returns-clause-no_blanks
returns-clause-no_blanks c = rw (c.of.ensures, c.loop-place.invariant) (observed_no_blanks _)

pub returns-clause-one_line : goal.returns-clause-one_line
returns-clause-one_line c = rw (c.of.ensures, c.loop-place.invariant) (observed_one_line _)
