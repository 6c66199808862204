use Rattle.std.proofs.Common.{sym, ap, ◌∙◌, arith}
use Rattle.log_format.specs.Calendar.{is_leap, month_lengths}
use Rattle.log_format.proofs.CalendarLemmas.{falls_here, falls_on, falls_last}
use Rattle.log_format.proofs.calendar.month_in.Goals as goal

pub returns-then-left-length-clause-falls : goal.returns-then-left-length-clause-falls
returns-then-left-length-clause-falls c =
    sym (falls_here c.month_lengths-lengths.result (month_lengths (is_leap c.args.year)) c.loop-length.length-index c.loop-length.month c.loop-length.left
    (c.month_lengths-lengths.ensures ∙ ap month_lengths c.is_leap.ensures) c.loop-length-test.true c.if-left-length.true)
    ∙ c.loop-length.invariant.falls

pub loop-length-preserved : goal.loop-length-preserved
loop-length-preserved c = record {
  falls =
      falls_on c.month_lengths-lengths.result (month_lengths (is_leap c.args.year)) c.loop-length.length-index c.loop-length.month c.loop-length.left
      (c.month_lengths-lengths.ensures ∙ ap month_lengths c.is_leap.ensures) c.loop-length-test.true c.if-left-length.false
      ∙ c.loop-length.invariant.falls;
  place = omega (arith, c.loop-length.invariant.place);
  left = omega (arith, c.loop-length.invariant.left);
}

pub returns-clause-falls : goal.returns-clause-falls
returns-clause-falls c =
    sym (falls_last (month_lengths (is_leap c.args.year)) c.loop-length.length-index c.loop-length.month c.loop-length.left c.loop-length-test.false)
    ∙ c.loop-length.invariant.falls
