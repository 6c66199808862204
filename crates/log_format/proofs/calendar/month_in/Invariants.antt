use Rattle.std.proofs.Common.{◌≡◌, ◌+◌, ◌≤◌, drop}
use Rattle.log_format.specs.Calendar.{is_leap, month_lengths, month_in}
use Rattle.log_format.proofs.calendar.month_in.Given as goal

abbrev pub invariant-loop-length : goal.invariant-loop-length
invariant-loop-length l = record {
  falls : month_in (drop l.length-index (month_lengths (is_leap l.year))) l.month l.left ≡ month_in (month_lengths (is_leap l.year)) 1 l.fn.day;
  place : l.month ≡ l.length-index + 1;
  left : l.left ≤ l.fn.day;
}
