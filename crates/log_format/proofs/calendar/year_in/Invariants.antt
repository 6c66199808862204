use Rattle.std.proofs.Common.{◌≡◌, ◌-◌, ◌≤◌}
use Rattle.log_format.specs.Calendar.{year_in}
use Rattle.log_format.proofs.calendar.year_in.Given as goal

abbrev pub invariant-loop-year : goal.invariant-loop-year
invariant-loop-year l = record {
  falls : year_in (10000 - l.year) l.year l.left ≡ year_in 8030 1970 l.fn.day;
  left : l.left ≤ l.fn.day;
}
