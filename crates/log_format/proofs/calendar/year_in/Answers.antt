use Rattle.std.proofs.Common.{◌≡◌, ℕ, ◌-◌, ◌+◌, suc, sym, ap, ◌∙◌, arith}
use Rattle.log_format.proofs.CalendarLemmas.{year_here, year_on, year_end}
use Rattle.log_format.proofs.calendar.year_in.Goals as goal

pub returns-then-left-length-clause-falls : goal.returns-then-left-length-clause-falls
returns-then-left-length-clause-falls c =
    sym (year_here (10000 - c.loop-year.year) c.loop-year.year c.loop-year.left (rw c.year_length-length.ensures at c.if-left-length.true))
    ∙ c.loop-year.invariant.falls

pub loop-year-preserved : goal.loop-year-preserved
loop-year-preserved c =
    let year : ℕ = c.loop-year.year in
    let left : ℕ = c.loop-year.left in
    let fuel : 10000 - year ≡ suc (10000 - (year + 1)) = omega (arith, c.loop-year-test.true) in
    record {
      falls = rw c.year_length-length.ensures
          (sym (year_on (10000 - (year + 1)) year left (rw c.year_length-length.ensures at c.if-left-length.false))
          ∙ (rw fuel at c.loop-year.invariant.falls));
      left = omega (arith, c.loop-year.invariant.left);
    }

pub returns-clause-falls : goal.returns-clause-falls
returns-clause-falls c =
    let year : ℕ = c.loop-year.year in
    let left : ℕ = c.loop-year.left in
    let is : year ≡ 10000 = omega (arith, c.loop-year-test.false, c.loop-year.auto.year-end) in
    ap (λ (y : ℕ). (y, left)) (sym is)
    ∙ sym (year_end (10000 - year) year left (omega (arith, is)))
    ∙ c.loop-year.invariant.falls
