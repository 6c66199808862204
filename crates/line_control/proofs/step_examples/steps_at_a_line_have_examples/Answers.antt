use Rattle.std.proofs.Common.{◌≡◌, false, List, Some, inl, inr, sym}
use Rattle.std.proofs.lemmas.Bool.{true≢false}
use Rattle.call_processing.specs.declared.told.Told.TheVariants.{OnHook}
use Rattle.call_processing.specs.Exchange.{ExchangeState}
use Rattle.line_control.specs.declared.care.Care.{Care}
use Rattle.line_control.specs.Duties.{told_care}
use Rattle.line_control.specs.Orders.{cared}
use Rattle.line_control.specs.Steps.{Hears}
use Rattle.line_control.proofs.step_examples.steps_at_a_line_have_examples.Goals as goal

-- what is told without digits is read
read_so : (cares kept : List Care) (was is : ExchangeState) → Hears (Some OnHook) false 0 was cares is kept → kept ≡ cared told_care cares 0
read_so cares kept was is (inl told) = told.1
read_so cares kept was is (inr unread) = absurd (true≢false (sym unread.0))

pub returns-clause-read : goal.returns-clause-read
returns-clause-read c = read_so
