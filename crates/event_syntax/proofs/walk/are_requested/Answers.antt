use Rattle.std.proofs.Common.{sym, ◌∙◌}
use Rattle.event_syntax.proofs.WalkLaws.{from_start, from_blank}
use Rattle.event_syntax.proofs.walk.are_requested.Goals as goal

pub returns-then-all_blank-clause-value : goal.returns-then-all_blank-clause-value
returns-then-all_blank-clause-value c = from_blank c.args.value.now (sym c.all_blank.ensures ∙ c.if-all_blank.true)

pub returns-clause-value : goal.returns-clause-value
returns-clause-value c = rw (from_start c.args.value.now (sym c.all_blank.ensures ∙ c.if-all_blank.false)) at c.walked.ensures.value
