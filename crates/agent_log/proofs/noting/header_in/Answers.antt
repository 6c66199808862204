use Rattle.std.proofs.Common.{sym, ◌∙◌}
use Rattle.agent_log.proofs.NotingLemmas.{header_found}
use Rattle.agent_log.proofs.noting.header_in.Goals as goal

pub returns-then-not-is_empty : goal.returns-then-not-is_empty
returns-then-not-is_empty c =
    let line = c.in-Some.ensures.steps in
    c.before-then-not-is_empty.ensures
    ∙ header_found c.args.text.now c.loop-line.here.now c.in-Some.line.now line.0 c.rest-behind.result.now _ _ c.loop-line.invariant.same
    c.loop-line.invariant.here line.1 line.2 (sym c.if-not-is_empty.ensures) c.rest-behind.ensures.whole
