use Rattle.std.proofs.Common.{sym}
use Rattle.event_syntax.specs.Embedding.{embedded_event}
use Rattle.packages.proofs.EachLemmas.{each_on, each_stops, each_done}
use Rattle.event_syntax.proofs.embedded.each_event.Goals as goal

pub loop-entry-preserved : goal.loop-entry-preserved
loop-entry-preserved c =
    each_on embedded_event _ _ _ _ _ _ _ c.in-Some.ensures.steps c.in-Ok.ensures c.in_ok-push-in-Ok.ensures.ok c.loop-entry.invariant

pub returns-in-Err : goal.returns-in-Err
returns-in-Err c = sym (each_stops embedded_event _ _ _ _ _ _ c.in-Some.ensures.steps c.in-Err.ensures c.loop-entry.invariant)

pub returns : goal.returns
returns c = sym (each_done embedded_event _ _ _ c.in-None.ensures.steps.0 c.loop-entry.invariant)
