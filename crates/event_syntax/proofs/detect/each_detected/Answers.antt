use Rattle.std.proofs.lemmas.Result.{err_from_is_err_and}
use Rattle.event_syntax.specs.Detect.{detected}
use Rattle.packages.proofs.EachLemmas.{each_on, each_stops, each_done, room_on}
use Rattle.event_syntax.proofs.detect.each_detected.Goals as goal

pub loop-entry-preserved : goal.loop-entry-preserved
loop-entry-preserved c = record {
  whole = each_on detected _ _ _ _ _ _ _ c.in-Some.ensures.steps c.in_ok-detected.ensures c.push.ensures c.loop-entry.invariant.whole;
  room = room_on _ _ _ _ _ _ _ c.in-Some.ensures.steps c.push.ensures c.loop-entry.invariant.room;
}

pub returns-in_err-detected : goal.returns-in_err-detected
returns-in_err-detected c =
    let p = err_from_is_err_and c.from_residual.result c.from_residual.ensures.1 in
    rw (p.1, p.2) (each_stops detected _ _ _ _ _ _ c.in-Some.ensures.steps c.in_err-detected.ensures c.loop-entry.invariant.whole)

pub returns : goal.returns
returns c = each_done detected _ _ _ c.in-None.ensures.steps.0 c.loop-entry.invariant.whole
