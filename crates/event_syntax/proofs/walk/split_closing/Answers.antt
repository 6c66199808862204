use Rattle.std.proofs.Common.{sym, ◌∙◌, arith}
use Rattle.event_syntax.specs.Walking.{closing}
use Rattle.event_syntax.proofs.LoopLemmas.{next_place, closed_place, no_place}
use Rattle.event_syntax.proofs.walk.split_closing.Goals as goal

pub returns-then-closes : goal.returns-then-closes
returns-then-closes c =
    closed_place c.args.text.now c.loop-place.place c.loop-place.depth _ c.loop-place-test.true (sym c.closes.ensures ∙ c.if-closes.true) c.loop-place.invariant.found

pub loop-place-preserved : goal.loop-place-preserved
loop-place-preserved c = record {
  found =
      let more = next_place c.args.text.now c.loop-place.place c.loop-place.depth (closing 0 c.args.text.now) c.loop-place-test.true
      (sym c.closes.ensures ∙ c.if-closes.false) c.loop-place.invariant.found in
      rw (c.deeper-depth.ensures.value) more;
  shallow = omega arith;
}

pub returns : goal.returns
returns c = no_place c.args.text.now c.loop-place.place c.loop-place.depth _ c.loop-place-test.false c.loop-place.invariant.found
