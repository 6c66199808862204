use Rattle.std.proofs.Common.{sym, ◌∙◌, add-one}
use Rattle.digit_map.proofs.CutLemmas.{put_front-nil, next_byte, begin_here, begin_last}
use Rattle.digit_map.proofs.cut.next_begin.Goals as goal

pub loop-place-init : goal.loop-place-init
loop-place-init c = put_front-nil c.args.start c.args.behind.now

pub loop-place-preserved : goal.loop-place-preserved
loop-place-preserved c =
    rw (add-one, c.is_inside-inside.ensures)
    (sym (next_byte c.args.behind.now c.loop-place.place c.loop-place.inside c.loop-place-test.true (sym c.if-begins.ensures)) ∙ c.loop-place.invariant)

pub returns-then-begins-clause-value : goal.returns-then-begins-clause-value
returns-then-begins-clause-value c =
    sym c.loop-place.invariant ∙ begin_here c.args.behind.now c.loop-place.place c.loop-place.inside c.loop-place-test.true (sym c.if-begins.ensures)

pub returns-clause-value : goal.returns-clause-value
returns-clause-value c = sym c.loop-place.invariant ∙ begin_last c.args.behind.now c.loop-place.place c.loop-place.inside c.loop-place-test.false
