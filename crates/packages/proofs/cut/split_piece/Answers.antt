use Rattle.std.proofs.Common.{sym, ◌∙◌, arith, add-one}
use Rattle.std.proofs.lemmas.List.{take_rest}
use Rattle.packages.proofs.CutLemmas.{put_front-nil, next_byte, cut_here, cut_end, shallow_behind}
use Rattle.packages.proofs.cut.split_piece.Goals as goal

pub loop-place-init : goal.loop-place-init
loop-place-init c = record { whole = put_front-nil c.args.cut c.args.start c.args.text.now; shallow = c.requires }

pub loop-place-preserved : goal.loop-place-preserved
loop-place-preserved c = record {
  whole = rw (add-one, c.deeper-behind.ensures.value) (sym (next_byte c.args.cut c.args.text.now c.loop-place.place c.loop-place.depth c.loop-place-test.true (sym c.if-is_cut.ensures)) ∙ c.loop-place.invariant.whole);
  shallow = omega arith;
}

pub returns-then-is_cut-clause-pieces : goal.returns-then-is_cut-clause-pieces
returns-then-is_cut-clause-pieces c =
    rw (take_rest, add-one, c.deeper-behind.ensures.value)
    (sym c.loop-place.invariant.whole ∙ cut_here c.args.cut c.args.text.now c.loop-place.place c.loop-place.depth c.loop-place-test.true (sym c.if-is_cut.ensures))

pub returns-then-is_cut-clause-shallow : goal.returns-then-is_cut-clause-shallow
returns-then-is_cut-clause-shallow c =
    rw c.deeper-behind.ensures.value (shallow_behind c.args.cut c.loop-place.depth _ (sym c.if-is_cut.ensures))

pub returns-clause-pieces : goal.returns-clause-pieces
returns-clause-pieces c = sym c.loop-place.invariant.whole ∙ cut_end c.args.cut c.args.text.now c.loop-place.place c.loop-place.depth c.loop-place-test.false
