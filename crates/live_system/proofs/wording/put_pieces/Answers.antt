use Rattle.live_system.specs.Wording.{piece_text}
use Rattle.live_system.proofs.PuttingLemmas.{put_one, put_each}
use Rattle.live_system.proofs.wording.put_pieces.Goals as goal

pub loop-piece-preserved : goal.loop-piece-preserved
loop-piece-preserved c =
    put_one piece_text c.args.pieces.now c.loop-piece.piece-index _ _ _ _ c.loop-piece-test.true
    (rw (c.as_bytes.ensures.value) at c.in_ok-extend_from_slice.ensures.items) c.loop-piece.invariant

pub returns : goal.returns
returns c = put_each piece_text c.args.pieces.now c.loop-piece.piece-index _ _ c.loop-piece-test.false c.loop-piece.invariant
