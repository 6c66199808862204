use Rattle.agent_log.specs.Telling.{piece_told}
use Rattle.agent_log.proofs.PuttingLemmas.{put_one}
use Rattle.agent_log.proofs.journal.put_line.Goals as goal

pub loop-piece-preserved : goal.loop-piece-preserved
loop-piece-preserved c =
    put_one piece_told c.args.pieces.now c.loop-piece.piece-index _ _ _ _ c.loop-piece-test.true c.put_plain.ensures c.loop-piece.invariant
