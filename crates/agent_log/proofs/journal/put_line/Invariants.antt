use Rattle.std.proofs.Common.{◌≡◌, ◌++◌, drop}
use Rattle.std.specs.List.{flat_map}
use Rattle.agent_log.specs.Telling.{piece_told}
use Rattle.agent_log.proofs.journal.put_line.Given as goal

abbrev pub invariant-loop-piece : goal.invariant-loop-piece
invariant-loop-piece l =
    l.line ++ flat_map piece_told (drop l.piece-index l.pieces) ≡ flat_map piece_told l.pieces
