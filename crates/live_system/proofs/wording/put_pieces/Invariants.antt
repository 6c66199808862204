use Rattle.std.proofs.Common.{◌≡◌, ◌++◌, drop}
use Rattle.std.specs.List.{flat_map}
use Rattle.live_system.specs.Wording.{piece_text}
use Rattle.live_system.proofs.wording.put_pieces.Given as goal

abbrev pub invariant-loop-piece : goal.invariant-loop-piece
invariant-loop-piece l =
    l.out.items ++ flat_map piece_text (drop l.piece-index l.pieces) ≡ l.fn.out.items ++ flat_map piece_text l.pieces
