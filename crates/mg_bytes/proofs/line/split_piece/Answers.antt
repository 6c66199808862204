use Rattle.std.proofs.Common.{take_all, le_refl, length, arith}
use Rattle.std.proofs.lemmas.List.{drop_all}
use Rattle.mg_bytes.proofs.PieceLemmas.{cut_at, cut_whole, cut-nil}
use Rattle.mg_bytes.proofs.line.split_piece.Goals as goal

pub returns-in-Some-clause-pieces : goal.returns-in-Some-clause-pieces
returns-in-Some-clause-pieces c =
    let found = c.in-Some.ensures in
    rw (c.split_at.ensures.front, c.split_at.ensures.back)
    (cut_at c.args.text.now c.in-Some.place found.0.high (λ k lt. found.0.before k (omega arith) lt) found.1)

pub returns-in-None-clause-pieces : goal.returns-in-None-clause-pieces
returns-in-None-clause-pieces c =
    let text = c.args.text.now in
    rw (c.split_at-in-None.ensures.front, c.split_at-in-None.ensures.back, take_all (length text) text (le_refl (length text)), drop_all (length text) text (le_refl (length text)), cut-nil)
    (cut_whole text c.requires (λ k lt. c.in-None.ensures k (omega arith) lt))
