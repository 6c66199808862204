use Rattle.std.proofs.Common.{sym, arith}
use Rattle.std.proofs.lemmas.List.{take_rest}
use Rattle.mg_bytes.proofs.WordLemmas.{split_once_at, split_once_none}
use Rattle.mg_bytes.proofs.split.split_once.Goals as goal

pub returns-in-Some : goal.returns-in-Some
returns-in-Some c =
    let found = c.in-Some.ensures in
    rw take_rest (sym (split_once_at c.args.byte c.args.text.now c.in-Some.place found.0.high (λ k lt. found.0.before k (omega arith) lt) found.1))

pub returns-in-None : goal.returns-in-None
returns-in-None c = sym (split_once_none c.args.byte c.args.text.now (λ k lt. c.in-None.ensures k (omega arith) lt))
