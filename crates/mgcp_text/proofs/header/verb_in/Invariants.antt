use Rattle.std.proofs.Common.{◌≡◌, length}
use Rattle.std.specs.Prelude.{map}
use Rattle.mgcp_text.specs.Header.{verb_in}
use Rattle.mgcp_text.proofs.header.verb_in.Given as goal

abbrev pub invariant-loop-rows : goal.invariant-loop-rows
invariant-loop-rows l =
    verb_in (map (λ row. (row.0.now, row.1)) l.rows) l.word ≡ verb_in (map (λ row. (row.0.now, row.1)) l.initial.rows) l.word

abbrev pub decreases-loop-rows : goal.decreases-loop-rows
decreases-loop-rows l = length l.rows
