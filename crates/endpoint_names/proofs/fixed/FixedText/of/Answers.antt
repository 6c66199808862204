use Rattle.endpoint_names.proofs.FixedLemmas.{zeros_after}
use Rattle.endpoint_names.proofs.fixed.FixedText.of.Goals as goal

pub invariant_of-result : goal.invariant_of-result
invariant_of-result g c =
    rw c.copy_from_slice.ensures.after (zeros_after g.row.N c.args.text.now c.requires.short c.requires.no_blanks c.requires.one_line)
