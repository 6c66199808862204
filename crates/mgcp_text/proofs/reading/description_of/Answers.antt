use Rattle.std.proofs.Common.{sym}
use Rattle.mg_bytes.proofs.PieceLemmas.{concat-cut}
use Rattle.mgcp_text.specs.Reading.{description_of}
use Rattle.mgcp_text.proofs.reading.description_of.Goals as goal

pub returns : goal.returns
unfolding description_of
returns c = rw (← c.if-has_only_empty_lines.ensures) (sym (concat-cut c.args.text.now))
