use Rattle.sdp_subset.proofs.WholeLemmas.{whole_written, first_written, dotless_written}
use Rattle.sdp_subset.proofs.laws.what_is_written_is_whole_lines.Goals as goal

pub returns-clause-whole : goal.returns-clause-whole
returns-clause-whole c = whole_written

pub returns-clause-first : goal.returns-clause-first
returns-clause-first c = first_written

pub returns-clause-no_dots : goal.returns-clause-no_dots
returns-clause-no_dots c = dotless_written
