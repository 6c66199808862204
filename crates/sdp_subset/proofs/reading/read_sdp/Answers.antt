use Rattle.std.proofs.Common.{sym}
use Rattle.sdp_subset.proofs.SpellingLaws.{described, describes_none}
use Rattle.sdp_subset.proofs.reading.read_sdp.Goals as goal

pub returns-in-Some-clause-reads : goal.returns-in-Some-clause-reads
returns-in-Some-clause-reads c = described c.args.text.now c.in-Some.session (sym c.in-Some.ensures)

pub returns-in-None-clause-reads : goal.returns-in-None-clause-reads
returns-in-None-clause-reads c = describes_none c.args.text.now (sym c.in-None.ensures)
