use Rattle.audits.proofs.PickLaws.{fits, too_long}
use Rattle.audits.proofs.laws.a_response_is_too_long_past_4000_bytes.Goals as goal

pub returns-clause-short : goal.returns-clause-short
returns-clause-short c = fits

pub returns-clause-long : goal.returns-clause-long
returns-clause-long c = too_long
