use Rattle.log_format.proofs.PacketLaws.{whole, within}
use Rattle.log_format.proofs.capture_laws.what_is_captured_is_whole.Goals as goal

pub returns-clause-whole : goal.returns-clause-whole
returns-clause-whole c = whole

pub returns-clause-within : goal.returns-clause-within
returns-clause-within c = within
