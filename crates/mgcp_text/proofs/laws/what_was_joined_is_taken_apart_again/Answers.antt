use Rattle.mgcp_text.proofs.PackingLaws.{parts-packed}
use Rattle.mgcp_text.proofs.laws.what_was_joined_is_taken_apart_again.Goals as goal

pub returns : goal.returns
returns c = parts-packed
