use Rattle.log_format.proofs.DraftLemmas.{put_two}
use Rattle.log_format.proofs.messages.put_set_off.Goals as goal

pub returns : goal.returns
returns c = put_two _ _ _ _ _ c.put_byte.ensures c.write_shown.ensures
