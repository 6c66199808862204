use Rattle.retransmission.proofs.LifeLaws.{all_in_turn}
use Rattle.retransmission.proofs.pending_laws.sends_go_to_addresses_in_turn.Goals as goal

pub returns : goal.returns
returns c = all_in_turn
