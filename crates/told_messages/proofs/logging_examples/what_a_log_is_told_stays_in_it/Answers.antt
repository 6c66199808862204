use Rattle.std.proofs.Common.{ap}
use Rattle.output_queues.specs.Recording.{is_told}
use Rattle.told_messages.specs.declared.log.Log.{Log}
use Rattle.told_messages.proofs.Computing.{on_examples}
use Rattle.told_messages.proofs.logging_examples.what_a_log_is_told_stays_in_it.Goals as goal

pub returns : goal.returns
unfolding on_examples
returns c = record {
  came = λ was is received on. (received.1 (ap is_told on)).0;
  arrival = λ was is received on. (received.1 (ap is_told on)).1;
  own_stays = λ was is received. ap (λ (log : Log). log.own) received.2;
  taken = λ was is turned on. turned.1 (ap is_told on);
  came_stays = λ was is turned. ap (λ (log : Log). log.came) turned.2;
  left_out = λ was is left. ap (λ (log : Log). log.arrival) left.1;
  sent = λ was is sent on. (sent.1 (ap is_told on)).1;
  kept = λ was is sent on. (sent.1 (ap is_told on)).0;
  arrival_stays = λ was is sent. ap (λ (log : Log). log.arrival) sent.2;
}
