use Rattle.std.proofs.Common.{ap}
use Rattle.agent_log.specs.declared.journal.Journal.{Journal}
use Rattle.live_agent.proofs.desk_examples.what_is_recorded_has_examples.Goals as goal

pub returns-clause-counts : goal.returns-clause-counts
returns-clause-counts c = λ was is so. (
  ap (λ (journal : Journal). journal.told) so,
  ap (λ (journal : Journal). journal.log) so,
  ap (λ (journal : Journal). journal.capture) so,
  ap (λ (journal : Journal). journal.written) so,
)

pub returns-clause-notes : goal.returns-clause-notes
returns-clause-notes c = λ was is so. (
  ap (λ (journal : Journal). journal.told) so,
  ap (λ (journal : Journal). journal.capture) so,
  ap (λ (journal : Journal). journal.written) so,
)

pub returns-clause-records : goal.returns-clause-records
returns-clause-records c = λ was is so. (
  ap (λ (journal : Journal). journal.told) so,
  ap (λ (journal : Journal). journal.here) so,
  ap (λ (journal : Journal). journal.written) so,
)

pub returns-clause-tells : goal.returns-clause-tells
returns-clause-tells c = λ was is so. (
  ap (λ (journal : Journal). journal.log) so,
  ap (λ (journal : Journal). journal.capture) so,
  ap (λ (journal : Journal). journal.written) so,
)

pub returns-clause-tells_and_notes : goal.returns-clause-tells_and_notes
returns-clause-tells_and_notes c = λ was is so. (
  ap (λ (journal : Journal). journal.capture) so,
  ap (λ (journal : Journal). journal.written) so,
)

pub returns-clause-came : goal.returns-clause-came
returns-clause-came c = λ source board now was is hears. ap (λ (journal : Journal). journal.told) hears.records

pub returns-clause-sent : goal.returns-clause-sent
returns-clause-sent c = λ to was is sends. ap (λ (journal : Journal). journal.told) sends.records

pub returns-clause-command : goal.returns-clause-command
returns-clause-command c = λ datagram was is sends. ap (λ (journal : Journal). journal.log) sends.alone

pub returns-clause-given_up : goal.returns-clause-given_up
returns-clause-given_up c = λ board now was is gives. ap (λ (journal : Journal). journal.capture) gives.tells
