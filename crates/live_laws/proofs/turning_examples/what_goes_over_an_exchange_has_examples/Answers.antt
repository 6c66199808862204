use Rattle.std.proofs.Common.{ℕ, ◌∙◌, refl, ap}
use Rattle.message_counts.specs.Counting.{counts_in, with_texts}
use Rattle.message_counts.specs.declared.reporting.Faults.{Faults}
use Rattle.live_gateway.specs.declared.exchange.Exchange.{Exchange}
use Rattle.live_journal.specs.declared.capture.Capture.{Capture}
use Rattle.live_laws.specs.TurnExample.{one}
use Rattle.live_laws.proofs.TurnExampleLemmas.{nothing_is_sent, page_has_label, puts_off, fate_off}
use Rattle.live_laws.proofs.turning_examples.what_goes_over_an_exchange_has_examples.Goals as goal

pub returns-clause-count : goal.returns-clause-count
returns-clause-count c = refl

pub returns-clause-sent : goal.returns-clause-sent
returns-clause-sent c = λ was is only. (only.send, only.read, only.receive)

pub returns-clause-told : goal.returns-clause-told
returns-clause-told c = λ gateway was is told. ap (λ (exchange : Exchange ℕ). exchange.faults) told.rest

pub returns-clause-recorded : goal.returns-clause-recorded
returns-clause-recorded c = λ gateway was is told. (told.records.1, told.records.0)

pub returns-clause-unwritten : goal.returns-clause-unwritten
returns-clause-unwritten c = λ mark was is hands. hands.written

pub returns-clause-captured : goal.returns-clause-captured
returns-clause-captured c = λ mark was is hands. ap (λ (capture : Capture). capture.here) hands.captured.1

pub returns-clause-unlogged : goal.returns-clause-unlogged
returns-clause-unlogged c = λ mark was is hands off.
    let so = puts_off was.journal.log.value.record.state was.journal.log.value.record.out.items _ hands.became.3.record.state
    hands.became.3.record.out.items off hands.became.4.0 in
    fate_off was.now.time one.0 hands.became.0 hands.became.3 is.journal.log.value so.0 hands.became.5 ∙ so.1

pub returns-clause-unfailed : goal.returns-clause-unfailed
returns-clause-unfailed c = λ said was is only. only.written

pub returns-clause-quiet : goal.returns-clause-quiet
returns-clause-quiet c = λ gateway was is none told.
    told.texts ∙ ap (λ outcomes. with_texts (counts_in was.journal.tally.value.texts) outcomes) none

pub returns-clause-gone : goal.returns-clause-gone
returns-clause-gone c = λ was is hands. hands.faults

pub returns-clause-lost : goal.returns-clause-lost
returns-clause-lost c = λ was is hands. hands.faults

pub returns-clause-unsent : goal.returns-clause-unsent
returns-clause-unsent c = λ was is hands. ap (λ (faults : Faults). faults.send) hands.faults

pub returns-clause-handed : goal.returns-clause-handed
returns-clause-handed c = λ mark was is hands. (hands.counted, hands.rest.0, hands.rest.1.0)

pub returns-clause-marked : goal.returns-clause-marked
returns-clause-marked c = nothing_is_sent

pub returns-clause-labelled : goal.returns-clause-labelled
returns-clause-labelled c = page_has_label

pub returns-clause-ticked : goal.returns-clause-ticked
returns-clause-ticked c = λ was is only. only.1
