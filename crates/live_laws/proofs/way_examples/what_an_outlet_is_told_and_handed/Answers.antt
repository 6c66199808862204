use Rattle.std.proofs.Common.{List, [], ◌∷◌, Option, Some, subst}
use Rattle.live_io.specs.Sending.{Sent, Grows}
use Rattle.transmission.specs.declared.output.OutDatagram.{OutDatagram}
use Rattle.live_play.specs.Example.{loses_the_second, keeps}
use Rattle.live_play.specs.Running.{sent_of, HandsEach}
use Rattle.live_laws.proofs.WayExampleLemmas.{none_said, lost_behind, kept_of}
use Rattle.live_laws.proofs.way_examples.what_an_outlet_is_told_and_handed.Goals as goal

pub returns-clause-noted : goal.returns-clause-noted
returns-clause-noted c = λ was is a messages by. none_said a messages by.said by.marks 0 0 by.each by.noted

pub returns-clause-same : goal.returns-clause-same
returns-clause-same c = λ was is a messages by. by.out.gateway

pub returns-clause-handed : goal.returns-clause-handed
returns-clause-handed c = λ was is a messages are none some by.
    subst (λ (o : Option (List Sent)). Grows (Some []) (sent_of a ∷ []) o) some
    (subst (λ (o : Option (List Sent)). Grows o (sent_of a ∷ []) is.handed) none by.out.handed)

pub returns-clause-before : goal.returns-clause-before
returns-clause-before c = λ was is a from.
    lost_behind a is.gateway.account.sent from.by.said from.by.marks from.turned 2 from.told from.by.each from.by.noted

pub returns-clause-teller : goal.returns-clause-teller
returns-clause-teller c = λ teller was is from. from.told

pub returns-clause-messages : goal.returns-clause-messages
returns-clause-messages c = λ was is a one kept first has from.
    kept_of a one is.gateway.account.sent from.by.said from.turned kept from.told has first from.by.each

pub returns-clause-taken_before : goal.returns-clause-taken_before
returns-clause-taken_before c = λ was is a input event by alone.
    lost_behind a is.gateway.account.sent by.said by.takes.marks by.turned 2 by.told
    (subst (λ (l : List OutDatagram). HandsEach loses_the_second l is.gateway.account.sent by.turned by.said 2) alone by.each) by.noted

pub returns-clause-taken_teller : goal.returns-clause-taken_teller
returns-clause-taken_teller c = λ teller was is input event by. by.told

pub returns-clause-taken_messages : goal.returns-clause-taken_messages
returns-clause-taken_messages c = λ was is a one kept input event by alone first has.
    kept_of a one is.gateway.account.sent by.said by.turned kept by.told has first
    (subst (λ (l : List OutDatagram). HandsEach keeps l is.gateway.account.sent by.turned by.said kept) alone by.each)
