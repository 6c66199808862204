use Rattle.std.proofs.Common.{sym, ◌∙◌}
use Rattle.event_syntax.proofs.RequestReading.{read_answers, read_is_writable}
use Rattle.event_syntax.proofs.requested.read_events.Goals as goal

pub returns-clause-writable : goal.returns-clause-writable
returns-clause-writable c =
    read_is_writable c.args.value.now c.requested_in.result (sym c.in_ok-spelled.ensures.value ∙ c.if-not-spelled.false) c.requested_in.ensures.value

pub returns-clause-answers : goal.returns-clause-answers
returns-clause-answers c =
    read_answers c.args.value.now c.requested_in.result (sym c.in_ok-spelled.ensures.value ∙ c.if-not-spelled.false) c.requested_in.ensures.value
