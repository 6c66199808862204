use Rattle.gateway_core.proofs.TextLemmas.{refused_goes, report_goes}
use Rattle.gateway_core.proofs.commanding.commanded.Goals as goal

pub returns-in-Err-AtFault-clause-told : goal.returns-in-Err-AtFault-clause-told
returns-in-Err-AtFault-clause-told c =
    refused_goes _ _ _ c.in-Err-AtFault.refused _ _ _ _ _ c.serves.ensures (rw c.in-Err-AtFault.field-0-is at c.in-Err-AtFault.ensures.answers).0

pub returns-in_ok-answer_to_audit-in-Ok-Reports-clause-told : goal.returns-in_ok-answer_to_audit-in-Ok-Reports-clause-told
returns-in_ok-answer_to_audit-in-Ok-Reports-clause-told c =
    report_goes _ _ _ _ _ _ _ _ _ _ c.serves.ensures (rw c.in-Ok-Reports.field-0-is at c.in-Ok-Reports.ensures.answers)
