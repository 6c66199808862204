use Rattle.command_forms.proofs.FormLemmas.{deed_has_values, deed_requests, row_is, purpose_is, deed_of_task}
use Rattle.command_forms.proofs.laws.a_deed_has_its_values.Goals as goal

pub returns : goal.returns
returns c = record { values = deed_has_values; requests = deed_requests; row = row_is; purpose = purpose_is; connections = deed_of_task }
