use Rattle.machine_laws.proofs.AnnouncementLaws.{nothing_done, name_refused, deed_refused, audit_served, all_served}
use Rattle.command_forms.proofs.RestartLemmas.{never_restarting}
use Rattle.machine_laws.proofs.announcement_laws.until_it_serves_a_gateway_only_reports.Goals as goal

pub returns-clause-nothing : goal.returns-clause-nothing
returns-clause-nothing c = nothing_done

pub returns-clause-named : goal.returns-clause-named
returns-clause-named c = name_refused

pub returns-clause-refused : goal.returns-clause-refused
returns-clause-refused c = deed_refused

pub returns-clause-audits : goal.returns-clause-audits
returns-clause-audits c = audit_served

pub returns-clause-served : goal.returns-clause-served
returns-clause-served c = all_served

pub returns-clause-none : goal.returns-clause-none
returns-clause-none c = λ setup command confirms. never_restarting command confirms setup.names
