use Rattle.machine_laws.proofs.AnnouncementLaws.{own_falls_due, waits_due, waits_sent, waits_anew}
use Rattle.machine_laws.proofs.announcement_laws.an_announcement_goes_on_until_it_is_answered.Goals as goal

pub returns-clause-due : goal.returns-clause-due
returns-clause-due c = own_falls_due

pub returns-clause-waits : goal.returns-clause-waits
returns-clause-waits c = waits_due

pub returns-clause-sent : goal.returns-clause-sent
returns-clause-sent c = waits_sent

pub returns-clause-given_up : goal.returns-clause-given_up
returns-clause-given_up c = waits_anew
