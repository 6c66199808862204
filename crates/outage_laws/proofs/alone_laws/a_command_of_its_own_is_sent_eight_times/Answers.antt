use Rattle.outage_laws.proofs.AnnouncesLemmas.{line_announces}
use Rattle.outage_laws.proofs.EachLine.{each_eight}
use Rattle.outage_laws.proofs.OwnSendLaws.{line_young, own_eight, own_young}
use Rattle.outage_laws.proofs.alone_laws.a_command_of_its_own_is_sent_eight_times.Goals as goal

pub returns-clause-line : goal.returns-clause-line
returns-clause-line c = λ setup events line b begun. each_eight setup events line b begun

pub returns-clause-own : goal.returns-clause-own
returns-clause-own c = λ setup events b begun. own_eight setup events b begun

pub returns-clause-line_given_up : goal.returns-clause-line_given_up
returns-clause-line_given_up c = λ setup events line endpoint flight at flies. line_young setup events line endpoint at flight flies

pub returns-clause-own_given_up : goal.returns-clause-own_given_up
returns-clause-own_given_up c = λ setup events flight flies. own_young setup events flight flies

pub returns-clause-line_announces : goal.returns-clause-line_announces
returns-clause-line_announces c = λ setup events line endpoint taken at. line_announces setup events line endpoint taken at
