use Rattle.live_agent.proofs.turn_examples.what_a_datagram_is_has_examples.Goals as goal

pub returns-clause-steps : goal.returns-clause-steps
returns-clause-steps c = λ source board now was is hears. hears.steps

pub returns-clause-sends : goal.returns-clause-sends
returns-clause-sends c = λ source board now was is hears. (hears.goes, hears.deals)

pub returns-clause-takes : goal.returns-clause-takes
returns-clause-takes c = λ board now was is takes. (takes.begins, takes.takes)

pub returns-clause-asks : goal.returns-clause-asks
returns-clause-asks c = λ board now was is takes. (takes.over, takes.looks)

pub returns-clause-next : goal.returns-clause-next
returns-clause-next c = λ board wire schedule next asks. (asks.comes, asks.goes)

pub returns-clause-stands : goal.returns-clause-stands
returns-clause-stands c = λ board wire at stands. (stands.ticked, stands.end, stands.read)
