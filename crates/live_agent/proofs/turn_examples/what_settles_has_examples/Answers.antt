use Rattle.live_agent.proofs.turn_examples.what_settles_has_examples.Goals as goal

pub returns-clause-begins : goal.returns-clause-begins
returns-clause-begins c = λ board now was is settles. (settles.begins, settles.shows)

pub returns-clause-sends : goal.returns-clause-sends
returns-clause-sends c = λ board now was is settles. settles.goes

pub returns-clause-gives_up : goal.returns-clause-gives_up
returns-clause-gives_up c = λ board now was is gives. gives.many

pub returns-clause-wakes : goal.returns-clause-wakes
returns-clause-wakes c = λ board now wakes. wakes.many

pub returns-clause-wakes_one : goal.returns-clause-wakes_one
returns-clause-wakes_one c = λ board now wakes. (wakes.line, wakes.lines, wakes.others)

pub returns-clause-ticks : goal.returns-clause-ticks
returns-clause-ticks c = λ board now was is ticks. ticks.ticks

pub returns-clause-ticks_then : goal.returns-clause-ticks_then
returns-clause-ticks_then c = λ board now was is ticks. (ticks.wakes, ticks.settles)
