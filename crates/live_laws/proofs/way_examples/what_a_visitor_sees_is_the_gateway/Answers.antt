use Rattle.std.proofs.Common.{ℕ, ◌-◌, ◌∙◌, ap}
use Rattle.std.specs.Prelude.{Result}
use Rattle.live_io.specs.declared.surroundings.Fault.{Fault}
use Rattle.turns.specs.Schedule.{opening}
use Rattle.live_gateway.specs.declared.desk.Desk.{Desk}
use Rattle.live_gateway.specs.declared.exchange.Exchange.{Exchange}
use Rattle.live_gateway.specs.Exchanging.{moment_at}
use Rattle.live_laws.proofs.WayExampleLemmas.{nobody_shown, gateway_shown}
use Rattle.live_laws.proofs.way_examples.what_a_visitor_sees_is_the_gateway.Goals as goal

pub returns-clause-lag : goal.returns-clause-lag
returns-clause-lag c = λ visitors left was is events visit stands three. visit.behind events stands ∙ ap (λ (n : ℕ). 5 - n) three

pub returns-clause-nobody : goal.returns-clause-nobody
returns-clause-nobody c = λ visitors left was is visit none.
    nobody_shown was.play.gateway.value was.exchange.faults visit.lag was.exchange.journal visit.shown none visit.shows

pub returns-clause-shown : goal.returns-clause-shown
returns-clause-shown c = λ visitors left was is board shown visit some there.
    gateway_shown was.play.gateway.value was.exchange.faults visit.lag was.exchange.journal visit.shown board shown some there visit.shows

pub returns-clause-begun : goal.returns-clause-begun
returns-clause-begun c = λ fault was is events starts stands seven.
    ap (λ (d : Desk ℕ ℕ). d.schedule) starts.rest
    ∙ ap (λ (r : Result ℕ Fault). opening (moment_at r starts.ticked)) starts.read_so
    ∙ ap opening (starts.ticked_so events stands ∙ seven)

pub returns-clause-nothing : goal.returns-clause-nothing
returns-clause-nothing c = λ was is visit. ap (λ (e : Exchange ℕ). e.around) visit.page.shown ∙ visit.turn.1
