use Rattle.std.proofs.Common.{ℕ, Bool, Option, ◌∙◌, ap}
use Rattle.std.specs.Prelude.{not}
use Rattle.mg_bytes.specs.Lists.{is_empty}
use Rattle.live_io.specs.Typing.{left_of}
use Rattle.turns.specs.Clock.{earlier}
use Rattle.live_gateway.specs.Exchanging.{next_due}
use Rattle.live_gateway.specs.Turning.{ready_at}
use Rattle.live_laws.proofs.desk_examples.how_things_stand_has_examples.Goals as goal

pub returns-clause-asked : goal.returns-clause-asked
returns-clause-asked c = λ was at stand. stand.read_so

pub returns-clause-moment : goal.returns-clause-moment
returns-clause-moment c = λ was at stand. stand.moment

pub returns-clause-ticked : goal.returns-clause-ticked
returns-clause-ticked c = λ was at events stand stands. stand.ticked events stands

pub returns-clause-due : goal.returns-clause-due
returns-clause-due c = λ was at stand.
    stand.due ∙ ap (λ (deadline : Option ℕ). earlier (earlier stand.own (next_due was.exchange.network)) deadline) stand.closes_so

pub returns-clause-ends : goal.returns-clause-ends
returns-clause-ends c = λ was at stand. (stand.end, stand.read)

pub returns-clause-ready : goal.returns-clause-ready
returns-clause-ready c = λ was at stand.
    stand.ready
    ∙ ap (λ (visited : Bool). ready_at stand.told (not (is_empty (left_of was.lines))) (next_due was.exchange.network) at.ticked visited)
    stand.visited_so
