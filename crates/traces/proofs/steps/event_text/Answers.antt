use Rattle.std.proofs.lemmas.Result.{IfOk-weaker}
use Rattle.plain_machine.specs.Event.{event_of}
use Rattle.traces.proofs.ShowLemmas.{showed}
use Rattle.traces.proofs.steps.event_text.Goals as goal

pub returns : goal.returns
returns c =
    IfOk-weaker c.given_text.result _ _
    (λ text is. showed c.args.gateway.now c.step-given.new.self (event_of c.args.event) c.step-given.result text.items c.step-given.ensures.ok c.step-given.ensures.err c.step-given.ensures.ends is)
    c.given_text.ensures
