use Rattle.std.proofs.Common.{List, [], ◌∷◌, ◌++◌, replicate, ap, ◌∙◌, arith}
use Rattle.std.proofs.lemmas.List.{replicate_more}
use Rattle.packages.specs.declared.observed.Observed.{Observed}
use Rattle.call_agent.specs.Growing.{Grown, grown_to}
use Rattle.call_agent.proofs.TellingLemmas.{nothing_told}
use Rattle.call_agent.proofs.told.TakenEvents.nothing.Goals as goal

pub loop-preserved : goal.loop-preserved
loop-preserved c =
    c.in_ok-push.ensures.items
    ∙ ap (λ (lines : List (Grown Observed)). lines ++ c.new.result ∷ []) c.loop.invariant
    ∙ ap (λ (line : Grown Observed). replicate c.loop.counter (grown_to []) ++ line ∷ []) c.new.ensures
    ∙ replicate_more c.loop.counter (grown_to [])

pub returns : goal.returns
returns c = nothing_told c.args.count c.loop.counter c.loop.lines.items c.loop.invariant (let most = c.loop.auto.counter-end in let done = c.loop-test.false in omega (arith, most, done))
