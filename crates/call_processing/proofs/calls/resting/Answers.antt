use Rattle.std.proofs.Common.{◌≡◌, ℕ, List, [], ◌∷◌, ◌++◌, replicate, ap, ◌∙◌, arith}
use Rattle.std.proofs.lemmas.List.{replicate_more}
use Rattle.call_processing.specs.declared.phase.Phase.{Phase}
use Rattle.call_processing.specs.declared.phase.Phase.TheVariants.{Resting}
use Rattle.call_processing.proofs.calls.resting.Goals as goal

pub loop-preserved : goal.loop-preserved
loop-preserved c =
    c.in_ok-push.ensures.items ∙ ap (λ (phases : List Phase). phases ++ Resting ∷ []) c.loop.invariant ∙ replicate_more c.loop.counter Resting

pub returns : goal.returns
returns c =
    let all : c.loop.counter ≡ c.args.count = omega (arith, c.loop.auto.counter-end, c.loop-test.false) in
    c.loop.invariant ∙ ap (λ (count : ℕ). replicate count Resting) all
