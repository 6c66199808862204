use Rattle.std.proofs.Common.{◌≡◌, ℕ, List, [], ◌∷◌, ◌++◌, replicate, ap, ◌∙◌, arith}
use Rattle.std.proofs.lemmas.List.{replicate_more}
use Rattle.call_processing.specs.declared.line.Line.{Line}
use Rattle.call_processing.specs.Line.{new_line}
use Rattle.call_processing.proofs.exchange.new_lines.Goals as goal

pub loop-preserved : goal.loop-preserved
loop-preserved c =
    c.in_ok-push.ensures.items ∙ ap (λ (lines : List Line). lines ++ c.new.result ∷ []) c.loop.invariant
    ∙ ap (λ (line : Line). replicate c.loop.counter new_line ++ line ∷ []) c.new.ensures ∙ replicate_more c.loop.counter new_line

pub returns : goal.returns
returns c =
    let all : c.loop.counter ≡ c.args.count = omega (arith, c.loop.auto.counter-end, c.loop-test.false) in
    c.loop.invariant ∙ ap (λ (count : ℕ). replicate count new_line) all
