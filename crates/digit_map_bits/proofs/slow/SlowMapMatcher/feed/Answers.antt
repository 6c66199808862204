use Rattle.std.proofs.Common.{List, [], ◌∷◌, ◌++◌, ap, ◌∙◌}
use Rattle.mg_bytes.specs.declared.letter.Letter.{Letter}
use Rattle.digit_map.specs.Verdict.{Matching}
use Rattle.digit_map.proofs.VerdictLaws.{verdict_from}
use Rattle.digit_map_bits.proofs.slow.SlowMapMatcher.feed.Goals as goal

pub returns-clause-verdict : goal.returns-clause-verdict
returns-clause-verdict c = λ map letters after.
    verdict_from _ _ _ _ _ c.self.invariant.0 c.verdict.ensures
    (ap (λ (m : Matching). m.map) c.self.view_is ∙ after.0)
    (c.push.ensures ∙ ap (λ (ls : List Letter). ls ++ c.args.letter ∷ []) (ap (λ (m : Matching). m.letters) c.self.view_is ∙ after.1))
