use Rattle.std.proofs.Common.{arith}
use Rattle.digit_map.specs.Words.{is_in_range}
use Rattle.event_syntax.specs.Ranges.{letters_in}
use Rattle.event_syntax.proofs.LetterLemmas.{set_of_each}
use Rattle.event_syntax.proofs.range.letters_in.Goals as goal

pub returns : goal.returns
unfolding letters_in
returns c =
    set_of_each (is_in_range c.args.range.now) c.loop-place.set c.loop-place.invariant.size
    (λ k inside. c.loop-place.invariant.before k (omega arith))
