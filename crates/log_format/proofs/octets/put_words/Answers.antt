use Rattle.std.proofs.Common.{ℕ, ◌+◌, List, ◌++◌, drop, sym, ap, ◌∙◌, append_assoc}
use Rattle.std.specs.Net.Addr.{octets_of}
use Rattle.std.proofs.lemmas.List.{at_drop_more}
use Rattle.log_format.proofs.octets.put_words.Goals as goal

pub loop-word-preserved : goal.loop-word-preserved
loop-word-preserved c =
    ap (λ (text : List ℕ). text ++ octets_of (drop (c.loop-word.word-index + 1) c.args.words.now)) c.put.ensures
    ∙ append_assoc c.loop-word.out _ (octets_of (drop (c.loop-word.word-index + 1) c.args.words.now))
    ∙ ap (λ (left : List ℕ). c.loop-word.out ++ left)
    (sym (at_drop_more octets_of c.args.words.now c.loop-word.word-index 0 c.loop-word-test.true))
    ∙ c.loop-word.invariant
