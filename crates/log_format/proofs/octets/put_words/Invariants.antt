use Rattle.std.proofs.Common.{◌≡◌, ◌++◌, drop}
use Rattle.std.specs.Net.Addr.{octets_of}
use Rattle.log_format.proofs.octets.put_words.Given as goal

abbrev pub invariant-loop-word : goal.invariant-loop-word
invariant-loop-word l = l.out ++ octets_of (drop l.word-index l.words) ≡ l.fn.out ++ octets_of l.words
