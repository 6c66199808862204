use Rattle.std.proofs.Common.{◌≡◌, take}
use Rattle.live_gateway.specs.Naming.{word_of, no_word, with_all}
use Rattle.live_gateway.proofs.naming.known_word.Given as goal

abbrev pub invariant-loop-host : goal.invariant-loop-host
invariant-loop-host l = word_of l.word.items l.speakers ≡ with_all no_word (take l.host-index l.host-items)
