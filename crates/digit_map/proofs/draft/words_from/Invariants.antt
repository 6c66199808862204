use Rattle.std.proofs.Common.{◌≡◌, ◌≤◌, ◌++◌, ◌*◌, ◌-◌, length}
use Rattle.digit_map.specs.Drafts.{words_from}
use Rattle.digit_map.proofs.draft.words_from.Given as goal

abbrev pub invariant-loop-done : goal.invariant-loop-done
invariant-loop-done l = record {
  some : 32 * (l.count - l.done) ≤ length l.rest;
  words : l.words.items ++ words_from (l.count - l.done) l.rest ≡ words_from l.count l.drafts;
}
