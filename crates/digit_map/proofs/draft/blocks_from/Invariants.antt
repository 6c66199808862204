use Rattle.std.proofs.Common.{◌≡◌, ◌≤◌, ◌++◌, ◌*◌, ◌-◌, length}
use Rattle.digit_map.specs.Drafts.{blocks_from}
use Rattle.digit_map.proofs.draft.blocks_from.Given as goal

abbrev pub invariant-loop-done : goal.invariant-loop-done
invariant-loop-done l = record {
  some : 32 * (l.count - l.done) ≤ length l.rest;
  made : l.blocks.items ++ blocks_from (l.count - l.done) l.rest ≡ blocks_from l.count l.drafts;
}
