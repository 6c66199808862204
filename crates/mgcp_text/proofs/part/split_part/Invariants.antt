use Rattle.std.proofs.Common.{◌≡◌, ◌≤◌, length, take, drop}
use Rattle.std.specs.List.{concat}
use Rattle.mgcp_text.specs.Parts.{parts_of}
use Rattle.mgcp_text.proofs.PartLemmas.{parts_from, put_in_front}
use Rattle.mgcp_text.proofs.part.split_part.Given as goal

abbrev pub invariant-loop-line : goal.invariant-loop-line
invariant-loop-line l = record {
  inside : l.taken ≤ length l.text;
  left : concat l.lines ≡ drop l.taken l.text;
  parts : put_in_front (take l.taken l.text) (parts_from l.lines) ≡ parts_of l.text;
}
