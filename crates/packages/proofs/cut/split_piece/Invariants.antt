use Rattle.std.proofs.Common.{◌≡◌, ◌≤◌, ◌+◌, take, drop}
use Rattle.packages.specs.Cuts.{pieces}
use Rattle.packages.proofs.CutLemmas.{put_front}
use Rattle.packages.proofs.cut.split_piece.Given as goal

abbrev pub invariant-loop-place : goal.invariant-loop-place
invariant-loop-place l = record {
  whole : put_front (take l.place l.text) (pieces l.cut l.depth (drop l.place l.text)) ≡ pieces l.cut l.start l.text;
  shallow : l.depth ≤ l.place + 1;
}
