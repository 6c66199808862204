use Rattle.std.proofs.Common.{◌≡◌, take, drop}
use Rattle.digit_map.specs.Cuts.{pieces}
use Rattle.digit_map.proofs.CutLemmas.{put_front}
use Rattle.digit_map.proofs.cut.next_begin.Given as goal

abbrev pub invariant-loop-place : goal.invariant-loop-place
invariant-loop-place l =
    put_front (take l.place l.behind) (pieces l.inside (drop l.place l.behind)) ≡ pieces l.start l.behind
