use Rattle.std.proofs.Common.{◌≡◌, take}
use Rattle.event_syntax.specs.Detect.{detected_text}
use Rattle.event_syntax.proofs.detect.write_detect.Given as goal

abbrev pub invariant-loop-place : goal.invariant-loop-place
invariant-loop-place l = l.out.items ≡ detected_text (take l.place l.list)
