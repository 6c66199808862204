use Rattle.std.proofs.Common.{◌<◌, ◌++◌, length, drop, ◌∙◌, arith, not, ap}
use Rattle.std.proofs.lemmas.Grind.{common_steps}
use Rattle.std.proofs.lemmas.List.{length-take}
use Rattle.rgw_scripts.proofs.WholeInput.{full, ended, more, kept}
use Rattle.rgw_scripts.proofs.input.read_limited.Goals as goal
use Rattle.rgw_scripts.proofs.input.read_limited.Goals.{in-Ok+else-is_err, in-Err}

pub returns-then-room-eq0-clause-ok : goal.returns-then-room-eq0-clause-ok
returns-then-room-eq0-clause-ok g c = full _ _ _ 1048577 c.loop.invariant.consumed (omega (arith, c.if-room-eq0.true, c.min-room.ensures, c.len.ensures, c.loop.invariant.bounded, c.loop.text.ok.0))

pub returns-in-Ok-eq0-clause-ok : goal.returns-in-Ok-eq0-clause-ok
returns-in-Ok-eq0-clause-ok g c =
    let k = rw c.in-Ok-eq0.is at c.read.ensures.bytes in
    let taken = rw c.in-Ok-eq0.field-0-test at k.0 in
    let bounded = c.loop.invariant.bounded in
    let room : 0 < length c.read.new.buf = let a = c.read.auto.buf in grind (arith, common_steps, a, c.if-room-eq0.false) in
    ended _ _ _ _ c.read.new.buf 1048577 c.loop.invariant.consumed taken (k.1 c.in-Ok-eq0.field-0-test room) (omega (arith, bounded, c.loop.text.ok.0))

pub loop-preserved : goal.loop-preserved
loop-preserved g c = elim c.match-read.branch [
  | in-Ok+else-is_err w ↦
      let k = rw w.in-Ok.is at c.read.ensures.bytes in
      let b = rw w.in-Ok.is at c.read.ensures.bound in
      let ok = w.is_err.ensures.negation ∙ ap not w.if-is_err.false in
      let items = rw ok at w.extend_from_slice.ensures.items in
      let a = c.read.auto.buf in
      let len = rw ok at w.extend_from_slice.ensures.len in
      let given = length-take w.in-Ok.n (c.read.new.buf ++ drop c.min-room.result c.loop.chunk) in
      let room = length-take c.min-room.result c.loop.chunk in
      let bounded = c.loop.invariant.bounded in
      record { bounded = rw w.text-is (omega (arith, len, given, room, a, b.0, c.min-room.ensures, c.len.ensures, bounded)); consumed = rw w.text-is (more _ _ _ _ _ c.read.new.buf (drop c.min-room.result c.loop.chunk) w.in-Ok.n c.loop.invariant.consumed k.0 b.0 items) }
  | in-Err w ↦
      let k = rw w.in-Err.is at c.read.ensures.bytes in
      record { bounded = rw w.text-is c.loop.invariant.bounded; consumed = rw w.text-is (kept _ _ _ _ c.loop.invariant.consumed k) }
]
