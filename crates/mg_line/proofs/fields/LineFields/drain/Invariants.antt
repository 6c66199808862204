use Rattle.std.proofs.Common.{◌≡◌, ◌-◌, length}
use Rattle.mg_line.specs.LineFields.{line_in}
use Rattle.mg_line.specs.Room.{HasRoom}
use Rattle.mg_line.specs.Detecting.{drained, with_held}
use Rattle.mg_line.proofs.BesideLemmas.{left_of}
use Rattle.mg_line.proofs.fields.LineFields.drain.Given as goal

-- what is left gives what all would give
abbrev pub invariant-loop-event : goal.invariant-loop-event
invariant-loop-event l = record {
  whole : left_of l.count l.events (line_in l.self) l.moment ≡ drained (with_held l.events (line_in l.fn.self)) l.moment;
  room : HasRoom (line_in l.self);
}

abbrev pub decreases-loop-event : goal.decreases-loop-event
decreases-loop-event l = length l.events.events - l.count
