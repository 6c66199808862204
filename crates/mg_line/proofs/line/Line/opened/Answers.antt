use Rattle.std.proofs.Common.{ap}
use Rattle.mg_line.specs.LineFields.{line_in}
use Rattle.mg_line.specs.Line.{LineState}
use Rattle.mg_line.specs.Opening.{opened}
use Rattle.mg_line.proofs.RoomLemmas.{opened_room}
use Rattle.mg_line.proofs.StepLemmas.{step_along, left_along, room_after}
use Rattle.mg_line.proofs.line.Line.opened.Goals as goal

pub returns : goal.returns
returns c = record {
  ok = step_along c.open.result (line_in c.open.new.self) (opened (line_in c.self.inside.fields) c.args.moment) (opened c.args.self.now c.args.moment)
      c.open.ensures.ok (ap (λ (line : LineState). opened line c.args.moment) c.self.view_is);
  err = left_along c.open.result (line_in c.open.new.self) (line_in c.self.inside.fields) c.args.self.now c.open.ensures.err c.self.view_is;
}

pub invariant_of-self : goal.invariant_of-self
invariant_of-self c =
    room_after c.open.result (line_in c.open.new.self) (line_in c.self.inside.fields) (opened (line_in c.self.inside.fields) c.args.moment)
    c.open.ensures.ok c.open.ensures.err c.self.invariant (opened_room (line_in c.self.inside.fields) c.args.moment c.self.invariant)
