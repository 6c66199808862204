use Rattle.mg_line.specs.LineFields.{line_in}
use Rattle.mg_line.proofs.StepLemmas.{equal_along, left_along, room_copied}
use Rattle.mg_line.proofs.line.Line.try_copy_from.Goals as goal

pub returns : goal.returns
returns c = record {
  ok = equal_along c.try_copy_from.result (line_in c.try_copy_from.new.self) (line_in c.other.inside.fields) c.args.other.now c.try_copy_from.ensures.ok c.other.view_is;
  err = left_along c.try_copy_from.result (line_in c.try_copy_from.new.self) (line_in c.self.inside.fields) c.args.self.now c.try_copy_from.ensures.err c.self.view_is;
}

pub invariant_of-self : goal.invariant_of-self
invariant_of-self c =
    room_copied c.try_copy_from.result (line_in c.try_copy_from.new.self) (line_in c.other.inside.fields) (line_in c.self.inside.fields)
    c.try_copy_from.ensures.ok c.try_copy_from.ensures.err c.other.invariant c.self.invariant
