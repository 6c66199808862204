use Rattle.std.proofs.Common.{arith, ◌≤◌, ◌<◌, ◌+◌, length, refl}
use Rattle.plain_machine.specs.Setup.{most_lines}
use Rattle.endpoints.proofs.DueLemmas.{set_length, had_there, endpoint_in_step}
use Rattle.endpoints.proofs.timed.Timed.exchange.Goals as goal

pub overflow_cast-line : goal.overflow_cast-line
overflow_cast-line c =
    let few : length c.self.inside.list.items ≤ most_lines = c.self.invariant.few in
    let inside : c.args.place < length c.self.inside.list.items = rw (← c.self.view_is) at c.requires in
    omega (arith, few, inside)

pub overflow_add-line : goal.overflow_add-line
overflow_add-line c =
    let few : length c.self.inside.list.items ≤ most_lines = c.self.invariant.few in
    let inside : c.args.place < length c.self.inside.list.items = rw (← c.self.view_is) at c.requires in
    omega (arith, few, inside)

pub renew-requires-clause-had : goal.renew-requires-clause-had
renew-requires-clause-had c =
    let inside : c.args.place < length c.self.inside.list.items = rw (← c.self.view_is) at c.requires in
    had_there c.self.inside.list.items c.self.inside.own c.args.place (c.args.place + 1) c.index-before.result.now c.due_on-was.result c.self.inside.due
    c.self.invariant.due refl inside c.index-before.ensures c.due_on-was.ensures

pub invariant_of-self : goal.invariant_of-self
invariant_of-self c =
    let inside : c.args.place < length c.self.inside.list.items = rw (← c.self.view_is) at c.requires in
    record {
      few = rw (set_length c.self.inside.list.items c.args.place c.args.endpoint) c.self.invariant.few;
      id = c.self.invariant.id;
      due = endpoint_in_step c.self.inside.list.items c.self.inside.own c.args.place (c.args.place + 1) c.args.endpoint c.due_on-is.result c.self.inside.due c.renew.new.table
          c.self.invariant.due refl inside c.due_on-is.ensures c.renew.ensures.lines c.renew.ensures.table;
    }
