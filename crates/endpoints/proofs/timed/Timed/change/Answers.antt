use Rattle.std.proofs.Common.{arith, ◌≤◌, ◌<◌, ◌+◌, ◌∙◌, length, refl, ap}
use Rattle.std.specs.Prelude.{slice_set, slice_index_or}
use Rattle.plain_machine.specs.declared.endpoint.Endpoint.{Endpoint}
use Rattle.plain_machine.specs.Falling.{due_on}
use Rattle.plain_machine.specs.Machine.{Endpoints}
use Rattle.plain_machine.specs.Setup.{most_lines}
use Rattle.endpoints.proofs.DueLemmas.{set_length, got_there, had_there, endpoint_in_step}
use Rattle.endpoints.proofs.timed.Timed.change.Goals as goal

pub overflow_cast-line : goal.overflow_cast-line
overflow_cast-line g c =
    let few : length c.self.inside.list.items ≤ most_lines = c.self.invariant.few in
    let inside : c.args.place < length c.self.inside.list.items = rw (← c.self.view_is) at c.requires.within in
    omega (arith, few, inside)

pub overflow_add-line : goal.overflow_add-line
overflow_add-line g c =
    let few : length c.self.inside.list.items ≤ most_lines = c.self.invariant.few in
    let inside : c.args.place < length c.self.inside.list.items = rw (← c.self.view_is) at c.requires.within in
    omega (arith, few, inside)

pub renew-requires-clause-had : goal.renew-requires-clause-had
renew-requires-clause-had g c =
    let inside : c.args.place < length c.self.inside.list.items = rw (← c.self.view_is) at c.requires.within in
    had_there c.self.inside.list.items c.self.inside.own c.args.place (c.args.place + 1) c.index-endpoint.result.now c.due_on-was.result c.self.inside.due
    c.self.invariant.due refl inside c.index-endpoint.ensures c.due_on-was.ensures

pub invariant_of-self : goal.invariant_of-self
invariant_of-self g c =
    let inside : c.args.place < length c.self.inside.list.items = rw (← c.self.view_is) at c.requires.within in
    record {
      few = rw (set_length c.self.inside.list.items c.args.place c.change-result.new.arg2) c.self.invariant.few;
      id = c.self.invariant.id;
      due = endpoint_in_step c.self.inside.list.items c.self.inside.own c.args.place (c.args.place + 1) c.change-result.new.arg2 c.due_on-is.result c.self.inside.due c.renew.new.table
          c.self.invariant.due refl inside
          (c.due_on-is.ensures
          ∙ ap (λ (s : Endpoint). due_on (c.args.place + 1, s))
          (c.index.ensures ∙ got_there c.self.inside.list.items c.args.place c.change-result.new.arg2 c.index.result.now inside))
          c.renew.ensures.lines c.renew.ensures.table;
    }

pub returns : goal.returns
returns g c = record {
  endpoint = c.index_mut.result.now;
  becomes = c.change-result.new.arg2;
  here = c.index_mut.ensures.value ∙ ap (λ (e : Endpoints). slice_index_or e.list c.args.place c.index_mut.result.now) c.self.view_is;
  leaves = record { shown = c.index_mut.result; leaves = _; lent = _; back = _; called = c.change-result.ensures; shows = refl; lends = refl; becomes = refl; gives = refl };
  endpoints = ap (λ (e : Endpoints). let f : Endpoints = record e { list = slice_set e.list c.args.place c.change-result.new.arg2 } in f) c.self.view_is;
}
