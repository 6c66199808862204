use Rattle.std.proofs.Common.{arith, ◌≡◌, ◌<◌, ◌+◌, ◌-◌, ◌≤◌, ◌∙◌, length, ap}
use Rattle.plain_machine.specs.declared.endpoint.Endpoint.{Endpoint}
use Rattle.plain_machine.specs.Machine.{Endpoints}
use Rattle.plain_machine.specs.Falling.{due_on}
use Rattle.endpoints.proofs.StoreLemmas.{is_there, passes_over}
use Rattle.endpoints.proofs.DueLemmas.{set_length, got_there, had_there, endpoint_in_step}
use Rattle.endpoints.proofs.timed.Timed.pass_over.Goals as goal

pub renew-requires-clause-had : goal.renew-requires-clause-had
renew-requires-clause-had c =
    let from : c.from-place.result ≡ c.args.line = c.from-place.ensures in
    let some : 1 ≤ c.args.line = c.requires.line.some in
    let within : c.args.line - 1 < length c.self.inside.list.items = rw (← c.self.view_is) at c.requires.within in
    let inside : c.from-place.result - 1 < length c.self.inside.list.items = omega (arith, from, within) in
    let same : c.args.line ≡ c.from-place.result - 1 + 1 = omega (arith, from, some) in
    had_there c.self.inside.list.items c.self.inside.own (c.from-place.result - 1) c.args.line c.index.result.now c.due_on-was.result c.self.inside.due
    c.self.invariant.due same inside c.index.ensures c.due_on-was.ensures

pub invariant_of-self : goal.invariant_of-self
invariant_of-self c =
    let list = c.self.inside.list.items in
    let place = c.from-place.result - 1 in
    let is = c.pass_over_on.new.endpoint in
    let from : c.from-place.result ≡ c.args.line = c.from-place.ensures in
    let some : 1 ≤ c.args.line = c.requires.line.some in
    let within : c.args.line - 1 < length c.self.inside.list.items = rw (← c.self.view_is) at c.requires.within in
    let inside : c.from-place.result - 1 < length c.self.inside.list.items = omega (arith, from, within) in
    let same : c.args.line ≡ c.from-place.result - 1 + 1 = omega (arith, from, some) in record {
      few = rw (set_length list place is) c.self.invariant.few;
      id = c.self.invariant.id;
      due = endpoint_in_step list c.self.inside.own place c.args.line is c.due_on-is.result c.self.inside.due c.renew.new.table c.self.invariant.due same inside
          (c.due_on-is.ensures
          ∙ ap (λ (s : Endpoint). due_on (c.args.line, s)) (c.index-2.ensures ∙ got_there list place is c.index-2.result.now inside))
          c.renew.ensures.lines c.renew.ensures.table;
    }

pub returns-clause-acted : goal.returns-clause-acted
returns-clause-acted c = λ setup moment. rw (← c.self.view_is)
    (passes_over setup c.self.inside.list.items c.self.inside.own c.args.line c.from-place.result moment c.args.act c.index_mut.result.now c.pass_over_on.new.endpoint c.from-place.ensures
    (is_there _ c.self.inside.own c.args.line c.from-place.result _ c.requires.line (rw (← c.self.view_is) at c.requires.within) c.from-place.ensures c.index_mut.ensures.value)
    (c.pass_over_on.ensures setup c.args.line moment))

pub returns-clause-lines : goal.returns-clause-lines
returns-clause-lines c =
    set_length c.self.inside.list.items (c.from-place.result - 1) c.pass_over_on.new.endpoint ∙ ap (λ (e : Endpoints). length e.list) c.self.view_is
