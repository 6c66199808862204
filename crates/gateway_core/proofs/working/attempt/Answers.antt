use Rattle.std.proofs.Common.{◌≡◌, true, refl, sym, ap, ◌∙◌}
use Rattle.endpoints.specs.StoreState.{StoreState}
use Rattle.plain_machine.specs.Event.{event_of}
use Rattle.plain_machine.specs.Machine.{Machine}
use Rattle.gateway_core.specs.declared.state.State.{State}
use Rattle.gateway_core.specs.State.{machine_in}
use Rattle.gateway_core.specs.Changing.{Changes}
use Rattle.gateway_core.proofs.AlikeLemmas.{ends_purged}
use Rattle.gateway_core.proofs.ChangingLemmas.{changes_marked, changes_none}
use Rattle.gateway_core.proofs.WorkLemmas.{as_found, puts_settled}
use Rattle.gateway_core.proofs.working.attempt.Goals as goal

pub returns-in-Ok-clause-all : goal.returns-in-Ok-clause-all
returns-in-Ok-clause-all c = puts_settled _ c.carry_out.new.state _ _ _ refl refl c.commit-in-Ok.ensures (rw (c.commit.ensures, c.purge.ensures.kept) at c.in-Ok.ensures.ok)

pub returns-in-Ok-clause-ends : goal.returns-in-Ok-clause-ends
returns-in-Ok-clause-ends c = ends_purged (machine_in c.args.state.now) (event_of c.args.event) _ (rw (c.commit.ensures, c.purge.ensures.kept) at c.in-Ok.ensures.ends)

pub returns-in-Err-clause-all : goal.returns-in-Err-clause-all
returns-in-Err-clause-all c = record {
  machine = as_found c.args.state.now _ _ c.carry_out.new.state (c.in-Err.ensures.found ∙ rw (c.commit.ensures, c.purge.ensures.kept) refl) c.rollback.ensures c.undo.ensures;
  outputs = c.in-Err.ensures.err;
}

pub returns-in-Err-clause-ends : goal.returns-in-Err-clause-ends
returns-in-Err-clause-ends c = ends_purged (machine_in c.args.state.now) (event_of c.args.event) _ (rw (c.commit.ensures, c.purge.ensures.kept) at c.in-Err.ensures.ends)

pub returns-in-Ok-clause-told : goal.returns-in-Ok-clause-told
returns-in-Ok-clause-told c = rw (c.commit.ensures, c.purge.ensures.kept) at c.in-Ok.ensures.told

pub returns-in-Ok-clause-labels : goal.returns-in-Ok-clause-labels
returns-in-Ok-clause-labels c = rw (c.commit.ensures, c.purge.ensures.kept) at c.in-Ok.ensures.labels

pub returns-in-Ok-clause-given_up : goal.returns-in-Ok-clause-given_up
returns-in-Ok-clause-given_up c = rw (c.commit.ensures, c.purge.ensures.kept) at c.in-Ok.ensures.given_up

pub returns-in-Ok-clause-changes : goal.returns-in-Ok-clause-changes
returns-in-Ok-clause-changes c =
    let began : State = record c.args.state.now { store = c.commit.new.self; history = c.purge.new.self } in
    let settled : began.store.found ≡ began.store.endpoints =
    ap (λ (s : StoreState). s.found) c.commit.ensures ∙ sym (ap (λ (s : StoreState). s.endpoints) c.commit.ensures) in
    let changes : Changes true c.mark.new.marks.items began.store.endpoints c.carry_out.new.state.store.endpoints =
    changes_marked c.args.context.setup.now (event_of c.args.event) began c.carry_out.new.state _ _ c.mark.new.marks.items settled c.in-Ok.ensures.stays
    c.in-Ok.ensures.ok c.mark.ensures.found c.mark.ensures.act in
    rw (c.commit-in-Ok.ensures) (rw (c.commit.ensures) at changes)

pub returns-in-Err-clause-changes : goal.returns-in-Err-clause-changes
returns-in-Err-clause-changes c =
    changes_none c.args.changed.now.items _ _
    (ap (λ (m : Machine). m.endpoints) (as_found c.args.state.now _ _ c.carry_out.new.state (c.in-Err.ensures.found ∙ rw (c.commit.ensures, c.purge.ensures.kept) refl) c.rollback.ensures c.undo.ensures))
