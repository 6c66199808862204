use Rattle.std.proofs.Common.{Bool, true, false, List, Some, refl, sym, ap, subst, rules}
use Rattle.std.specs.Prelude.{not}
use Rattle.std.specs.Box.{with_value}
use Rattle.packages.specs.declared.observed.Observed.{Observed}
use Rattle.agent_gateways.specs.Taking.{HearsTold}
use Rattle.agent_gateways.proofs.TakingLemmas.{found_so, hears_some}
use Rattle.agent_gateways.proofs.taking.take_from.Goals as goal

pub returns-then-is_empty-clause-takes : goal.returns-then-is_empty-clause-takes
returns-then-is_empty-clause-takes c = (
  c.taken-observed.result.now,
  rw (c.deref.ensures) at c.taken-observed.ensures,
  found_so c.taken-observed.result.now c.behind-told.result.now c.args.station.now.taken c.is_empty.result false c.behind-told.ensures
      c.is_empty.ensures (sym (ap (λ (none : Bool). not none) c.if-is_empty.true)),
  refl,
  refl,
)

pub returns-in_default-clause-takes : goal.returns-in_default-clause-takes
returns-in_default-clause-takes c =
    let hears : HearsTold c.args.plan.now c.args.line c.behind-told.result.now c.args.office.now c.args.office.now = search rules in (
      c.taken-observed.result.now,
      rw (c.deref.ensures) at c.taken-observed.ensures,
      found_so c.taken-observed.result.now c.behind-told.result.now c.args.station.now.taken c.is_empty.result true c.behind-told.ensures
          c.is_empty.ensures (sym (ap (λ (none : Bool). not none) c.if-is_empty.false)),
      subst (λ (list : List Observed). HearsTold c.args.plan.now c.args.line list c.args.office.now c.args.office.now) c.behind-told.ensures
          hears,
      refl,
    )

pub returns-in_default-clause-told : goal.returns-in_default-clause-told
returns-in_default-clause-told c =
    let hears : HearsTold c.args.plan.now c.args.line c.behind-told.result.now c.args.office.now c.args.office.now = search rules in
    λ found. hears_some c.args.plan.now c.args.line c.behind-told.result.now c.args.office.now c.args.office.now hears

pub returns-clause-takes : goal.returns-clause-takes
returns-clause-takes c =
    let hears : HearsTold c.args.plan.now c.args.line c.behind-told.result.now c.args.office.now (Some (with_value c.in-Some.office c.told.new.self)) = search rules in (
      c.taken-observed.result.now,
      rw (c.deref.ensures) at c.taken-observed.ensures,
      found_so c.taken-observed.result.now c.behind-told.result.now c.args.station.now.taken c.is_empty.result true c.behind-told.ensures
          c.is_empty.ensures (sym (ap (λ (none : Bool). not none) c.if-is_empty.false)),
      subst (λ (list : List Observed). HearsTold c.args.plan.now c.args.line list c.args.office.now (Some (with_value c.in-Some.office c.told.new.self))) c.behind-told.ensures
          hears,
      refl,
    )

pub returns-clause-told : goal.returns-clause-told
returns-clause-told c =
    let hears : HearsTold c.args.plan.now c.args.line c.behind-told.result.now c.args.office.now (Some (with_value c.in-Some.office c.told.new.self)) = search rules in
    λ found. hears_some c.args.plan.now c.args.line c.behind-told.result.now c.args.office.now (Some (with_value c.in-Some.office c.told.new.self)) hears
