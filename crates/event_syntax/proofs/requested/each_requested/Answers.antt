use Rattle.std.proofs.Common.{sym}
use Rattle.std.proofs.lemmas.Result.{err_from_is_err_and}
use Rattle.event_syntax.specs.Requested.{requested}
use Rattle.packages.proofs.EachLemmas.{each_on, each_done}
use Rattle.event_syntax.proofs.GiveLemmas.{fault_stops}
use Rattle.event_syntax.proofs.TakeLemmas.{rule_is_read, takes_at_first, memory_stops, may_give_up}
use Rattle.event_syntax.proofs.requested.each_requested.Goals as goal

pub loop-entry-preserved : goal.loop-entry-preserved
loop-entry-preserved c = record {
  whole = each_on requested _ _ _ _ _ _ _ c.in-Some.ensures.steps (sym c.in_ok-requested.ensures.value) c.in_ok-push.ensures.ok c.loop-entry.invariant.whole;
  taken = λ _. takes_at_first _ _ _ _ c.in-Some.ensures.steps (rule_is_read _ _ c.in_ok-requested.ensures.value) c.loop-entry.invariant.taken;
}

pub returns-in_err-requested-clause-value : goal.returns-in_err-requested-clause-value
returns-in_err-requested-clause-value c =
    let p = err_from_is_err_and c.from_residual.result c.from_residual.ensures.1 in
    rw (p.1, p.2) (fault_stops requested _ _ _ _ _ _ c.in-Some.ensures.steps c.in_err-requested.ensures.value c.loop-entry.invariant.whole)

pub returns-in_err-requested-clause-memory : goal.returns-in_err-requested-clause-memory
returns-in_err-requested-clause-memory c =
    let p = err_from_is_err_and c.from_residual.result c.from_residual.ensures.1 in
    rw (p.1, p.2) (memory_stops _ _ _ _ _ c.in-Some.ensures.steps c.in_err-requested.ensures.memory c.loop-entry.invariant.taken)

pub returns-in_err-push-clause-memory : goal.returns-in_err-push-clause-memory
returns-in_err-push-clause-memory c =
    may_give_up _ c.from_residual-in_err-push.result (takes_at_first _ _ _ _ c.in-Some.ensures.steps (rule_is_read _ _ c.in_ok-requested.ensures.value) c.loop-entry.invariant.taken)

pub returns-clause-value : goal.returns-clause-value
returns-clause-value c = sym (each_done requested _ _ _ c.in-None.ensures.steps.0 c.loop-entry.invariant.whole)
