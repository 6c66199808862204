use Rattle.std.proofs.Common.{sym}
use Rattle.packages.specs.Observed.{observed_entry, observed_of}
use Rattle.packages.proofs.EachLemmas.{each_on, each_stops, each_done}
use Rattle.packages.proofs.ObservedLaws.{entry_fault_is_code, read_is_writable, takes_at_first}
use Rattle.packages.proofs.observed.read_observed.Goals as goal

pub loop-entry-preserved : goal.loop-entry-preserved
loop-entry-preserved c = record {
  whole = each_on observed_entry _ _ _ _ _ _ _ c.in-Some.ensures.steps c.in-Ok.ensures c.in_ok-push-in-Ok.ensures.ok c.loop-entry.invariant.whole;
  taken = λ _. takes_at_first _ _ _ _ _ c.in-Some.ensures.steps c.in-Ok.ensures c.loop-entry.invariant.taken;
}

pub returns-in-Err-clause-answers : goal.returns-in-Err-clause-answers
unfolding observed_of
returns-in-Err-clause-answers c =
    (sym (each_stops observed_entry _ _ _ _ _ _ c.in-Some.ensures.steps c.in-Err.ensures c.loop-entry.invariant.whole), entry_fault_is_code _ _ (sym c.in-Err.ensures))

pub returns-clause-answers : goal.returns-clause-answers
unfolding observed_of
returns-clause-answers c = sym (each_done observed_entry _ _ _ c.in-None.ensures.steps.0 c.loop-entry.invariant.whole)

pub returns-clause-writable : goal.returns-clause-writable
unfolding observed_of
returns-clause-writable c = read_is_writable c.args.value.now _ (sym (each_done observed_entry _ _ _ c.in-None.ensures.steps.0 c.loop-entry.invariant.whole))
