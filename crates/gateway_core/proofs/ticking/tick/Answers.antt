use Rattle.std.proofs.Common.{refl, sym, ◌∙◌}
use Rattle.gateway_core.proofs.WorkLemmas.{happened_tick, happened_idly, gives_up_nothing}
use Rattle.gateway_core.proofs.ticking.tick.Goals as goal

pub returns-then-not-is_due-clause-happens : goal.returns-then-not-is_due-clause-happens
returns-then-not-is_due-clause-happens c = happened_idly _ _ _ _ _ c.new-out.ensures.items (sym c.is_due.ensures ∙ c.if-not-is_due.true) refl

pub returns-clause-happens : goal.returns-clause-happens
returns-clause-happens c = happened_tick _ _ _ _ _ _ c.new-out.ensures.items c.in_ok-pass.ensures.told refl refl

pub returns-then-not-is_due-clause-given_up : goal.returns-then-not-is_due-clause-given_up
returns-then-not-is_due-clause-given_up c = gives_up_nothing _ _ _ _ (sym c.is_due.ensures ∙ c.if-not-is_due.true)
