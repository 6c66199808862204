use Rattle.std.proofs.Common.{sym, ◌∙◌}
use Rattle.endpoints.proofs.StoreLemmas.{pass_next, pass_end, left_less, due_early, given_up_next, given_up_end}
use Rattle.endpoints.proofs.falling.happen_all.Goals as goal

pub happen-requires : goal.happen-requires
happen-requires c = due_early _ _ _ _ (sym c.in-Some.ensures) c.requires

pub loop-item-smaller : goal.loop-item-smaller
loop-item-smaller c = left_less _ _ _ _ _ _ _ (sym c.in-Some.ensures) c.in_ok-happen.ensures

pub loop-item-preserved : goal.loop-item-preserved
loop-item-preserved c = record {
  completes = λ is are rest. c.loop-item.invariant.completes is are (pass_next _ _ _ _ _ is _ _ are (sym c.in-Some.ensures) c.in_ok-happen.ensures rest);
  given_up = given_up_next _ _ _ _ _ _ _ _ _ _ _ (sym c.in-Some.ensures) c.given_up_at-found.ensures c.in_ok-note.ensures c.in_ok-happen.ensures c.loop-item.invariant.given_up;
  found = c.in_ok-happen.ensures.found ∙ c.loop-item.invariant.found;
}

pub returns-clause-told : goal.returns-clause-told
returns-clause-told c = c.loop-item.invariant.completes _ _ (pass_end _ _ _ _ (sym c.in_default.ensures))

pub returns-clause-given_up : goal.returns-clause-given_up
returns-clause-given_up c = given_up_end _ _ _ _ _ (sym c.in_default.ensures) c.loop-item.invariant.given_up
