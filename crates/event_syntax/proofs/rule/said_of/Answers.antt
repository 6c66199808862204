use Rattle.std.proofs.Common.{ap, ◌∙◌, Ok, arith}
use Rattle.std.proofs.lemmas.Result.{err_from_is_err_and}
use Rattle.event_syntax.proofs.ActionLemmas.{behind_begin, behind_on, word_stops, and_stops, behind_done}
use Rattle.event_syntax.proofs.rule.said_of.Goals as goal

pub loop-action-init : goal.loop-action-init
loop-action-init c = grind (arith, behind_begin)

pub loop-action-preserved : goal.loop-action-preserved
loop-action-preserved c = behind_on _ _ _ _ _ _ _ c.in-Some.ensures.steps c.in_ok-word_of.ensures c.in_ok-so_far.ensures c.loop-action.invariant

pub returns-in_err-word_of : goal.returns-in_err-word_of
returns-in_err-word_of c =
    let p = err_from_is_err_and c.from_residual.result c.from_residual.ensures.1 in
    rw (p.1, p.2) (word_stops _ _ _ _ _ _ c.in-Some.ensures.steps c.in_err-word_of.ensures c.loop-action.invariant)

pub returns-in_err-so_far : goal.returns-in_err-so_far
returns-in_err-so_far c =
    let p = err_from_is_err_and c.from_residual-in_err-so_far.result c.from_residual-in_err-so_far.ensures.1 in
    rw (p.1, p.2) (and_stops _ _ _ _ _ _ _ c.in-Some.ensures.steps c.in_ok-word_of.ensures c.in_err-so_far.ensures c.loop-action.invariant)

pub returns : goal.returns
returns c =
    ap (λ joined. Ok (record { joined = joined; keep = c.loop-action.so_far.keep })) c.joined_or_notify.ensures
    ∙ behind_done _ _ _ c.in-None.ensures.steps.0 c.loop-action.invariant
