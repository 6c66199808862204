use Rattle.std.proofs.Common.{◌≡◌, [], length, refl, sym, append-nil, None, rules}
use Rattle.std.specs.Prelude.{nat_lt}
use Rattle.gateway_core.proofs.TextLemmas.{went_heard, told_then, told_passed}
use Rattle.gateway_core.proofs.answering.take_read.Goals as goal

pub returns-then-not-left-clause-does : goal.returns-then-not-left-clause-does
returns-then-not-left-clause-does c text read = went_heard _ _ text c.args.state.now _ _ _ _ _ _ _ c.passed_over-passed.result None (c.in_ok-left.ensures.text text read)
    (rw c.if-not-left.true at c.in_ok-left.ensures.left) c.in_ok-left.ensures.kept c.in_ok-left.ensures.settled (rw c.new-heard.ensures.items at c.in_ok-left.ensures.sent)
    c.passed_over-passed.ensures c.in_ok-send_heard.ensures (record { machine = refl; found = refl; sent = sym (append-nil _) })

pub returns-then-not-left-clause-outcome : goal.returns-then-not-left-clause-outcome
returns-then-not-left-clause-outcome c text read = told_passed _ _ text c.args.state.now _ _ (c.in_ok-left.ensures.text text read)
    (rw c.if-not-left.true at c.in_ok-left.ensures.left) c.passed_over-passed.ensures

pub returns-clause-does : goal.returns-clause-does
returns-clause-does c text read = went_heard _ _ text c.args.state.now _ _ _ _ _ _ _ c.passed_over-passed.result _ (c.in_ok-left.ensures.text text read)
    (rw c.if-not-left.false at c.in_ok-left.ensures.left) c.in_ok-left.ensures.kept c.in_ok-left.ensures.settled (rw c.new-heard.ensures.items at c.in_ok-left.ensures.sent)
    c.passed_over-passed.ensures c.in_ok-send_heard.ensures c.in_ok-outcome.ensures.does

pub returns-clause-outcome : goal.returns-clause-outcome
returns-clause-outcome c text read =
    let asked : nat_lt 0 c.len-is_acknowledged.result ≡ nat_lt 0 (length c.hear.new.out.items) = search rules in
    told_then _ _ text c.args.state.now c.hear.new.history [] _ _ _ _ _ _ (c.in_ok-left.ensures.text text read)
    (rw c.if-not-left.false at c.in_ok-left.ensures.left) (rw c.new-heard.ensures.items at c.in_ok-left.ensures.sent) asked c.passed_over-passed.ensures c.in_ok-outcome.ensures.outcome
