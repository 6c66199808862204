use Rattle.std.proofs.Common.{true, false, refl, sym, ◌∙◌}
use Rattle.live_io.proofs.WaitingLemmas.{goes_on}
use Rattle.live_io.proofs.scripted.Scripted.go_on.Goals as goal

pub returns-then-is_disturbed-clause-goes : goal.returns-then-is_disturbed-clause-goes
returns-then-is_disturbed-clause-goes c =
    goes_on _ c.in-Some.next c.args.until c.args.self.now c.is_disturbed.new.self _ true (sym c.next_by.ensures ∙ c.in-Some.is)
    c.if-is_disturbed.ensures.happens (refl, c.pop_front.ensures.rest)

pub returns-else-is_disturbed-clause-goes : goal.returns-else-is_disturbed-clause-goes
returns-else-is_disturbed-clause-goes c =
    goes_on _ c.in-Some.next c.args.until c.args.self.now c.is_disturbed.new.self _ false (sym c.next_by.ensures ∙ c.in-Some.is)
    c.if-is_disturbed.ensures.happens refl
