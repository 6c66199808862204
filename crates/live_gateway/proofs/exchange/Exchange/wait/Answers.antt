use Rattle.std.proofs.Common.{ℕ, ◌∙◌, ap, subst, sym}
use Rattle.live_gateway.proofs.CountingLemmas.{fault_counts, nothing_counts}
use Rattle.live_gateway.proofs.exchange.Exchange.wait.Goals as goal

pub returns-then-is_err-clause-waited : goal.returns-then-is_err-clause-waited
returns-then-is_err-clause-waited g c = (
  c.wait.result,
  subst (λ (n : ℕ). g.S.Surroundings.around.sleeps c.args.self.now.around n c.wait.result c.wait.new.self) c.longest_wait-longest.ensures c.wait.ensures.waited,
  ap (λ (n : ℕ). record c.args.self.now.faults { receive = n }) c.count.ensures
      ∙ fault_counts c.wait.result c.args.self.now.faults (sym c.is_err.ensures.value ∙ c.if-is_err.true),
)

pub returns-else-is_err-clause-waited : goal.returns-else-is_err-clause-waited
returns-else-is_err-clause-waited g c = (
  c.wait.result,
  subst (λ (n : ℕ). g.S.Surroundings.around.sleeps c.args.self.now.around n c.wait.result c.wait.new.self) c.longest_wait-longest.ensures c.wait.ensures.waited,
  nothing_counts c.wait.result c.args.self.now.faults (sym c.is_err.ensures.value ∙ c.if-is_err.false),
)
