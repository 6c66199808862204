use Rattle.std.proofs.Common.{ℕ, ◌∙◌, ap, subst, sym}
use Rattle.agent_log.specs.declared.journal.Journal.{Journal}
use Rattle.live_agent.specs.Tallying.{with_receive_fault}
use Rattle.live_agent.proofs.TallyingLemmas.{fault_counts, nothing_counts}
use Rattle.live_agent.proofs.wire.Wire.wait.Goals as goal

pub returns-then-is_err-clause-waited : goal.returns-then-is_err-clause-waited
returns-then-is_err-clause-waited g c = (
  c.wait.result,
  subst (λ (n : ℕ). g.S.Surroundings.around.sleeps c.args.self.now.around n c.wait.result c.wait.new.self) c.longest_wait-longest.ensures c.wait.ensures.waited,
  ap (λ (n : ℕ). record c.deref_mut.result.now.tally { receive_faults = n }) c.count.ensures
      ∙ ap (λ (journal : Journal). with_receive_fault journal.tally) c.deref_mut.ensures.value
      ∙ fault_counts c.wait.result c.args.self.now.journal.value.tally (sym c.is_err.ensures.value ∙ c.if-is_err.true),
)

pub returns-else-is_err-clause-waited : goal.returns-else-is_err-clause-waited
returns-else-is_err-clause-waited g c = (
  c.wait.result,
  subst (λ (n : ℕ). g.S.Surroundings.around.sleeps c.args.self.now.around n c.wait.result c.wait.new.self) c.longest_wait-longest.ensures c.wait.ensures.waited,
  nothing_counts c.wait.result c.args.self.now.journal.value.tally (sym c.is_err.ensures.value ∙ c.if-is_err.false),
)
