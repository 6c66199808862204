use Rattle.std.proofs.Common.{ℕ, Bool, Option, None, refl, sym, ap, subst, ◌∙◌}
use Rattle.turns.specs.Clock.{earlier}
use Rattle.live_agent.specs.Wiring.{due_of, IsWaitedFor}
use Rattle.live_agent.proofs.session.waited_for.Goals as goal

pub returns-then-is_there : goal.returns-then-is_there
returns-then-is_there g c =
    subst (λ (is_any : Bool). IsWaitedFor is_any c.args.board.now.gateways.items (due_of c.args.wire.now.network) None)
    (sym (sym c.is_there.ensures ∙ c.if-is_there.true)) refl

pub returns : goal.returns
returns g c =
    subst (λ (is_any : Bool). IsWaitedFor is_any c.args.board.now.gateways.items (due_of c.args.wire.now.network)
    c.earlier.result)
    (sym (sym c.is_there.ensures ∙ c.if-is_there.false)) (
      c.next_due.result,
      c.next_due.ensures,
      c.earlier.ensures ∙ ap (λ (due : Option ℕ). earlier c.next_due.result due) c.network_due.ensures,
    )
