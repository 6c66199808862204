use Rattle.std.proofs.Common.{ℕ, Option, Some, inl, inr, refl, sym, ap, ◌∙◌}
use Rattle.agent_gateways.specs.Announcing.{is_new, last_new}
use Rattle.agent_gateways.proofs.Computing.{on_examples}
use Rattle.agent_gateways.proofs.hearing_examples.what_is_heard_has_examples.Goals as goal

pub returns-clause-restart : goal.returns-clause-restart
unfolding on_examples
returns-clause-restart c = λ name gateway was is announces. announces

pub returns-clause-disconnected : goal.returns-clause-disconnected
unfolding on_examples
returns-clause-disconnected c = λ name gateway was is announces. announces

pub returns-clause-first : goal.returns-clause-first
unfolding on_examples
returns-clause-first c = λ gateway none. ap (λ (last : Option (ℕ × ℕ)). is_new last 7 gateway.ticked) none

pub returns-clause-no_message : goal.returns-clause-no_message
unfolding on_examples
returns-clause-no_message c = λ board journal. inl (refl, refl)

pub returns-clause-unread : goal.returns-clause-unread
returns-clause-unread c = λ text was is journal takes unread. inr (takes, unread, refl)

pub returns-clause-noted : goal.returns-clause-noted
returns-clause-noted c = λ was is none clock same.
    same
    ∙ sym (ap (λ (last : Option (ℕ × ℕ)). record was { announced = last_new last 7 was.ticked }) none
    ∙ ap (λ (now : ℕ). record was { announced = Some (7, now) }) clock)
