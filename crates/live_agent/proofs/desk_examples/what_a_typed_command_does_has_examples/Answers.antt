use Rattle.std.proofs.Common.{ℕ, inl, inr, refl, ap}
use Rattle.std.specs.Fmt.{digits}
use Rattle.live_agent.specs.declared.wire.Wire.{Wire}
use Rattle.live_agent.proofs.desk_examples.what_a_typed_command_does_has_examples.Goals as goal

pub returns-clause-unknown : goal.returns-clause-unknown
returns-clause-unknown c = λ result board now issues. issues

pub returns-clause-answered : goal.returns-clause-answered
returns-clause-answered c = λ was is answers. ap (λ (wire : Wire ℕ). wire.journal) answers.rest

pub returns-clause-refused : goal.returns-clause-refused
returns-clause-refused c = λ fault was is answers. answers

pub returns-clause-next : goal.returns-clause-next
returns-clause-next c = λ piece rest none. (rest, none, refl)

pub returns-clause-id : goal.returns-clause-id
unfolding digits
returns-clause-id c = refl

pub returns-clause-told : goal.returns-clause-told
unfolding digits
returns-clause-told c = inl refl

pub returns-clause-not_told : goal.returns-clause-not_told
returns-clause-not_told c = inr refl

pub returns-clause-sent : goal.returns-clause-sent
returns-clause-sent c = λ issued was is answers. (answers.0, answers.2)
