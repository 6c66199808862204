use Rattle.std.proofs.Common.{◌≡◌, ◌+◌, ℕ, List, [], ◌∷◌, Option, ◌∙◌, refl, ap, subst}
use Rattle.std.specs.Prelude.{codes}
use Rattle.std.specs.declared.net.socket_addr.SocketAddr.{SocketAddr}
use Rattle.live_io.proofs.Computing.{on_examples}
use Rattle.live_io.specs.Hearing.{AnswersTo}
use Rattle.live_io.specs.Requests.{requests_from}
use Rattle.live_io.specs.Typing.{behind}
use Rattle.live_agent.specs.declared.wire.Wire.{Wire}
use Rattle.live_agent.proofs.typed_examples.what_who_types_is_answered_has_examples.Goals as goal

pub returns-clause-sender : goal.returns-clause-sender
returns-clause-sender c = λ sender other text was is from with.
    subst (λ (one : Option SocketAddr).
    AnswersTo (λ (before : ℕ) (to : SocketAddr) (said : List ℕ) (after : ℕ). (to ≡ other) × (said ≡ text) × (after ≡ before + 1))
    one was.around (codes "done\n") is.around) from with.0

pub returns-clause-nobody : goal.returns-clause-nobody
returns-clause-nobody c = λ was is from with.
    subst (λ (one : Option SocketAddr).
    AnswersTo (λ (before : ℕ) (to : SocketAddr) (said : List ℕ) (after : ℕ). ⊥) one was.around (codes "done\n") is.around) from with.0

stop_next : requests_from (codes "\n" ∷ codes "stop\n" ∷ codes "quit\n" ∷ []) ≡ codes "stop\n" ∷ codes "quit\n" ∷ []
unfolding on_examples
stop_next = refl

pub returns-clause-next : goal.returns-clause-next
returns-clause-next c = λ was is left with. with.1 ∙ ap (λ (pieces : List (List ℕ)). requests_from (behind pieces)) left ∙ stop_next

pub returns-clause-stays : goal.returns-clause-stays
returns-clause-stays c = λ was is with.
    let rest = with.2 in (
      ap (λ (wire : Wire ℕ). wire.network) rest,
      ap (λ (wire : Wire ℕ). wire.journal) rest,
      ap (λ (wire : Wire ℕ). wire.now) rest,
      ap (λ (wire : Wire ℕ). wire.is_behind) rest,
      ap (λ (wire : Wire ℕ). wire.read) rest,
      ap (λ (wire : Wire ℕ). wire.end) rest,
      ap (λ (wire : Wire ℕ). wire.is_offering) rest,
    )
