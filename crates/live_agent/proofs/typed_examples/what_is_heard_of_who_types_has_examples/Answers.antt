use Rattle.std.proofs.Common.{ℕ, List, [], Bool, Option, ◌∙◌, refl, ap, subst}
use Rattle.std.specs.declared.net.socket_addr.SocketAddr.{SocketAddr}
use Rattle.mg_bytes.specs.Lists.{is_empty}
use Rattle.live_io.specs.Hearing.{Looked}
use Rattle.live_agent.specs.Wiring.{one_more, with_read}
use Rattle.live_agent.specs.declared.wire.Wire.{Wire}
use Rattle.live_agent.proofs.typed_examples.what_is_heard_of_who_types_has_examples.Goals as goal

pub returns-clause-waits : goal.returns-clause-waits
returns-clause-waits c = λ piece more was is left hears.
    let stays = hears.1.waits (ap (λ (pieces : List (List ℕ)). is_empty pieces) left) in
    (stays.1, stays.2, hears.2 ∙ ap (λ (taken : Bool). with_read taken was.read) stays.0)

pub returns-clause-nothing : goal.returns-clause-nothing
returns-clause-nothing c = λ was is left hears.
    let looks = hears.1.looks (ap (λ (pieces : List (List ℕ)). is_empty pieces) left) in
    let looked = subst (λ (found : Option (SocketAddr × ℕ)). Looked [] found looks.1 was.lines hears.0 is.lines) looks.3.0 looks.4 in
    (looked.1, looks.3.1, hears.2 ∙ ap (λ (taken : Bool). with_read taken was.read) looked.0)

pub returns-clause-came : goal.returns-clause-came
returns-clause-came c = λ source was is left read hears.
    let looks = hears.1.looks (ap (λ (pieces : List (List ℕ)). is_empty pieces) left) in
    let looked = subst (λ (found : Option (SocketAddr × ℕ)). Looked [] found looks.1 was.lines hears.0 is.lines) looks.3 looks.4 in
    ((looked.1.theirs refl).who, hears.2 ∙ ap (λ (taken : Bool). with_read taken was.read) looked.0 ∙ ap one_more read)

pub returns-clause-stays : goal.returns-clause-stays
returns-clause-stays c = λ was is hears.
    let rest = hears.3 in (
      ap (λ (wire : Wire ℕ). wire.network) rest,
      ap (λ (wire : Wire ℕ). wire.journal) rest,
      ap (λ (wire : Wire ℕ). wire.now) rest,
      ap (λ (wire : Wire ℕ). wire.is_behind) rest,
      ap (λ (wire : Wire ℕ). wire.end) rest,
      ap (λ (wire : Wire ℕ). wire.is_offering) rest,
    )
