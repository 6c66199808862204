use Rattle.std.proofs.Common.{ℕ, Option, ◌∙◌, sym, ap, true≢false}
use Rattle.std.specs.Prelude.{Result}
use Rattle.std.specs.declared.net.socket_addr.SocketAddrV4.{SocketAddrV4}
use Rattle.live_io.specs.declared.surroundings.Fault.{Fault}
use Rattle.live_gateway.specs.Exchanging.{faults_at}
use Rattle.live_laws.proofs.DeskExampleLemmas.{nothing_found, nothing_heard, nothing_received}
use Rattle.live_laws.proofs.desk_examples.what_a_look_finds_has_examples.Goals as goal

pub returns-clause-nothing : goal.returns-clause-nothing
returns-clause-nothing c = nothing_found

pub returns-clause-fails : goal.returns-clause-fails
returns-clause-fails c = λ fault was is found looks.
    looks.faults ∙ ap (λ (outcome : Result (Option (SocketAddrV4 × ℕ)) Fault). faults_at outcome was.faults) looks.looked

pub returns-clause-unheard : goal.returns-clause-unheard
returns-clause-unheard c = nothing_heard

pub returns-clause-directly : goal.returns-clause-directly
returns-clause-directly c = nothing_received

pub returns-clause-unsent : goal.returns-clause-unsent
returns-clause-unsent c = λ fault failed. true≢false (sym failed)

pub returns-clause-stranger : goal.returns-clause-stranger
returns-clause-stranger c = λ was is notes. (notes.tally, notes.rest.0, notes.rest.1)

pub returns-clause-noted : goal.returns-clause-noted
returns-clause-noted c = λ was is notes. (notes.tally, notes.rest.0)

pub returns-clause-fate : goal.returns-clause-fate
returns-clause-fate c = λ fault was is notes. notes.0
