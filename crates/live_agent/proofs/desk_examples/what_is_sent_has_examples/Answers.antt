use Rattle.std.proofs.Common.{◌≡◌, ℕ, [], List, Option, None, Result, ap, subst}
use Rattle.std.specs.Prelude.{⊤, codes}
use Rattle.std.specs.declared.net.socket_addr.SocketAddrV4.{SocketAddrV4}
use Rattle.agent_log.specs.declared.journal.Journal.{Journal}
use Rattle.impairment.specs.declared.network.BadNetwork.{BadNetwork}
use Rattle.live_io.specs.declared.surroundings.Fault.{Fault}
use Rattle.agent_gateways.specs.Issuing.{IssuesSettled}
use Rattle.live_agent.specs.declared.wire.Wire.{Wire}
use Rattle.live_agent.specs.AnyAround.{anywhere}
use Rattle.live_agent.specs.Handing.{Leaves}
use Rattle.live_agent.specs.Sending.{GoesOut}
use Rattle.live_agent.proofs.desk_examples.what_is_sent_has_examples.Goals as goal

pub returns-clause-nobody_else : goal.returns-clause-nobody_else
returns-clause-nobody_else c = λ to other was is none one.
    let leaves : Leaves (record anywhere { sends = λ (before : ℕ) (peer : SocketAddrV4) (bytes : List ℕ) (outcome : Result ⊤ Fault) (after : ℕ). peer ≡ other }) to [] one.noted is
    = subst
    (λ (network : Option BadNetwork). GoesOut (record anywhere { sends = λ (before : ℕ) (peer : SocketAddrV4) (bytes : List ℕ) (outcome : Result ⊤ Fault) (after : ℕ). peer ≡ other })
    to [] network one.noted is) none one.goes in
    leaves.handed.0

pub returns-clause-as_it_is : goal.returns-clause-as_it_is
returns-clause-as_it_is c = λ to was is none one.
    let leaves : Leaves (record anywhere { sends = λ (before : ℕ) (peer : SocketAddrV4) (bytes : List ℕ) (outcome : Result ⊤ Fault) (after : ℕ). bytes ≡ codes "a" }) to (codes "b")
    one.noted is
    = subst
    (λ (network : Option BadNetwork). GoesOut (record anywhere { sends = λ (before : ℕ) (peer : SocketAddrV4) (bytes : List ℕ) (outcome : Result ⊤ Fault) (after : ℕ). bytes ≡ codes "a" })
    to (codes "b") network one.noted is) none one.goes in
    leaves.handed.0

pub returns-clause-to_the_network : goal.returns-clause-to_the_network
returns-clause-to_the_network c = λ to network was is goes. ap (λ (wire : Wire ℕ). wire.around) goes.2

pub returns-clause-all : goal.returns-clause-all
returns-clause-all c = λ datagram was is all. (all.0, all.1)

pub returns-clause-refused : goal.returns-clause-refused
returns-clause-refused c = λ refusal was is went_on refused. (
  refused.0,
  ap (λ (journal : Journal). journal.tally) refused.2,
  ap (λ (journal : Journal). journal.log) refused.2,
  ap (λ (journal : Journal). journal.told) refused.2,
)

pub returns-clause-command : goal.returns-clause-command
returns-clause-command c = λ datagram was is command. (command.counted, command.goes)

pub returns-clause-one_shown : goal.returns-clause-one_shown
returns-clause-one_shown c = λ board now was is shows. (shows.0, shows.1, shows.2.0, shows.2.1, shows.3)

pub returns-clause-none_settled : goal.returns-clause-none_settled
returns-clause-none_settled c = λ board now was is sends none.
    let issues : IssuesSettled None sends.issued board now
    = subst (λ (line : Option ℕ). IssuesSettled line sends.issued board now) none sends.issues in
    issues.0

pub returns-clause-refused_too : goal.returns-clause-refused_too
returns-clause-refused_too c = λ fault was is refused. ap (λ (journal : Journal). journal.tally) refused.1

pub returns-clause-issued : goal.returns-clause-issued
returns-clause-issued c = λ issued was is sends. sends
