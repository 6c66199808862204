use Rattle.std.proofs.Common.{◌≡◌, ◌⊎◌, inl, inr, ℕ, [], ◌∷◌, None, Some, refl, sym, ◌∙◌, ap, subst, arith}
use Rattle.std.specs.declared.net.socket_addr.SocketAddrV4.{SocketAddrV4}
use Rattle.impairment.specs.declared.packet.Packet.{Packet}
use Rattle.message_counts.specs.Tallying.{with_received, with_stranger}
use Rattle.live_gateway.specs.declared.exchange.Exchange.{Exchange}
use Rattle.live_gateway.specs.Passing.{SendsNext, TurnsNextAway, GivesNext}
use Rattle.live_laws.specs.Example.{at_port}
use Rattle.live_laws.specs.WayExample.{sends_any}
use Rattle.live_laws.proofs.WayExampleLemmas.{nothing_due, last_due, still_kept}
use Rattle.live_laws.proofs.passing_examples.what_a_network_hands_out_has_examples.Goals as goal

pub returns-clause-nowhere : goal.returns-clause-nowhere
returns-clause-nowhere c = λ packet was is none next. nothing_due was.now.clock was.network packet is.network none next.due

pub returns-clause-alone : goal.returns-clause-alone
returns-clause-alone c = λ packet was is next. (
  ap (λ (e : Exchange ℕ). e.journal) next.rest,
  ap (λ (e : Exchange ℕ). e.around) next.rest,
  ap (λ (e : Exchange ℕ). e.read) next.rest,
)

pub returns-clause-unsent : goal.returns-clause-unsent
returns-clause-unsent c = λ packet was is next. next.leaves

pub returns-clause-goes_out : goal.returns-clause-goes_out
returns-clause-goes_out c = λ packet was is next. next.goes

pub returns-clause-uncounted : goal.returns-clause-uncounted
returns-clause-uncounted c = λ packet was is next. (
  ap (λ (e : Exchange ℕ). e.faults) next.rest ∙ ap (λ (e : Exchange ℕ). e.faults) next.hands.rest,
  ap (λ (e : Exchange ℕ). e.read) next.rest ∙ ap (λ (e : Exchange ℕ). e.read) next.hands.rest,
)

pub returns-clause-strange : goal.returns-clause-strange
returns-clause-strange c = λ admission packet was is next. (next.strange, next.comes)

pub returns-clause-counted : goal.returns-clause-counted
returns-clause-counted c = λ admission packet was is next port.
    (next.away.port port).tally ∙ ap (λ (e : Exchange ℕ). with_stranger e.journal.tally.value) next.hands.rest

pub returns-clause-none : goal.returns-clause-none
returns-clause-none c = λ admission was is none. none

pub returns-clause-one : goal.returns-clause-one
returns-clause-one c = λ admission packet was is each.
    subst (λ (e : Exchange ℕ). SendsNext sends_any packet was e ⊎ TurnsNextAway admission packet was e) (sym each.2) each.1

pub returns-clause-heard : goal.returns-clause-heard
returns-clause-heard c = λ admission room was is next. (sym next.source, next.comes, next.heard)

pub returns-clause-bytes : goal.returns-clause-bytes
returns-clause-bytes c = λ admission was is next. sym next.bytes

pub returns-clause-received : goal.returns-clause-received
returns-clause-received c = λ admission room was is next.
    next.noted.tally ∙ ap (λ (e : Exchange ℕ). with_received e.journal.tally.value) next.hands.rest

pub returns-clause-given : goal.returns-clause-given
returns-clause-given c = λ admission room was is next. next

pub returns-clause-none_due : goal.returns-clause-none_due
returns-clause-none_due c = last_due

pub returns-clause-left : goal.returns-clause-left
returns-clause-left c = still_kept

pub returns-clause-at_once : goal.returns-clause-at_once
returns-clause-at_once c = λ admission was is room hands first.
    subst (λ (e : Exchange ℕ). GivesNext admission (at_port 9 2727, 5) room e is) first hands.last
