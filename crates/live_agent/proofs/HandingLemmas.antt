-- What the network that spoils what goes over a wire hands over, packet by packet.
use Rattle.std.proofs.Common.{◌≡◌, ℕ, ◌+◌, true, false, List, [], ◌∷◌, ◌++◌, length, Option, Some, None, Result, Ok, Err, inl, inr, refl, sym, ap, subst, arith}
use Rattle.std.specs.Prelude.{⊤}
use Rattle.std.specs.declared.net.socket_addr.SocketAddrV4.{SocketAddrV4}
use Rattle.agent_log.specs.declared.tally.Tally.{Tally}
use Rattle.impairment.specs.declared.network.BadNetwork.{BadNetwork}
use Rattle.impairment.specs.declared.packet.Packet.{Packet}
use Rattle.impairment.specs.declared.packet.Way.{Way}
use Rattle.impairment.specs.declared.packet.Way.TheVariants.{In, Out}
use Rattle.live_io.specs.Around.{Around}
use Rattle.live_io.specs.declared.surroundings.Fault.{Fault}
use Rattle.live_agent.specs.declared.wire.Wire.{Wire}
use Rattle.live_agent.specs.Handing.{comes_in, HandsFirst, Offers, OffersTo, SendsEachOn, SendsOn}
use Rattle.live_agent.specs.Tallying.{leaving_counted, CountsLeaving}

-- a datagram was put onto the machine's network
pub left_counted : (sent : Result ⊤ Fault) (was is : Tally) → is ≡ leaving_counted sent was → CountsLeaving was is
left_counted (Ok sent) was is counts = inl counts
left_counted (Err fault) was is counts = inr counts

-- the network was offered a packet, where there is one
pub offered_so : (way : Way) (peer : SocketAddrV4) (bytes : List ℕ) (clock : ℕ) (old : Option BadNetwork) (was is : BadNetwork) (counted counts : Tally)
    → old ≡ Some was → Offers way peer bytes clock was is counted counts → OffersTo way peer bytes clock old (Some is) counted counts
offered_so way peer bytes clock old was is counted counts some offers =
    subst (λ (one : Option BadNetwork). OffersTo way peer bytes clock one (Some is) counted counts) (sym some) offers

pub offered_none : (way : Way) (peer : SocketAddrV4) (bytes : List ℕ) (clock : ℕ) (old : Option BadNetwork) (counted : Tally) → old ≡ None
    → OffersTo way peer bytes clock old old counted counted
offered_none way peer bytes clock old counted none =
    subst (λ (one : Option BadNetwork). OffersTo way peer bytes clock one one counted counted) (sym none) (refl, refl)

-- it handed the first one out, where there is one
pub first_of : (clock : ℕ) (old : Option BadNetwork) (packet : Option Packet) (was is : BadNetwork) → old ≡ Some was
    → HandsFirst clock (Some was) packet (Some is) → HandsFirst clock old packet (Some is)
first_of clock old packet was is some first = subst (λ (one : Option BadNetwork). HandsFirst clock one packet (Some is)) (sym some) first

pub first_none : (clock : ℕ) (old : Option BadNetwork) → old ≡ None → HandsFirst clock old None old
first_none clock old none = subst (λ (one : Option BadNetwork). HandsFirst clock one None one) (sym none) (refl, refl)

-- which way it goes
pub goes_in : (way : Way) → comes_in way ≡ true → way ≡ In
goes_in In so = refl
goes_in Out so = absurd cc

pub goes_out : (way : Way) → comes_in way ≡ false → way ≡ Out
goes_out In so = absurd cc
goes_out Out so = refl

-- one more of those that went out
pub one_longer : (packets : List Packet) (packet : Packet) (count : ℕ) → length packets ≡ count → length (packets ++ packet ∷ []) ≡ count + 1
one_longer [] packet count long = ap (λ (n : ℕ). n + 1) long
one_longer (first ∷ more) packet count long =
    let so_far : length (more ++ packet ∷ []) ≡ length more + 1 = one_longer more packet (length more) refl in omega (arith, so_far, long)

module _ {S : Type 0} (around : Around S) where
  pub sent_on : (packets : List Packet) (packet : Packet) (was between is : Wire S) → SendsEachOn around packets was between
      → SendsOn around packet between is → SendsEachOn around (packets ++ packet ∷ []) was is
  sent_on [] packet was between is so_far next = (is, subst (λ (one : Wire S). SendsOn around packet one is) so_far next, refl)
  sent_on (first ∷ more) packet was between is so_far next =
      (so_far.0, so_far.1, sent_on more packet so_far.0 between is so_far.2 next)
