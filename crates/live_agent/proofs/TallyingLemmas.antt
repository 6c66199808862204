-- What counts where a datagram is sent.
use Rattle.std.proofs.Common.{◌≡◌, Bool, true, false, Option, Some, None, refl, subst}
use Rattle.std.specs.Prelude.{⊤, is_err, is_some, Result, Ok, Err}
use Rattle.agent_log.specs.declared.tally.Tally.{Tally}
use Rattle.agent_log.specs.Counts.{with_handed_out}
use Rattle.impairment.specs.declared.network.BadNetwork.{BadNetwork}
use Rattle.impairment.specs.declared.packet.Way.TheVariants.{Out}
use Rattle.live_io.specs.declared.surroundings.Fault.{Fault}
use Rattle.live_agent.specs.Tallying.{waited_counted, with_receive_fault, CountsLeaving, CountsOffer, CountsSent}

-- no network spoils it, and it is put onto the machine's
pub left_so : (is_repeat : Bool) (network : Option BadNetwork) (was sent offered is : Tally) → sent ≡ with_handed_out is_repeat was
    → is_some network ≡ false → CountsOffer Out network sent offered → CountsLeaving offered is → CountsSent is_repeat network was is
left_so is_repeat None was sent offered is sent_is none offers leaves =
    subst (λ (tally : Tally). CountsLeaving tally is) sent_is (subst (λ (tally : Tally). CountsLeaving tally is) offers leaves)
left_so is_repeat (Some network) was sent offered is sent_is none offers leaves = absurd cc

-- it is offered to the network that spoils it
pub offered_so : (is_repeat : Bool) (network : Option BadNetwork) (was sent is : Tally) → sent ≡ with_handed_out is_repeat was
    → is_some network ≡ true → CountsOffer Out network sent is → CountsSent is_repeat network was is
offered_so is_repeat None was sent is sent_is some offers = absurd cc
offered_so is_repeat (Some network) was sent is sent_is some offers =
    subst (λ (tally : Tally). CountsOffer Out (Some network) tally is) sent_is offers

-- a wait that failed counts, and no other one

pub fault_counts : (outcome : Result ⊤ Fault) (tally : Tally) → is_err outcome ≡ true → with_receive_fault tally ≡ waited_counted outcome tally
fault_counts (Ok waited) tally failed = absurd cc
fault_counts (Err fault) tally failed = refl

pub nothing_counts : (outcome : Result ⊤ Fault) (tally : Tally) → is_err outcome ≡ false → tally ≡ waited_counted outcome tally
nothing_counts (Ok waited) tally went = refl
nothing_counts (Err fault) tally went = absurd cc
