use Rattle.std.proofs.Common.{refl, sym}
use Rattle.plain_machine.proofs.NameLemmas.{setup_from_is}
use Rattle.gateway_core.proofs.StandLemmas.{stands_for_nothing}
use Rattle.gateway_core.proofs.WorkLemmas.{opening_sound}
use Rattle.gateway_core.proofs.gateway.Gateway.starting_at.Goals as goal

pub opening_state-requires : goal.opening_state-requires
opening_state-requires c = setup_from_is _ _ _ c.requires (sym c.in_ok-setup.ensures)

pub returns : goal.returns
returns c = rw (← c.in_ok-setup.ensures) (refl, stands_for_nothing _ (setup_from_is _ _ _ c.requires (sym c.in_ok-setup.ensures)) c.in_ok-state.ensures c.in_ok-outcomes.ensures (rw (c.new-account.ensures.sent, c.new-account.ensures.given_up) refl))

pub invariant_of-result : goal.invariant_of-result
invariant_of-result c = opening_sound _ _ (setup_from_is _ _ _ c.requires (sym c.in_ok-setup.ensures)) c.in_ok-state.ensures
