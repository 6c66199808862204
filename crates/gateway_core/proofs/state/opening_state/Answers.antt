use Rattle.std.proofs.Common.{refl}
use Rattle.gateway_core.proofs.StateLemmas.{opening_few}
use Rattle.gateway_core.proofs.state.opening_state.Goals as goal

pub of-requires-clause-few : goal.of-requires-clause-few
of-requires-clause-few c = opening_few _ _ c.requires c.in_ok-list.ensures

pub returns-in-Ok : goal.returns-in-Ok
returns-in-Ok c = rw (c.in-Ok.ensures.ok, c.in_ok-store.ensures, c.in_ok-list.ensures, c.opening_own.ensures.value, c.new.ensures) refl
