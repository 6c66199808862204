-- What changes in a gateway: at the opening, and where texts were taken.
use Rattle.std.proofs.Common.{◌≡◌, ◌≤◌, List, [], ◌∷◌, ◌++◌, length, map, ap, ◌∙◌}
use Rattle.std.specs.List.{range_with_len}
use Rattle.std.proofs.lemmas.List.FromFn.{length-map-range_with_len}
use Rattle.plain_machine.specs.declared.setup.Setup.{Setup}
use Rattle.plain_machine.specs.declared.endpoint.Endpoint.{Endpoint}
use Rattle.plain_machine.specs.declared.label.OutMessage.{OutMessage}
use Rattle.plain_machine.specs.Effect.{Effect}
use Rattle.plain_machine.specs.Labelling.{messages_of}
use Rattle.plain_machine.specs.Machine.{Machine, opening_endpoint}
use Rattle.plain_machine.specs.Setup.{IsSetUp, most_lines}
use Rattle.gateway_core.specs.declared.state.State.{State}
use Rattle.gateway_core.specs.State.{found_in, CanGoBack, Happened, Went}

pub back_still : (sent : List OutMessage) (was is : State) → found_in is ≡ found_in was → CanGoBack sent was is
back_still [] was is same = tt
back_still (first ∷ more) was is same = same

-- texts were taken
pub happened_went : (effect : Effect Machine) (was is : State) (none sent : List OutMessage) → none ≡ [] → Went effect was is none sent → Happened effect was is sent
happened_went effect was is none sent empty went = record {
  machine = went.machine;
  found = back_still sent was is went.found;
  sent = went.sent ∙ ap (λ (x : List OutMessage). x ++ messages_of effect.sent) empty;
}

pub opening_few : (setup : Setup) (list : List Endpoint) → IsSetUp setup → list ≡ map (opening_endpoint setup) (range_with_len 1 setup.names.lines) → length list ≤ most_lines
opening_few setup list set_up same = rw (ap length same ∙ length-map-range_with_len (opening_endpoint setup) 1 setup.names.lines) set_up.lines
