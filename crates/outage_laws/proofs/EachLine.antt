-- What a line began goes out at its moments, whichever line that is; of the gateway itself, which is line 0, too.
use Rattle.std.proofs.Common.{◌≡◌, ℕ, zero, suc, ◌+◌, ◌≤◌, true, List, arith}
use Rattle.std.specs.Prelude.{◌⊎◌, All}
use Rattle.plain_machine.specs.declared.setup.Setup.{Setup}
use Rattle.plain_machine.specs.Event.{GatewayEvent}
use Rattle.plain_machine.specs.Setup.{IsSetUp}
use Rattle.plain_machine.specs.Message.{Begun}
use Rattle.agent_core.specs.World.{WorldStep, now_in, plain_world, steps_are_taken, world_opening}
use Rattle.world_laws.specs.Chances.{chances}
use Rattle.world_laws.specs.OwnChances.{HasCome, IsOfLine, IsToldAfter}
use Rattle.world_laws.proofs.GatewayChanceLaws.{announced_eight_times}
use Rattle.world_laws.proofs.OwnChanceLaws.{told_eight_times}
use Rattle.outage_laws.specs.Alone.{HasBegun}
use Rattle.told_laws.proofs.LineBounds.{who_began_is_there}
use Rattle.outage_laws.proofs.OwnSendLaws.{IsDone, line_eight, own_eight}

pub each_eight : (setup : Setup) (events : List GatewayEvent) (line : ℕ) (b : Begun) → HasBegun setup events line b → IsDone setup events line b
each_eight setup events zero b begun = own_eight setup events b begun
each_eight setup events (suc n) b begun =
    let there = who_began_is_there setup events (suc n) b (omega arith) begun in
    line_eight setup events (suc n) there.0 there.1 b begun

pub each_told : (setup : Setup) (steps : List WorldStep) (line : ℕ) (b : Begun) → IsSetUp setup → steps_are_taken setup world_opening steps ≡ true
    → let w = plain_world setup steps in IsOfLine setup w line b → HasCome w b.id ⊎ All (λ (wait : ℕ). b.moment + wait ≤ now_in setup w → IsToldAfter setup w b wait) chances
each_told setup steps zero b set_up taken of = announced_eight_times setup steps b set_up taken of
each_told setup steps (suc n) b set_up taken of =
    let there = who_began_is_there setup (plain_world setup steps).gateway_took (suc n) b (omega arith) of in
    told_eight_times setup steps (suc n) there.0 b set_up taken there.1 of
