use Rattle.agent_core.specs.WorldStands.{WorldState, WorldStands, WorldTook}
use Rattle.agent_core.specs.World.{WorldStep}
use Rattle.std.proofs.Common.{List, []}
use Rattle.std.specs.Prelude.{◌↔◌}
use Rattle.world_laws.proofs.StandingLaws.{agents_share, worlds_share, still_stands, stopped_at_once}
use Rattle.world_laws.proofs.standing_laws.what_took_nothing_stands_for_nothing_else.Goals as goal

both_ways : (w w' : WorldState) (before steps : List WorldStep) → WorldTook w [] w' → WorldStands w before → WorldStands w' steps ↔ WorldStands w steps
both_ways w w' before steps took stands =
    (λ there. worlds_share w w' before steps took.setup stands (still_stands w w' before took stands) there, λ here. still_stands w w' steps took here)

pub returns-clause-agent : goal.returns-clause-agent
returns-clause-agent c = λ a a' before events stays stands.
    (λ there. agents_share a a' before events stays.setup stands (stays.stands before stands) there, λ here. stays.stands events here)

pub returns-clause-world : goal.returns-clause-world
returns-clause-world c = both_ways

pub returns-clause-stopped : goal.returns-clause-stopped
returns-clause-stopped c = λ w w' before steps given stopped stops other first stands.
    both_ways w w' before steps (stopped_at_once w w' given stopped stops other first) stands
