-- What the agent took of a line that gave no command up is a front of what the line told.
use Rattle.std.proofs.Common.{◌≡◌, ℕ, true, false, List, ◌++◌, Some, sym, ap, ◌∙◌, subst}
use Rattle.std.proofs.lemmas.List.Elements.{filter-append}
use Rattle.packages.specs.declared.observed.Observed.{Observed}
use Rattle.plain_machine.specs.declared.setup.Setup.{Setup}
use Rattle.plain_machine.specs.declared.endpoint.Endpoint.{Endpoint}
use Rattle.plain_machine.specs.Lists.{sent_of}
use Rattle.plain_machine.specs.Machine.{endpoint_at}
use Rattle.plain_machine.specs.Setup.{IsSetUp}
use Rattle.machine_laws.specs.Belonging.{of_line}
use Rattle.call_agent.specs.Agent.{observed_on}
use Rattle.agent_core.specs.World.{WorldStep, agent_in, gateway_in, plain_world, steps_are_taken, world_opening}
use Rattle.world_laws.specs.Course.{course_of}
use Rattle.world_laws.specs.GivenUp.{has_given_up}
use Rattle.world_laws.specs.Dialled.{done_in, told_along}
use Rattle.world_laws.specs.Rounds.{is_of_telephone, of_telephone}
use Rattle.world_laws.proofs.EndLemmas.{left_in, paired, told_on}
use Rattle.told_laws.specs.Among.{AreAmong}
use Rattle.told_laws.proofs.AmongLemmas.{among_front, among_pass}
use Rattle.told_laws.proofs.ToldCourses.{told_in_order}

front_among : (front rest all : List Observed) → all ≡ front ++ rest → AreAmong (of_telephone front) (of_telephone all)
front_among front rest all same =
    subst (AreAmong (of_telephone front)) (sym (ap of_telephone same ∙ filter-append is_of_telephone front rest))
    (among_front (of_telephone front) (of_telephone rest))

pub taken_in_order : (setup : Setup) (steps : List WorldStep) (line : ℕ) (endpoint : Endpoint) → IsSetUp setup
    → steps_are_taken setup world_opening steps ≡ true
    → endpoint_at (gateway_in setup (plain_world setup steps)).endpoints line ≡ Some endpoint
    → has_given_up (of_line line (sent_of setup (plain_world setup steps).gateway_took)) endpoint.post ≡ false
    → AreAmong (of_telephone (observed_on line (agent_in setup (plain_world setup steps))))
    (done_in (course_of setup line (plain_world setup steps).gateway_took))
taken_in_order setup steps line endpoint set_up taken at none =
    let w = plain_world setup steps in
    let observed = observed_on line (agent_in setup w) in
    let told = told_along (course_of setup line w.gateway_took) in
    among_pass (of_telephone observed) (of_telephone told) (done_in (course_of setup line w.gateway_took))
    (front_among observed (left_in setup steps line set_up taken endpoint at none (paired setup steps line set_up taken endpoint at none)) told
    (told_on setup steps line set_up taken endpoint at none))
    (told_in_order setup line w.gateway_took)
