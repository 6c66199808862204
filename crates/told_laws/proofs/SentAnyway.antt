-- All that a gateway says is posted, whatever steps are refused: so a command of its own goes out at its moments, whichever line sent it.
-- And an answer that was sent is had in time.
use Rattle.std.proofs.Common.{List, [], ◌∷◌, ◌++◌}
use Rattle.plain_machine.specs.declared.setup.Setup.{Setup}
use Rattle.plain_machine.specs.Setup.{IsSetUp}
use Rattle.plain_machine.specs.Message.{Begun}
use Rattle.agent_core.specs.World.{World, WorldStep, delivering, plain_world, world_opening}
use Rattle.world_laws.specs.Copies.{IsAnswered, IsIssued, IsServed}
use Rattle.world_laws.proofs.ServedLaws.{served_by}
use Rattle.world_laws.proofs.PostedFinal.{taken_front}

-- An answer that was sent

-- what is asked for of the steps before it is asked for of all of them
pub served_anyway : (setup : Setup) (before : World) (first : List WorldStep) (b : Begun) → IsSetUp setup
    → IsIssued setup (plain_world setup first) b → (answer : IsAnswered setup before (plain_world setup first) b.id)
    → IsServed setup first b answer.number
served_anyway setup before first b set_up issued answer = λ between later all soon.
    let last = (first ++ between) ++ delivering answer.number ∷ [] in
    let handed = taken_front setup world_opening last later all in
    let waited = taken_front setup world_opening (first ++ between) (delivering answer.number ∷ []) handed in
    served_by setup first b answer.number answer.text set_up (taken_front setup world_opening first between waited) issued answer.copy
    answer.stored between later all soon
