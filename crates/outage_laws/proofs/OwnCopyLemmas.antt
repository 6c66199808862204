-- A copy of a command of the gateway's own that is handed to the agent is taken; and where its answer is handed back, a response came.
use Rattle.std.proofs.Common.{◌≡◌, ℕ, ◌≤◌, true, List, [], ◌∷◌, ◌++◌, Option, Some, sym, ◌∙◌, subst}
use Rattle.std.specs.Prelude.{Any, IfSome, slice_get}
use Rattle.transmission.specs.declared.entry.KeptFirst.{KeptFirst}
use Rattle.transmission.specs.Kept.{firsts_in}
use Rattle.transmission.specs.Texts.{texts_of}
use Rattle.plain_machine.specs.declared.setup.Setup.{Setup}
use Rattle.plain_machine.specs.Lists.{sent_of}
use Rattle.plain_machine.specs.Setup.{IsSetUp}
use Rattle.machine_laws.specs.Belonging.{of_line}
use Rattle.plain_machine.specs.Message.{Begun}
use Rattle.machine_laws.specs.Saying.{OneOf, Tells, begun_in}
use Rattle.machine_laws.proofs.EachLemmas.{Each, any_from_one, each_at, one_from_any, one_of_each, one_to}
use Rattle.machine_laws.proofs.PostLogs.{WasBegun}
use Rattle.agent_core.specs.declared.packet.End.{End}
use Rattle.agent_core.specs.declared.packet.End.TheVariants.{GatewayEnd as gateway_end}
use Rattle.agent_core.specs.declared.packet.Posted.{Posted}
use Rattle.agent_core.specs.World.{World, WorldStep, delivering, gateway_in, now_in, plain_world, steps_are_taken, world_opening}
use Rattle.world_laws.specs.Reached.{Reached, own_in, taken_in}
use Rattle.world_laws.proofs.LinkLaws.{GatewayPosts, GatewaySends, world_linked}
use Rattle.world_laws.specs.Copies.{IsCopy}
use Rattle.world_laws.specs.Fairness.{GoesToAgent}
use Rattle.world_laws.specs.OwnChances.{HasCome, IsOfLine, IsToldAfter}
use Rattle.world_laws.specs.Taking.{AgentHasRoom, IsOwn, IsTaken, agent_history}
use Rattle.world_laws.proofs.FirstBroughtLaws.{begun_of_all}
use Rattle.world_laws.proofs.ReturnedLaws.{has_come, plain_so, reads_so}
use Rattle.world_laws.proofs.PostedFinal.{handed_to_agent, step_more, taken_front}
use Rattle.world_laws.proofs.TakeLaws.{agent_takes}
use Rattle.world_laws.proofs.TakenLaws.{taken_stays}

-- what a line began the gateway began
pub own_of : (setup : Setup) (w : World) (line : ℕ) (b : Begun) → IsOfLine setup w line b → IsOwn setup w b
own_of setup w line b of =
    any_from_one (λ (one : Begun). one ≡ b) (own_in setup w)
    (begun_of_all (λ (one : Begun). one ≡ b) line (sent_of setup w.gateway_took)
    (one_from_any (λ (one : Begun). one ≡ b) (begun_in (of_line line (sent_of setup w.gateway_took))) of))

module _ (setup : Setup) (steps : List WorldStep) (set_up : IsSetUp setup) (taken : steps_are_taken setup world_opening steps ≡ true) where
  -- no packet of the gateway's is sent later than now
  pub posted_past : (number : ℕ) (post : Posted) (text : List ℕ) → slice_get (plain_world setup steps).posted number ≡ Some post → post.end ≡ gateway_end
      → Any (λ (one : List ℕ). one ≡ text) (texts_of post.packet.bytes) → post.packet.moment ≤ now_in setup (plain_world setup steps)
  posted_past number post text found from inside =
      one_to (λ (one : List ℕ). (Tells log firsts one post.packet.moment × (post.packet.moment ≤ now)) × (one ≡ text)) (post.packet.moment ≤ now) (λ one both. both.0.1)
      (texts_of post.packet.bytes)
      (one_of_each (λ (one : List ℕ). Tells log firsts one post.packet.moment × (post.packet.moment ≤ now)) (λ (one : List ℕ). one ≡ text) (texts_of post.packet.bytes) holds
      (one_from_any (λ (one : List ℕ). one ≡ text) (texts_of post.packet.bytes) inside)) where
        w : World
        w = plain_world setup steps

        log : List Begun
        log = own_in setup w

        firsts : List KeptFirst
        firsts = firsts_in (gateway_in setup w).history

        now : ℕ
        now = now_in setup w

        sends : GatewaySends log firsts now post
        sends =
            subst (λ (o : Option Posted). IfSome o (GatewaySends log firsts now)) found
            (each_at (GatewaySends log firsts now) w.posted number (world_linked setup steps set_up taken).links.posted)

        holds : Each (λ (one : List ℕ). Tells log firsts one post.packet.moment × (post.packet.moment ≤ now)) (texts_of post.packet.bytes)
        holds = subst (λ (end : End). GatewayPosts log firsts now end post.packet) from sends

module _ (setup : Setup) (steps : List WorldStep) (b : Begun) (set_up : IsSetUp setup) (taken : steps_are_taken setup world_opening steps ≡ true) (own : IsOwn setup (plain_world setup steps) b) where
  abbrev w : World
  w = plain_world setup steps

  was : WasBegun (now_in setup w) b
  was =
      one_to (λ (one : Begun). WasBegun (now_in setup w) one × (one ≡ b)) (WasBegun (now_in setup w) b) (λ one both. subst (WasBegun (now_in setup w)) both.1 both.0) (own_in setup w)
      (one_of_each (WasBegun (now_in setup w)) (λ (one : Begun). one ≡ b) (own_in setup w) (world_linked setup steps set_up taken).links.gateway.stands.logged.begun
      (one_from_any (λ (one : Begun). one ≡ b) (own_in setup w) own))

  front : (before rest : List WorldStep) (number : ℕ) → steps ≡ (before ++ delivering number ∷ []) ++ rest → steps_are_taken setup world_opening (before ++ delivering number ∷ []) ≡ true
  front before rest number order =
      taken_front setup world_opening (before ++ delivering number ∷ []) rest (subst (λ (s : List WorldStep). steps_are_taken setup world_opening s ≡ true) order taken)

  -- a copy that is handed over is taken, where there is room
  pub take_copy : (before rest : List WorldStep) (number : ℕ) → steps ≡ (before ++ delivering number ∷ []) ++ rest → IsCopy setup (plain_world setup before) gateway_end b.text number
      → AgentHasRoom setup (plain_world setup (before ++ delivering number ∷ [])) → IsTaken setup (plain_world setup before) (plain_world setup (before ++ delivering number ∷ [])) b.id
  take_copy before rest number order copy room =
      agent_takes setup before number b was.name set_up (front before rest number order) was.reads copy
      (step_more setup before (delivering number) ∙ handed_to_agent setup (plain_world setup before) b.text number copy) room

  -- it stays taken
  pub stays_taken : (before rest : List WorldStep) (number : ℕ) → steps ≡ (before ++ delivering number ∷ []) ++ rest
      → IsTaken setup (plain_world setup before) (plain_world setup (before ++ delivering number ∷ [])) b.id → Any (λ (one : Reached). one.asked.id ≡ b.id) (taken_in w)
  stays_taken before rest number order took =
      any_from_one (λ (one : Reached). one.asked.id ≡ b.id) (taken_in w)
      (subst (λ (s : List WorldStep). OneOf (λ (one : Reached). one.asked.id ≡ b.id) (taken_in (plain_world setup s))) (sym order)
      (taken_stays (λ (one : Reached). one.asked.id ≡ b.id) setup (before ++ delivering number ∷ []) rest
      (one_from_any (λ (one : Reached). one.asked.id ≡ b.id) (taken_in (plain_world setup (before ++ delivering number ∷ []))) took.took)))

  -- where the answer that went out then is handed over, a response came
  pub comes_back : (before rest : List WorldStep) (number : ℕ) → steps ≡ (before ++ delivering number ∷ []) ++ rest
      → (took : IsTaken setup (plain_world setup before) (plain_world setup (before ++ delivering number ∷ [])) b.id)
      → (some later : List WorldStep) → steps ≡ (some ++ delivering took.number ∷ []) ++ later → slice_get (plain_world setup some).posted took.number ≡ Some took.copy.post → HasCome w b.id
  comes_back before rest number order took some later back sent =
      let first = before ++ delivering number ∷ [] in
      let stored = one_from_any (λ (one : KeptFirst). (one.id ≡ b.id) × (one.answer ≡ took.text)) (firsts_in (agent_history setup (plain_world setup first))) took.stored in
      has_come setup steps b (record {
        before = some;
        number = took.number;
        later = later;
        order = back;
        text = took.text;
        copy = record { post = took.copy.post; found = sent; sender = took.copy.sender; goes = took.copy.goes; inside = took.copy.inside };
        reads = reads_so setup first b.id took.text (front before rest number order) stored;
        plain = plain_so setup first b.id took.text stored;
      })

  -- a packet with it that goes to the agent is a copy of it
  pub told_copy : GoesToAgent setup w b.text → (wait : ℕ) (told : IsToldAfter setup w b wait) → (some : World) → slice_get some.posted told.number ≡ Some told.post
      → IsCopy setup some gateway_end b.text told.number
  told_copy goes wait told some sent = record {
    post = told.post;
    found = sent;
    sender = told.sender;
    goes = goes told.number told.post told.found told.sender told.inside;
    inside = told.inside;
  }
