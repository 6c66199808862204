-- A network that hands each packet over in time brings each command of the gateway's own to the agent in that time.
use Rattle.std.proofs.Common.{◌≡◌, ℕ, ◌+◌, ◌≤◌, true, List, [], ◌∷◌, ◌++◌, Some, refl, sym, ◌∙◌, subst}
use Rattle.std.specs.Prelude.{Any, slice_get}
use Rattle.transmission.specs.Texts.{texts_of}
use Rattle.plain_machine.specs.declared.setup.Setup.{Setup}
use Rattle.plain_machine.specs.Event.{datagram}
use Rattle.plain_machine.specs.Lists.{sent_of}
use Rattle.plain_machine.specs.Setup.{IsSetUp}
use Rattle.plain_machine.specs.Message.{Begun}
use Rattle.machine_laws.specs.Saying.{OneOf}
use Rattle.machine_laws.proofs.EachLemmas.{any_from_one, one_from_any, one_of_each, one_to}
use Rattle.machine_laws.proofs.PostLogs.{WasBegun}
use Rattle.call_agent.specs.Hearing.{hears}
use Rattle.agent_core.specs.declared.packet.End.TheVariants.{GatewayEnd as gateway_end}
use Rattle.agent_core.specs.declared.packet.Posted.{Posted}
use Rattle.agent_core.specs.World.{World, WorldStep, delivering, now_in, plain_world, steps_are_taken, to_agent, world_opening}
use Rattle.world_laws.specs.Reached.{Reached, own_in, taken_in}
use Rattle.world_laws.proofs.LinkLaws.{world_linked}
use Rattle.world_laws.specs.Copies.{IsCopy}
use Rattle.world_laws.specs.Taking.{IsOwn, IsTaken}
use Rattle.world_laws.specs.Fairness.{AgentAlwaysHasRoom, GoesToAgent, IsFair, IsHandedOver}
use Rattle.world_laws.proofs.LookLemmas.{one_at}
use Rattle.world_laws.proofs.PostedLemmas.{HasText, began_says, said_posted}
use Rattle.world_laws.proofs.PostedFinal.{handed_to_agent, step_more, taken_front}
use Rattle.world_laws.proofs.TakenLaws.{taken_stays}
use Rattle.world_laws.proofs.TakeLaws.{agent_takes}

-- each packet that is so old was handed over in time
abbrev pub HandsOver : Setup → List WorldStep → ℕ → ℕ → Type 0
HandsOver setup steps limit within =
    (number : ℕ) (post : Posted) → slice_get (plain_world setup steps).posted number ≡ Some post → post.packet.moment + limit ≤ now_in setup (plain_world setup steps)
    → IsHandedOver setup steps within number post

-- the agent took it when a packet of it was handed over in time
pub record IsBrought (setup : Setup) (steps : List WorldStep) (within : ℕ) (b : Begun) : Type 0 where
  pub number : ℕ
  pub post : Posted
  pub moment : post.packet.moment ≡ b.moment
  pub there : IsHandedOver setup steps within number post
  pub step : plain_world setup (there.before ++ delivering number ∷ []) ≡ to_agent setup (plain_world setup there.before) (hears (datagram post.packet.sender post.packet.bytes))
  pub took : IsTaken setup (plain_world setup there.before) (plain_world setup (there.before ++ delivering number ∷ [])) b.id

module _ (setup : Setup) (steps : List WorldStep) (limit within : ℕ) (b : Begun) (set_up : IsSetUp setup) (taken : steps_are_taken setup world_opening steps ≡ true)
    (fair : HandsOver setup steps limit within)
    (roomy : AgentAlwaysHasRoom setup steps) (own : IsOwn setup (plain_world setup steps) b)
    (goes : GoesToAgent setup (plain_world setup steps) b.text) (late : b.moment + limit ≤ now_in setup (plain_world setup steps)) where
  abbrev w : World
  w = plain_world setup steps

  was : WasBegun (now_in setup w) b
  was =
      one_to (λ (one : Begun). WasBegun (now_in setup w) one × (one ≡ b)) (WasBegun (now_in setup w) b) (λ one both. subst (WasBegun (now_in setup w)) both.1 both.0) (own_in setup w)
      (one_of_each (WasBegun (now_in setup w)) (λ (one : Begun). one ≡ b) (own_in setup w) (world_linked setup steps set_up taken).links.gateway.stands.logged.begun
      (one_from_any (λ (one : Begun). one ≡ b) (own_in setup w) own))

  shown : OneOf (HasText b.text b.moment) w.posted
  shown =
      said_posted setup steps set_up taken b.text b.moment
      (began_says b (sent_of setup w.gateway_took) (one_from_any (λ (one : Begun). one ≡ b) (own_in setup w) own))

  -- by any packet that has its text and its moment
  brought_by : (number : ℕ) (post : Posted) → slice_get w.posted number ≡ Some post → HasText b.text b.moment post
      → (is : IsBrought setup steps within b) × (is.number ≡ number)
  brought_by number post found shows = (
    record {
      number = number;
      post = post;
      moment = shows.1;
      there = there;
      step = is;
      took = agent_takes setup there.before number b was.name set_up front was.reads copy is (roomy first there.later there.order);
    },
    refl,
  ) where
    inside : Any (λ (one : List ℕ). one ≡ b.text) (texts_of post.packet.bytes)
    inside = any_from_one (λ (one : List ℕ). one ≡ b.text) (texts_of post.packet.bytes) shows.2

    there : IsHandedOver setup steps within number post
    there = fair number post found (subst (λ (moment : ℕ). moment + limit ≤ now_in setup w) (sym shows.1) late)

    first : List WorldStep
    first = there.before ++ delivering number ∷ []

    front : steps_are_taken setup world_opening first ≡ true
    front = taken_front setup world_opening first there.later (subst (λ (s : List WorldStep). steps_are_taken setup world_opening s ≡ true) there.order taken)

    copy : IsCopy setup (plain_world setup there.before) gateway_end b.text number
    copy = record { post = post; found = there.sent; sender = shows.0; goes = goes number post found shows.0 inside; inside = inside }

    is : plain_world setup first ≡ to_agent setup (plain_world setup there.before) (hears (datagram post.packet.sender post.packet.bytes))
    is = step_more setup there.before (delivering number) ∙ handed_to_agent setup (plain_world setup there.before) b.text number copy

  brought : IsBrought setup steps within b
  brought = let at = one_at (HasText b.text b.moment) w.posted shown in (brought_by at.0 at.1 at.2 at.3).0

pub is_brought : (setup : Setup) (steps : List WorldStep) (limit within : ℕ) (b : Begun) → IsSetUp setup → steps_are_taken setup world_opening steps ≡ true → HandsOver setup steps limit within
    → AgentAlwaysHasRoom setup steps → let w = plain_world setup steps in IsOwn setup w b → GoesToAgent setup w b.text
    → b.moment + limit ≤ now_in setup w → IsBrought setup steps within b
is_brought setup steps limit within b set_up taken fair roomy own goes late = brought setup steps limit within b set_up taken fair roomy own goes late

pub brought_with : (setup : Setup) (steps : List WorldStep) (limit within : ℕ) (b : Begun) → IsSetUp setup
    → steps_are_taken setup world_opening steps ≡ true → HandsOver setup steps limit within → AgentAlwaysHasRoom setup steps
    → let w = plain_world setup steps in IsOwn setup w b → GoesToAgent setup w b.text → b.moment + limit ≤ now_in setup w
    → (number : ℕ) (post : Posted) → slice_get w.posted number ≡ Some post → HasText b.text b.moment post
    → (is : IsBrought setup steps within b) × (is.number ≡ number)
brought_with setup steps limit within b set_up taken fair roomy own goes late number post found shows =
    brought_by setup steps limit within b set_up taken fair roomy own goes late number post found shows

pub brought_in_time : (setup : Setup) (steps : List WorldStep) (within : ℕ) (b : Begun) → IsSetUp setup → steps_are_taken setup world_opening steps ≡ true → IsFair setup steps within
    → AgentAlwaysHasRoom setup steps → let w = plain_world setup steps in IsOwn setup w b → GoesToAgent setup w b.text
    → b.moment + within ≤ now_in setup w → Any (λ (one : Reached). one.asked.id ≡ b.id) (taken_in w)
brought_in_time setup steps within b set_up taken fair roomy own goes late =
    let is = is_brought setup steps within within b set_up taken fair roomy own goes late in
    let first = is.there.before ++ delivering is.number ∷ [] in
    any_from_one (λ (one : Reached). one.asked.id ≡ b.id) (taken_in (plain_world setup steps))
    (subst (λ (s : List WorldStep). OneOf (λ (one : Reached). one.asked.id ≡ b.id) (taken_in (plain_world setup s))) (sym is.there.order)
    (taken_stays (λ (one : Reached). one.asked.id ≡ b.id) setup first is.there.later
    (one_from_any (λ (one : Reached). one.asked.id ≡ b.id) (taken_in (plain_world setup first)) is.took.took)))
