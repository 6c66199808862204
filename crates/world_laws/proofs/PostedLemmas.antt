-- Each message that the gateway sends is a text of a packet that it posts at the message's moment.
use Rattle.std.proofs.Common.{◌≡◌, ℕ, Bool, true, false, if◌then◌else◌, List, [], ◌∷◌, ◌++◌, map, Option, Some, None, inl, inr, refl, sym, ap, ◌∙◌, subst, append-nil, append_assoc}
use Rattle.std.specs.Prelude.{◌⊎◌, All, slice_get, is_none}
use Rattle.std.proofs.lemmas.Bool.{and_parts}
use Rattle.mgcp_text.specs.declared.message.Message.TheVariants as messages
use Rattle.transmission.specs.declared.output.OutDatagram.{OutDatagram}
use Rattle.transmission.specs.Packing.{same_address}
use Rattle.transmission.specs.Texts.{texts_of}
use Rattle.transmission.proofs.PackingLaws.{IsMessage}
use Rattle.plain_machine.specs.declared.setup.Setup.{Setup}
use Rattle.plain_machine.specs.Setup.{IsSetUp}
use Rattle.plain_machine.specs.Event.{GatewayEvent, datagram, phone, tick}
use Rattle.plain_machine.specs.Message.{Begun, Said, Sent, answer, again, command, resent, acknowledgement, datagram_of, datagrams_of, text_of}
use Rattle.plain_machine.specs.Machine.{Machine, opening}
use Rattle.plain_machine.specs.Packing.{put_out}
use Rattle.plain_machine.specs.Happening.{effect}
use Rattle.plain_machine.specs.Lists.{machine_after, sent_from, sent_of}
use Rattle.machine_laws.proofs.CommandLaws.{IsOut}
use Rattle.machine_laws.proofs.MessageLaws.{event_goes}
use Rattle.machine_laws.specs.Saying.{OneOf, begun_at, begun_by, begun_in}
use Rattle.machine_laws.proofs.EachLemmas.{all_from_each, each_from_all, each_mapped, is_none-None, one_before, one_behind, one_mapped, one_weaker}
use Rattle.machine_laws.proofs.GatewayEvents.{GatewayHolds}
use Rattle.call_agent.specs.Hearing.{AgentEvent, hears, issues}
use Rattle.agent_core.specs.declared.packet.End.{End}
use Rattle.agent_core.specs.declared.packet.End.TheVariants.{AgentEnd as agent_end, GatewayEnd as gateway_end}
use Rattle.agent_core.specs.declared.packet.Packet.{Packet}
use Rattle.agent_core.specs.declared.packet.Posted.{Posted}
use Rattle.agent_core.specs.World.{World, WorldStep, delivered, delivered_from, delivering, dialling, gateway_address, gateway_in, is_among, issuing, plain_world, posted_as, step_refusal, steps_are_taken, ticking, to_agent, to_gateway, went, world_after, world_opening}
use Rattle.world_laws.specs.Reached.{own_in}
use Rattle.world_laws.proofs.LinkLaws.{Linked, opening_linked, step_links}
use Rattle.world_laws.proofs.WorldLaws.{step_sound}
use Rattle.world_laws.proofs.ChanceLaws.{HasMessage, packed_has}
use Rattle.world_laws.proofs.LookLemmas.{one_parted}

-- this is said, at this moment
abbrev pub SaysAt : List ℕ → ℕ → Sent → Type 0
SaysAt text moment one = (text_of one.said ≡ text) × (one.moment ≡ moment)

-- this packet of the gateway's has the text, and is as old
abbrev pub HasText : List ℕ → ℕ → Posted → Type 0
HasText text moment post =
    (post.end ≡ gateway_end) × (post.packet.moment ≡ moment) × OneOf (λ (one : List ℕ). one ≡ text) (texts_of post.packet.bytes)

-- What is said at once is posted

-- the one that is so, and that it is one of them
pub one_member : {X : Type 0} (P : X → Type 0) (xs : List X) → OneOf P xs → (x : X) × P x × OneOf (λ (y : X). y ≡ x) xs
one_member P [] one = absurd one
one_member P (x ∷ xs) (inl is) = (x, is, inl refl)
one_member P (x ∷ xs) (inr one) = let on = one_member P xs one in (on.0, on.1, inr on.2)

pub says_out : (setup : Setup) (sent : List Sent) → All IsOut sent → (text : List ℕ) (moment : ℕ) → OneOf (SaysAt text moment) sent
    → OneOf (HasText text moment) (map (posted_as gateway_end (gateway_address setup)) (put_out sent))
says_out setup sent goes text moment said =
    let on = one_member (SaysAt text moment) sent said in
    let one : Sent = on.0 in
    let is : SaysAt text moment one = on.1 in
    let messages_go : All IsMessage (datagrams_of sent) =
    all_from_each IsMessage (datagrams_of sent) (each_mapped IsMessage datagram_of sent (each_from_all IsOut sent goes)) in
    one_mapped (HasText text moment) (posted_as gateway_end (gateway_address setup)) (put_out sent)
    (one_weaker (HasMessage (datagram_of one)) (λ (out : OutDatagram). HasText text moment (posted_as gateway_end (gateway_address setup) out))
    (λ out has. (refl, has.moment ∙ is.1, subst (λ (t : List ℕ). OneOf (λ (x : List ℕ). x ≡ t) (texts_of out.bytes)) is.0 has.inside)) (put_out sent)
    (packed_has (datagrams_of sent) (datagram_of one) messages_go
    (one_mapped (λ (m : OutDatagram). m ≡ datagram_of one) datagram_of sent
    (one_weaker (λ (y : Sent). y ≡ one) (λ (y : Sent). datagram_of y ≡ datagram_of one) (λ y same. ap datagram_of same) sent on.2))))

-- A step

abbrev AllPosted : Setup → World → Type 0
AllPosted setup w = (text : List ℕ) (moment : ℕ) → OneOf (SaysAt text moment) (sent_of setup w.gateway_took) → OneOf (HasText text moment) w.posted

pub sent_more : (setup : Setup) (m : Machine) (es : List GatewayEvent) (e : GatewayEvent)
    → sent_from setup m (es ++ e ∷ []) ≡ sent_from setup m es ++ (effect setup (machine_after setup m es) e).sent
unfolding sent_from machine_after
sent_more setup m [] e = append-nil (effect setup m e).sent
sent_more setup m (x ∷ es) e =
    ap (λ (rest : List Sent). (effect setup m x).sent ++ rest) (sent_more setup (effect setup m x).value es e)
    ∙ sym (append_assoc (effect setup m x).sent (sent_from setup (effect setup m x).value es) (effect setup (machine_after setup (effect setup m x).value es) e).sent)

gateway_posted : (setup : Setup) (w : World) (event : GatewayEvent) → GatewayHolds setup (own_in setup w) (gateway_in setup w) → AllPosted setup w → AllPosted setup (to_gateway setup w event)
gateway_posted setup w event holds all = λ text moment said.
    by_part text moment
    (one_parted (SaysAt text moment) (sent_of setup w.gateway_took) sent (subst (OneOf (SaysAt text moment)) (sent_more setup (opening setup) w.gateway_took event) said)) where
      sent : List Sent
      sent = (effect setup (gateway_in setup w) event).sent

      new : List Posted
      new = map (posted_as gateway_end (gateway_address setup)) (put_out sent)

      by_part : (text : List ℕ) (moment : ℕ) → OneOf (SaysAt text moment) (sent_of setup w.gateway_took) ⊎ OneOf (SaysAt text moment) sent → OneOf (HasText text moment) (w.posted ++ new)
      by_part text moment (inl before) = one_before (HasText text moment) w.posted new (all text moment before)
      by_part text moment (inr now) =
          one_behind (HasText text moment) w.posted new (says_out setup sent (event_goes setup (gateway_in setup w) event holds.fits holds.kept).sent text moment now)

agent_posted : (setup : Setup) (w : World) (event : AgentEvent) → AllPosted setup w → AllPosted setup (to_agent setup w event)
agent_posted setup w event all = λ text moment said. one_before (HasText text moment) w.posted _ (all text moment said)

delivered_posted : (setup : Setup) (w : World) (end : End) (packet : Packet) → GatewayHolds setup (own_in setup w) (gateway_in setup w) → AllPosted setup w
    → AllPosted setup (delivered_from end setup w packet)
delivered_posted setup w agent_end packet holds all = by_test (same_address packet.to (gateway_address setup)) where
  by_test : (x : Bool) → AllPosted setup (if x then to_gateway setup w (datagram packet.sender packet.bytes) else w)
  by_test true = gateway_posted setup w (datagram packet.sender packet.bytes) holds all
  by_test false = all
delivered_posted setup w gateway_end packet holds all = by_test (is_among setup.agent.route packet.to) where
  by_test : (x : Bool) → AllPosted setup (if x then to_agent setup w (hears (datagram packet.sender packet.bytes)) else w)
  by_test true = agent_posted setup w (hears (datagram packet.sender packet.bytes)) all
  by_test false = all

step_posted : (setup : Setup) (w : World) (step : WorldStep) → GatewayHolds setup (own_in setup w) (gateway_in setup w) → AllPosted setup w → AllPosted setup (went setup w step)
unfolding went
step_posted setup w (issuing verb name rest) holds all = agent_posted setup w (issues verb name rest) all
step_posted setup w (dialling line act) holds all = gateway_posted setup w (phone line act) holds all
step_posted setup w (ticking moment) holds all = agent_posted setup (to_gateway setup w (tick moment)) (hears (tick moment)) (gateway_posted setup w (tick moment) holds all)
step_posted setup w (delivering number) holds all = by_post (slice_get w.posted number) where
  by_post : (found : Option Posted) → AllPosted setup (delivered found setup w)
  by_post None = all
  by_post (Some post) = delivered_posted setup w post.end post.packet holds all

steps_posted : (setup : Setup) (w : World) (steps : List WorldStep) → Linked setup w → AllPosted setup w → steps_are_taken setup w steps ≡ true → AllPosted setup (world_after setup w steps)
unfolding steps_are_taken world_after
steps_posted setup w [] l all taken = all
steps_posted setup w (step ∷ steps) l all taken =
    let both = and_parts (is_none (step_refusal setup w step)) (steps_are_taken setup (went setup w step) steps) taken in
    let none = is_none-None (step_refusal setup w step) both.0 in
    steps_posted setup (went setup w step) steps (record { sound = step_sound setup w step l.sound none; links = step_links setup w step l none })
    (step_posted setup w step l.links.gateway all) both.1

opening_posted : (setup : Setup) → AllPosted setup world_opening
unfolding sent_from
opening_posted setup = λ text moment said. absurd said

-- all that the gateway of a world said is posted
pub said_posted : (setup : Setup) (steps : List WorldStep) → IsSetUp setup → steps_are_taken setup world_opening steps ≡ true → let w = plain_world setup steps in
    (text : List ℕ) (moment : ℕ) → OneOf (SaysAt text moment) (sent_of setup w.gateway_took) → OneOf (HasText text moment) w.posted
said_posted setup steps set_up taken = steps_posted setup world_opening steps (opening_linked setup set_up) (opening_posted setup) taken

-- What begins is said

begun_says : (b : Begun) (one : Sent) → OneOf (λ (x : Begun). x ≡ b) (begun_at one) → SaysAt b.text b.moment one
begun_says b one began = by_said one.said began where
  by_said : (said : Said) → OneOf (λ (x : Begun). x ≡ b) (begun_by one.moment said) → (text_of said ≡ b.text) × (one.moment ≡ b.moment)
  by_said (command (messages.Command verb id name params body)) (inl is) = (ap (λ (x : Begun). x.text) is, ap (λ (x : Begun). x.moment) is)
  by_said (command (messages.Command verb id name params body)) (inr none) = absurd none
  by_said (command (messages.Response code id params body)) none = absurd none
  by_said (answer response) none = absurd none
  by_said (again id text) none = absurd none
  by_said (resent message) none = absurd none
  by_said (acknowledgement response) none = absurd none

pub began_says : (b : Begun) (sent : List Sent) → OneOf (λ (x : Begun). x ≡ b) (begun_in sent) → OneOf (SaysAt b.text b.moment) sent
began_says b [] none = absurd none
began_says b (one ∷ sent) began = by_part (one_parted (λ (x : Begun). x ≡ b) (begun_at one) (begun_in sent) began) (λ there. began_says b sent there) where
  by_part : OneOf (λ (x : Begun). x ≡ b) (begun_at one) ⊎ OneOf (λ (x : Begun). x ≡ b) (begun_in sent)
      → (OneOf (λ (x : Begun). x ≡ b) (begun_in sent) → OneOf (SaysAt b.text b.moment) sent) → OneOf (SaysAt b.text b.moment) (one ∷ sent)
  by_part (inl here) on = inl (begun_says b one here)
  by_part (inr there) on = inr (on there)
