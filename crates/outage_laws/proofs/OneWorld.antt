-- Where the gateway never starts again, a world of lives is the world of its one life.
use Rattle.std.proofs.Common.{◌≡◌, ℕ, zero, suc, ◌+◌, ◌-◌, Bool, true, false, if◌then◌else◌, List, [], ◌∷◌, ◌++◌, map, Option, Some, None, refl, sym, ap, ◌∙◌, subst, arith}
use Rattle.std.specs.Prelude.{option_map, slice_get, is_none}
use Rattle.std.proofs.lemmas.Bool.{and_parts, and_from}
use Rattle.std.proofs.lemmas.List.{map-append}
use Rattle.endpoint_names.specs.Route.{at}
use Rattle.transmission.specs.declared.output.OutDatagram.{OutDatagram}
use Rattle.transmission.specs.Packing.{packed, same_address}
use Rattle.plain_machine.specs.declared.setup.Setup.{Setup}
use Rattle.plain_machine.specs.Event.{GatewayEvent, datagram, phone, tick}
use Rattle.plain_machine.specs.Packing.{put_out}
use Rattle.plain_machine.specs.Happening.{effect}
use Rattle.plain_machine.specs.Refusing.{refusal_of, tick_refusal}
use Rattle.call_agent.specs.Hearing.{AgentEvent, agent_effect, agent_refusal, hears, issues}
use Rattle.agent_core.specs.declared.packet.End.{End}
use Rattle.agent_core.specs.declared.packet.Packet.{Packet}
use Rattle.agent_core.specs.declared.packet.Posted.{Posted}
use Rattle.agent_core.specs.declared.packet.End.TheVariants.{AgentEnd as agent_end, GatewayEnd as gateway_end}
use Rattle.agent_core.specs.World.{World, WorldStep, agent_in, agent_of, agent_refused, delivered, delivered_from, delivering, delivery_refusal, dialling, gateway_address, gateway_in, is_among, issuing, now_in, plain_world, posted_as, step_refusal, steps_are_taken, ticking, to_agent, to_gateway, went, world_after, world_opening}
use Rattle.machine_laws.proofs.EachLemmas.{is_none-None}
use Rattle.world_laws.proofs.AgentLaws.{tick_taken}
use Rattle.world_laws.proofs.WorldLaws.{Sound, gateway_taken, opening_sound, step_sound, tick_is}
use Rattle.outage_laws.specs.Lives.{Brought, Letter, LivesWorld, agent_side, handed, handed_from, lived, lived_refusal, lives_after, lives_are_taken, lives_opening, plain_lives, said_to, sent_by, step_refused, stepping, to_agent_of, to_life}

abbrev post_of : Letter → Posted
post_of letter = letter.post

-- a world of lives with one life, that of this world
abbrev one_life : Setup → World → List Brought → List Letter → LivesWorld
one_life setup v brought letters =
    record { over = []; life = record { setup = setup; start = 0; took = v.gateway_took }; agent_took = v.agent_took; brought = brought; letters = letters }

record IsOne (setup : Setup) (w : LivesWorld) (v : World) : Type 0 where
  brought : List Brought
  letters : List Letter
  is : w ≡ one_life setup v brought letters
  posted : map post_of letters ≡ v.posted

same_moment : (n : ℕ) → 0 + n ≡ n
same_moment n = omega arith

same_tick : (n : ℕ) → n - 0 ≡ n
same_tick n = omega arith

-- What is posted

life_posts : (setup : Setup) (took : List GatewayEvent) (outs : List OutDatagram)
    → map post_of (map (sent_by 0 (record { setup = setup; start = 0; took = took })) outs) ≡ map (posted_as gateway_end (gateway_address setup)) outs
life_posts setup took [] = refl
life_posts setup took (out ∷ outs) =
    ap (λ (n : ℕ). posted_as gateway_end (gateway_address setup) (record out { moment = n }) ∷ map post_of (map (sent_by 0 (record { setup = setup; start = 0; took = took })) outs)) (same_moment out.moment)
    ∙ ap (λ (x : List Posted). posted_as gateway_end (gateway_address setup) out ∷ x) (life_posts setup took outs)

agent_posts : (setup : Setup) (number : ℕ) (outs : List OutDatagram) → map post_of (map (said_to setup number) outs) ≡ map (posted_as agent_end (at setup.agent.route 0)) outs
agent_posts setup number [] = refl
agent_posts setup number (out ∷ outs) = ap (λ (x : List Posted). posted_as agent_end (at setup.agent.route 0) out ∷ x) (agent_posts setup number outs)

more_posts : (letters more : List Letter) (posted added : List Posted) → map post_of letters ≡ posted → map post_of more ≡ added → map post_of (letters ++ more) ≡ posted ++ added
more_posts letters more posted added one two =
    map-append post_of letters more ∙ ap (λ (x : List Posted). x ++ map post_of more) one ∙ ap (λ (x : List Posted). posted ++ x) two

-- An end takes an event

life_one : (setup : Setup) (v : World) (brought : List Brought) (letters : List Letter) (event : GatewayEvent) → map post_of letters ≡ v.posted
    → IsOne setup (to_life (one_life setup v brought letters) event) (to_gateway setup v event)
life_one setup v brought letters event posted =
    let outs = put_out (effect setup (gateway_in setup v) event).sent in
    record {
      brought = brought;
      letters = letters ++ map (sent_by 0 (record { setup = setup; start = 0; took = v.gateway_took })) outs;
      is = refl;
      posted = more_posts letters (map (sent_by 0 (record { setup = setup; start = 0; took = v.gateway_took })) outs) v.posted (map (posted_as gateway_end (gateway_address setup)) outs) posted
          (life_posts setup v.gateway_took outs);
    }

agent_one : (setup : Setup) (number : ℕ) (w : LivesWorld) (v : World) (event : AgentEvent) → IsOne setup w v → IsOne setup (to_agent_of setup number w event) (to_agent setup v event)
agent_one setup number w v event o = subst (λ (x : LivesWorld). IsOne setup (to_agent_of setup number x event) (to_agent setup v event)) (sym o.is) here where
  here : IsOne setup (to_agent_of setup number (one_life setup v o.brought o.letters) event) (to_agent setup v event)
  here =
      let outs = packed (agent_effect (agent_of setup) (agent_in setup v) event).sent in
      record {
        brought = (to_agent_of setup number (one_life setup v o.brought o.letters) event).brought;
        letters = o.letters ++ map (said_to setup number) outs;
        is = refl;
        posted = more_posts o.letters (map (said_to setup number) outs) v.posted (map (posted_as agent_end (at setup.agent.route 0)) outs) o.posted (agent_posts setup number outs);
      }

handed_one : (setup : Setup) (number : ℕ) (v : World) (brought : List Brought) (letters : List Letter) (end : End) (packet : Packet) → map post_of letters ≡ v.posted
    → IsOne setup (handed_from end setup number (one_life setup v brought letters) packet) (delivered_from end setup v packet)
handed_one setup number v brought letters agent_end packet posted = by_test (same_address packet.to (gateway_address setup)) where
  by_test : (b : Bool) → IsOne setup (if b then to_life (one_life setup v brought letters) (datagram packet.sender packet.bytes) else one_life setup v brought letters)
      (if b then to_gateway setup v (datagram packet.sender packet.bytes) else v)
  by_test true = life_one setup v brought letters (datagram packet.sender packet.bytes) posted
  by_test false = record { brought = brought; letters = letters; is = refl; posted = posted }
handed_one setup number v brought letters gateway_end packet posted = by_test (is_among setup.agent.route packet.to) where
  by_test : (b : Bool) → IsOne setup (if b then to_agent_of setup number (one_life setup v brought letters) (hears (datagram packet.sender packet.bytes)) else one_life setup v brought letters)
      (if b then to_agent setup v (hears (datagram packet.sender packet.bytes)) else v)
  by_test true = agent_one setup number (one_life setup v brought letters) v (hears (datagram packet.sender packet.bytes)) (record { brought = brought; letters = letters; is = refl; posted = posted })
  by_test false = record { brought = brought; letters = letters; is = refl; posted = posted }

found_mapped : (letters : List Letter) (number : ℕ) → slice_get (map post_of letters) number ≡ option_map post_of (slice_get letters number)
found_mapped [] number = refl
found_mapped (letter ∷ letters) zero = refl
found_mapped (letter ∷ letters) (suc number) = found_mapped letters number

found_one : (letters : List Letter) (posted : List Posted) (number : ℕ) → map post_of letters ≡ posted → option_map post_of (slice_get letters number) ≡ slice_get posted number
found_one letters posted number same = sym (found_mapped letters number) ∙ ap (λ (x : List Posted). slice_get x number) same

-- A step

step_one : (setup : Setup) (v : World) (brought : List Brought) (letters : List Letter) (step : WorldStep) → map post_of letters ≡ v.posted
    → IsOne setup (lived setup (one_life setup v brought letters) (stepping step)) (went setup v step)
unfolding lived went
step_one setup v brought letters (issuing verb name rest) posted =
    agent_one setup 0 (one_life setup v brought letters) v (issues verb name rest) (record { brought = brought; letters = letters; is = refl; posted = posted })
step_one setup v brought letters (dialling line act) posted = life_one setup v brought letters (phone line act) posted
step_one setup v brought letters (ticking moment) posted =
    subst (λ (t : ℕ). IsOne setup (to_agent_of setup 0 (to_life (one_life setup v brought letters) (tick t)) (hears (tick moment))) (to_agent setup (to_gateway setup v (tick moment)) (hears (tick moment)))) (sym (same_tick moment))
    (agent_one setup 0 (to_life (one_life setup v brought letters) (tick moment)) (to_gateway setup v (tick moment)) (hears (tick moment)) (life_one setup v brought letters (tick moment) posted))
step_one setup v brought letters (delivering number) posted =
    subst (λ (found : Option Posted). IsOne setup (handed (slice_get letters number) setup (one_life setup v brought letters)) (delivered found setup v)) (found_one letters v.posted number posted)
    (by_letter (slice_get letters number)) where
      by_letter : (found : Option Letter) → IsOne setup (handed found setup (one_life setup v brought letters)) (delivered (option_map post_of found) setup v)
      by_letter None = record { brought = brought; letters = letters; is = refl; posted = posted }
      by_letter (Some letter) = handed_one setup letter.life v brought letters letter.post.end letter.post.packet posted

one_on : (setup : Setup) (w : LivesWorld) (v : World) (step : WorldStep) → IsOne setup w v → IsOne setup (lived setup w (stepping step)) (went setup v step)
one_on setup w v step o =
    subst (λ (x : LivesWorld). IsOne setup (lived setup x (stepping step)) (went setup v step)) (sym o.is) (step_one setup v o.brought o.letters step o.posted)

steps_one : (setup : Setup) (w : LivesWorld) (v : World) (steps : List WorldStep) → IsOne setup w v → IsOne setup (lives_after setup w (map stepping steps)) (world_after setup v steps)
unfolding lives_after world_after
steps_one setup w v [] o = o
steps_one setup w v (step ∷ steps) o = steps_one setup (lived setup w (stepping step)) (went setup v step) steps (one_on setup w v step o)

opening_one : (setup : Setup) → IsOne setup (lives_opening setup) world_opening
opening_one setup = record { brought = []; letters = []; is = refl; posted = refl }

all_one : (setup : Setup) (steps : List WorldStep) → IsOne setup (plain_lives setup (map stepping steps)) (plain_world setup steps)
all_one setup steps = steps_one setup (lives_opening setup) world_opening steps (opening_one setup)

pub none_is_over : (setup : Setup) (steps : List WorldStep) → (plain_lives setup (map stepping steps)).over ≡ []
none_is_over setup steps = ap (λ (w : LivesWorld). w.over) (all_one setup steps).is

pub one_gateway : (setup : Setup) (steps : List WorldStep) → (plain_lives setup (map stepping steps)).life.took ≡ (plain_world setup steps).gateway_took
one_gateway setup steps = ap (λ (w : LivesWorld). w.life.took) (all_one setup steps).is

pub one_agent : (setup : Setup) (steps : List WorldStep) → (plain_lives setup (map stepping steps)).agent_took ≡ (plain_world setup steps).agent_took
one_agent setup steps = ap (λ (w : LivesWorld). w.agent_took) (all_one setup steps).is

pub one_network : (setup : Setup) (steps : List WorldStep) → (agent_side (plain_lives setup (map stepping steps))).posted ≡ (plain_world setup steps).posted
one_network setup steps = let o = all_one setup steps in ap (λ (w : LivesWorld). map post_of w.letters) o.is ∙ o.posted

-- What a world takes

refusal_one : (setup : Setup) (v : World) (brought : List Brought) (letters : List Letter) (step : WorldStep) → Sound setup v → map post_of letters ≡ v.posted → step_refusal setup v step ≡ None
    → lived_refusal setup (one_life setup v brought letters) (stepping step) ≡ None
unfolding step_refusal lived_refusal
refusal_one setup v brought letters (issuing verb name rest) s posted none = ap step_refused none
refusal_one setup v brought letters (dialling line act) s posted none = ap step_refused none
refusal_one setup v brought letters (ticking moment) s posted none =
    let may : tick_refusal (now_in setup v) moment ≡ None = tick_is (gateway_in setup v) moment (gateway_taken (refusal_of (gateway_in setup v) (tick moment)) none) in
    let taken : agent_refusal (agent_in setup v) (hears (tick moment)) ≡ None = tick_taken (agent_in setup v) moment (ap (λ (now : ℕ). tick_refusal now moment) s.clock ∙ may) in
    ap (λ refusal. step_refused (agent_refused refusal)) taken
refusal_one setup v brought letters (delivering number) s posted none =
    ap step_refused
    (ap (λ (found : Option Posted). delivery_refusal found (agent_in setup v).now) (found_one letters v.posted number posted)
    ∙ ap (λ (now : ℕ). delivery_refusal (slice_get v.posted number) now) s.clock ∙ none)

refused_one : (setup : Setup) (w : LivesWorld) (v : World) (step : WorldStep) → Sound setup v → IsOne setup w v → step_refusal setup v step ≡ None → lived_refusal setup w (stepping step) ≡ None
refused_one setup w v step s o none =
    subst (λ (x : LivesWorld). lived_refusal setup x (stepping step) ≡ None) (sym o.is) (refusal_one setup v o.brought o.letters step s o.posted none)

steps_taken : (setup : Setup) (w : LivesWorld) (v : World) (steps : List WorldStep) → Sound setup v → IsOne setup w v → steps_are_taken setup v steps ≡ true → lives_are_taken setup w (map stepping steps) ≡ true
unfolding lives_are_taken steps_are_taken
steps_taken setup w v [] s o taken = refl
steps_taken setup w v (step ∷ steps) s o taken =
    let both = and_parts (is_none (step_refusal setup v step)) (steps_are_taken setup (went setup v step) steps) taken in
    let none = is_none-None (step_refusal setup v step) both.0 in
    and_from (is_none (lived_refusal setup w (stepping step))) (lives_are_taken setup (lived setup w (stepping step)) (map stepping steps))
    (ap (λ refusal. is_none refusal) (refused_one setup w v step s o none))
    (steps_taken setup (lived setup w (stepping step)) (went setup v step) steps (step_sound setup v step s none) (one_on setup w v step o) both.1)

pub one_is_taken : (setup : Setup) (steps : List WorldStep) → steps_are_taken setup world_opening steps ≡ true → lives_are_taken setup (lives_opening setup) (map stepping steps) ≡ true
one_is_taken setup steps taken = steps_taken setup (lives_opening setup) world_opening steps (opening_sound setup) (opening_one setup) taken
