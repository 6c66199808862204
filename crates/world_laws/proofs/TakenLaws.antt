-- What the agent of a world has taken is what its firsts told; and the firsts of both ends are those that arrived.
use Rattle.std.proofs.Common.{◌≡◌, Bool, true, false, if◌then◌else◌, List, [], ◌∷◌, ◌++◌, Option, Some, None, inl, inr, refl, sym, ap, ◌∙◌, subst, append-nil, append_assoc, map, ◌+◌, ◌<◌, ℕ, ◌≤◌}
use Rattle.std.specs.Prelude.{◌⊎◌, slice_get, fold, flat_map, All, Any, is_none}
use Rattle.transmission.specs.Packing.{same_address}
use Rattle.plain_machine.specs.declared.setup.Setup.{Setup}
use Rattle.plain_machine.specs.Event.{GatewayEvent, datagram, phone, tick}
use Rattle.plain_machine.specs.Lists.{plain, sent_from, sent_of}
use Rattle.plain_machine.specs.Machine.{opening}
use Rattle.plain_machine.specs.Message.{Begun, Sent}
use Rattle.machine_laws.specs.Saying.{OneOf, begun_in}
use Rattle.machine_laws.proofs.EachLemmas.{any_from_one, one_before, one_from_any, all_from_each, each_weaker, is_none-None, one_mapped, one_unmapped, one_weaker}
use Rattle.world_laws.proofs.RoundLaws.{sent_on}
use Rattle.world_laws.proofs.OnTurns.{begun_both}
use Rattle.call_agent.specs.Hearing.{hears, AgentEvent, issues, agent_after, agent_effect}
use Rattle.agent_core.specs.declared.packet.End.{End}
use Rattle.agent_core.specs.declared.packet.End.TheVariants.{AgentEnd as agent_end, GatewayEnd as gateway_end}
use Rattle.agent_core.specs.declared.packet.Packet.{Packet}
use Rattle.agent_core.specs.declared.packet.Posted.{Posted}
use Rattle.agent_core.specs.World.{World, WorldStep, delivered, delivered_from, delivering, dialling, gateway_address, is_among, issuing, plain_world, ticking, to_agent, to_gateway, went, world_after, world_opening, agent_in, agent_of, gateway_in, step_refusal, steps_are_taken}
use Rattle.world_laws.specs.Reached.{own_in, Reached, added_by, as_arrival, executed_with, executed_of, reached, heard_in, taken_in, executed_in, key_kept, key_reached, taken_with}
use Rattle.world_laws.specs.Taking.{IsOwn}
use Rattle.world_laws.proofs.PostedFinal.{steps_more}
use Rattle.std.proofs.lemmas.List.Sums.{fold-append}
use Rattle.std.proofs.lemmas.Grind.{flat_map-append}
use Rattle.transmission.specs.Memory.{most_firsts}
use Rattle.transmission.specs.Firsts.{Kind, a_first, a_repeat, lost, kind_of, firsts_of}
use Rattle.plain_machine.specs.Arriving.{TextArrival, arrivals_at, arrivals_of, arrivals_from}
use Rattle.plain_machine.proofs.ListLaws.{arrivals_on}
use Rattle.world_laws.proofs.LinkLaws.{heard_more, HasAnswer, world_linked, answered_lately, answered_was_taken, IsLate, clock_from, Linked, step_links, opening_linked, agent_arrivals, arrives_with}
use Rattle.std.proofs.lemmas.Bool.{and_parts}
use Rattle.std.proofs.lemmas.List.Elements.{All-weaker}
use Rattle.mgcp_text.specs.declared.message.Message.TheVariants as messages
use Rattle.mgcp_text.specs.declared.message.Param.{Param}
use Rattle.mgcp_text.specs.Reading.{message}
use Rattle.transmission.specs.declared.entry.KeptFirst.{KeptFirst}
use Rattle.transmission.specs.Kept.{firsts_in}
use Rattle.plain_machine.specs.Setup.{IsSetUp}
use Rattle.machine_laws.proofs.GatewayEvents.{IsAnsweredBy}
use Rattle.call_agent.specs.Taking.{with_taken}
use Rattle.call_agent.specs.Agent.{nothing_taken, AgentMachine, FinalAnswer, agent_opening}
use Rattle.call_agent.proofs.EventLemmas.{after_on}
use Rattle.world_laws.proofs.AgentLaws.{alone}
use Rattle.world_laws.proofs.ReachedLaws.{executed_is}
use Rattle.world_laws.proofs.WorldLaws.{step_sound}
use Rattle.transmission.proofs.BareLaws.{firsts_bare}
use Rattle.world_laws.proofs.AgentFirsts.{keys_from, kept_are_executed, KeepsSo, keeps_on}

-- A step makes one event of the gateway's at most: so each beginning of these was once all of them.

-- One step

abbrev TookOne : World → World → Type 0
TookOne w next = (next.gateway_took ≡ w.gateway_took) ⊎ ((event : GatewayEvent) × (next.gateway_took ≡ w.gateway_took ++ event ∷ []))

delivered_took : (setup : Setup) (w : World) (end : End) (packet : Packet) → TookOne w (delivered_from end setup w packet)
delivered_took setup w agent_end packet = by_test (same_address packet.to (gateway_address setup)) where
  by_test : (b : Bool) → TookOne w (if b then to_gateway setup w (datagram packet.sender packet.bytes) else w)
  by_test true = inr (datagram packet.sender packet.bytes, refl)
  by_test false = inl refl
delivered_took setup w gateway_end packet = by_test (is_among setup.agent.route packet.to) where
  by_test : (b : Bool) → TookOne w (if b then to_agent setup w (hears (datagram packet.sender packet.bytes)) else w)
  by_test true = inl refl
  by_test false = inl refl

step_took : (setup : Setup) (w : World) (step : WorldStep) → TookOne w (went setup w step)
unfolding went
step_took setup w (issuing verb name rest) = inl refl
step_took setup w (dialling line act) = inr (phone line act, refl)
step_took setup w (ticking moment) = inr (tick moment, refl)
step_took setup w (delivering number) = by_post (slice_get w.posted number) where
  by_post : (found : Option Posted) → TookOne w (delivered found setup w)
  by_post None = inl refl
  by_post (Some post) = delivered_took setup w post.end post.packet

-- Whole lists

abbrev pub TookMore : World → World → Type 0
TookMore w next = (more : List GatewayEvent) × (next.gateway_took ≡ w.gateway_took ++ more)

pub took_more : (setup : Setup) (w : World) (steps : List WorldStep) → TookMore w (world_after setup w steps)
unfolding world_after
took_more setup w [] = ([], sym (append-nil w.gateway_took))
took_more setup w (step ∷ steps) = by_one (step_took setup w step) (took_more setup (went setup w step) steps) where
  by_one : TookOne w (went setup w step) → TookMore (went setup w step) (world_after setup (went setup w step) steps) → TookMore w (world_after setup (went setup w step) steps)
  by_one (inl same) rest = (rest.0, rest.1 ∙ ap (λ (x : List GatewayEvent). x ++ rest.0) same)
  by_one (inr one) rest = (one.0 ∷ rest.0, rest.1 ∙ ap (λ (x : List GatewayEvent). x ++ rest.0) one.1 ∙ append_assoc w.gateway_took (one.0 ∷ []) rest.0)

-- The world when the gateway had taken these

pub record TookThem (setup : Setup) (w : World) (steps : List WorldStep) (events : List GatewayEvent) : Type 0 where
  pub first : List WorldStep
  pub later : List WorldStep
  pub order : steps ≡ first ++ later
  pub took : (world_after setup w first).gateway_took ≡ events

pub same_front : (xs : List GatewayEvent) (ys zs : List GatewayEvent) → xs ++ ys ≡ xs ++ zs → ys ≡ zs
same_front [] ys zs same = same
same_front (x ∷ xs) ys zs same = same_front xs ys zs (tails same) where
  tails : x ∷ (xs ++ ys) ≡ x ∷ (xs ++ zs) → xs ++ ys ≡ xs ++ zs
  tails e = cc

heads : (x y : GatewayEvent) (xs ys : List GatewayEvent) → x ∷ xs ≡ y ∷ ys → x ≡ y
heads x y xs ys same = cc

-- it took these of them, and takes those
took_front : (setup : Setup) (w : World) (steps : List WorldStep) (some later : List GatewayEvent) → (world_after setup w steps).gateway_took ≡ (w.gateway_took ++ some) ++ later
    → TookThem setup w steps (w.gateway_took ++ some)
unfolding world_after
took_front setup w steps [] later took = record { first = []; later = steps; order = refl; took = sym (append-nil w.gateway_took) }
took_front setup w [] (event ∷ some) later took =
    absurd (let none : [] ≡ event ∷ (some ++ later) =
    same_front w.gateway_took [] (event ∷ (some ++ later)) (append-nil w.gateway_took ∙ took ∙ append_assoc w.gateway_took (event ∷ some) later) in cc)
took_front setup w (step ∷ steps) (event ∷ some) later took =
    by_one (step_took setup w step) (λ is. took_front setup (went setup w step) steps (event ∷ some) later is) (λ is. took_front setup (went setup w step) steps some later is) where
      next : World
      next = went setup w step

      Took : List GatewayEvent → Type 0
      Took more = (world_after setup next steps).gateway_took ≡ (next.gateway_took ++ more) ++ later → TookThem setup next steps (next.gateway_took ++ more)

      before : TookThem setup next steps (w.gateway_took ++ event ∷ some) → TookThem setup w (step ∷ steps) (w.gateway_took ++ event ∷ some)
      before t = record { first = step ∷ t.first; later = t.later; order = ap (λ (x : List WorldStep). step ∷ x) t.order; took = t.took }

      one_more : (one : GatewayEvent) → next.gateway_took ≡ w.gateway_took ++ one ∷ [] → TookMore next (world_after setup next steps) → next.gateway_took ++ some ≡ w.gateway_took ++ event ∷ some
      one_more one is more =
          ap (λ (x : List GatewayEvent). x ++ some) is ∙ append_assoc w.gateway_took (one ∷ []) some
          ∙ ap (λ (x : GatewayEvent). w.gateway_took ++ x ∷ some)
          (heads one event more.0 (some ++ later)
          (same_front w.gateway_took (one ∷ more.0) (event ∷ (some ++ later))
          (sym (append_assoc w.gateway_took (one ∷ []) more.0) ∙ ap (λ (x : List GatewayEvent). x ++ more.0) (sym is) ∙ sym more.1 ∙ took ∙ append_assoc w.gateway_took (event ∷ some) later)))

      by_one : TookOne w next → Took (event ∷ some) → Took some → TookThem setup w (step ∷ steps) (w.gateway_took ++ event ∷ some)
      by_one (inl same) on all =
          before (subst (λ (x : List GatewayEvent). TookThem setup next steps (x ++ event ∷ some)) same (on (took ∙ ap (λ (x : List GatewayEvent). (x ++ event ∷ some) ++ later) (sym same))))
      by_one (inr one) on all =
          let is : next.gateway_took ++ some ≡ w.gateway_took ++ event ∷ some = one_more one.0 one.1 (took_more setup next steps) in
          before (subst (TookThem setup next steps) is (all (took ∙ ap (λ (x : List GatewayEvent). x ++ later) (sym is))))

pub took_them : (setup : Setup) (steps : List WorldStep) (some later : List GatewayEvent) → (plain_world setup steps).gateway_took ≡ some ++ later → TookThem setup world_opening steps some
took_them setup steps some later took = took_front setup world_opening steps some later took

-- What the gateway sent of its own

own_is : (setup : Setup) (some more : List WorldStep) → (begun : List Begun) × (own_in setup (plain_world setup (some ++ more)) ≡ own_in setup (plain_world setup some) ++ begun)
own_is setup some more = (
  begun_in since,
  ap (λ (x : World). own_in setup x) (steps_more setup world_opening some more) ∙ ap (λ (x : List GatewayEvent). begun_in (sent_of setup x)) t.1
      ∙ ap begun_in (sent_on setup (opening setup) w.gateway_took t.0) ∙ begun_both (sent_of setup w.gateway_took) since,
) where
  w : World
  w = plain_world setup some

  t : TookMore w (world_after setup w more)
  t = took_more setup w more

  since : List Sent
  since = sent_from setup (plain setup w.gateway_took) t.0

pub own_stays : (setup : Setup) (some more : List WorldStep) (b : Begun) → IsOwn setup (plain_world setup some) b → IsOwn setup (plain_world setup (some ++ more)) b
own_stays setup some more b own =
    let is = own_is setup some more in
    any_from_one (λ (one : Begun). one ≡ b) (own_in setup (plain_world setup (some ++ more)))
    (subst (OneOf (λ (one : Begun). one ≡ b)) (sym is.1)
    (one_before (λ (one : Begun). one ≡ b) (own_in setup (plain_world setup some)) is.0 (one_from_any (λ (one : Begun). one ≡ b) (own_in setup (plain_world setup some)) own)))

-- What a step of a world changes: the gateway takes an event, or the agent takes more commands.

pub data Move (w w' : World) : Type 0 where
  gateway_took : (event : GatewayEvent) → w'.gateway_took ≡ w.gateway_took ++ event ∷ [] → taken_in w' ≡ taken_in w → Move w w'
  agent_took : (more : List Reached) → w'.gateway_took ≡ w.gateway_took → taken_in w' ≡ taken_in w ++ more → Move w w'

-- the firsts so far stay the first of the firsts
record Grows (firsts all : List Reached) : Type 0 where
  more : List Reached
  is : all ≡ firsts ++ more

grows_on : (firsts next all : List Reached) → Grows firsts next → Grows next all → Grows firsts all
grows_on firsts next all one two = record {
  more = one.more ++ two.more;
  is = two.is ∙ ap (λ (x : List Reached). x ++ two.more) one.is ∙ append_assoc firsts one.more two.more;
}

one_grows : (firsts : List Reached) (one : Reached) → Grows firsts (executed_with firsts one)
unfolding executed_with
one_grows firsts one = by_kind (kind_of most_firsts (map as_arrival firsts) (as_arrival one)) where
  by_kind : (kind : Kind) → Grows firsts (added_by kind firsts one)
  by_kind a_first = record { more = one ∷ []; is = refl }
  by_kind (a_repeat copied) = record { more = []; is = sym (append-nil firsts) }
  by_kind lost = record { more = []; is = sym (append-nil firsts) }

all_grow : (firsts ones : List Reached) → Grows firsts (fold executed_with firsts ones)
all_grow firsts [] = record { more = []; is = sym (append-nil firsts) }
all_grow firsts (one ∷ ones) =
    grows_on firsts (executed_with firsts one) (fold executed_with (executed_with firsts one) ones) (one_grows firsts one) (all_grow (executed_with firsts one) ones)

-- what an agent took with one event more
executed_more : (some more : List TextArrival) → executed_of (some ++ more) ≡ fold executed_with (executed_of some) (flat_map reached more)
executed_more some more =
    ap (fold executed_with []) (flat_map-append reached some more)
    ∙ fold-append executed_with [] (flat_map reached some) (flat_map reached more)

taken_hearing : (setup : Setup) (w : World) (event : GatewayEvent)
    → taken_in (to_agent setup w (hears event)) ≡ fold executed_with (taken_in w) (flat_map reached (arrivals_at (plain setup (heard_in w)).now event))
taken_hearing setup w event =
    ap (λ (events : List GatewayEvent). executed_of (arrivals_of events)) (heard_more w setup (hears event))
    ∙ ap executed_of (arrivals_on setup (opening setup) (heard_in w) event)
    ∙ executed_more (arrivals_of (heard_in w)) (arrivals_at (plain setup (heard_in w)).now event)

agent_moves : (setup : Setup) (w : World) (event : AgentEvent) → Move w (to_agent setup w event)
agent_moves setup w (issues verb name rest) =
    agent_took [] refl
    (ap (λ (events : List GatewayEvent). executed_of (arrivals_of events)) (heard_more w setup (issues verb name rest) ∙ append-nil (heard_in w)) ∙ sym (append-nil (taken_in w)))
agent_moves setup w (hears event) =
    let grows = all_grow (taken_in w) (flat_map reached (arrivals_at (plain setup (heard_in w)).now event)) in
    agent_took grows.more refl (taken_hearing setup w event ∙ grows.is)

stays : (w : World) → Move w w
stays w = agent_took [] refl (sym (append-nil (taken_in w)))

delivered_moves : (setup : Setup) (w : World) (end : End) (packet : Packet) → Move w (delivered_from end setup w packet)
delivered_moves setup w agent_end packet = by_test (same_address packet.to (gateway_address setup)) where
  by_test : (b : Bool) → Move w (if b then to_gateway setup w (datagram packet.sender packet.bytes) else w)
  by_test true = gateway_took (datagram packet.sender packet.bytes) refl refl
  by_test false = stays w
delivered_moves setup w gateway_end packet = by_test (is_among setup.agent.route packet.to) where
  by_test : (b : Bool) → Move w (if b then to_agent setup w (hears (datagram packet.sender packet.bytes)) else w)
  by_test true = agent_moves setup w (hears (datagram packet.sender packet.bytes))
  by_test false = stays w

pub step_moves : (setup : Setup) (w : World) (step : WorldStep) → Move w (went setup w step)
unfolding went
step_moves setup w (issuing verb name rest) = agent_moves setup w (issues verb name rest)
step_moves setup w (dialling line act) = gateway_took (phone line act) refl refl
step_moves setup w (ticking moment) = gateway_took (tick moment) refl (taken_hearing setup (to_gateway setup w (tick moment)) (tick moment))
step_moves setup w (delivering number) = by_post (slice_get w.posted number) where
  by_post : (found : Option Posted) → Move w (delivered found setup w)
  by_post None = stays w
  by_post (Some post) = delivered_moves setup w post.end post.packet

abbrev KeepsIn : Setup → World → Type 0
KeepsIn setup w = KeepsSo (agent_of setup) (agent_in setup w) (flat_map reached (arrivals_of (heard_in w)))

agent_keeps : (setup : Setup) (w : World) (event : AgentEvent) → clock_from 0 (heard_in w) ≡ (agent_in setup w).now → KeepsIn setup w → KeepsIn setup (to_agent setup w event)
agent_keeps setup w event time k =
    subst (λ (m : AgentMachine). KeepsSo (agent_of setup) m (flat_map reached (arrivals_of (heard_in (to_agent setup w event)))))
    (sym (after_on (agent_of setup) (agent_opening (agent_of setup)) w.agent_took (event ∷ []) ∙ alone (agent_of setup) (agent_in setup w) event))
    (subst (KeepsSo (agent_of setup) (agent_effect (agent_of setup) (agent_in setup w) event).machine)
    (sym (ap (flat_map reached) (agent_arrivals w setup event (agent_in setup w).now time) ∙ flat_map-append reached (arrivals_of (heard_in w)) _))
    (keeps_on (agent_of setup) (agent_in setup w) event (flat_map reached (arrivals_of (heard_in w))) k))

delivered_keeps : (setup : Setup) (w : World) (end : End) (packet : Packet) → clock_from 0 (heard_in w) ≡ (agent_in setup w).now → KeepsIn setup w → KeepsIn setup (delivered_from end setup w packet)
delivered_keeps setup w agent_end packet time k = by_test (same_address packet.to (gateway_address setup)) where
  by_test : (b : Bool) → KeepsIn setup (if b then to_gateway setup w (datagram packet.sender packet.bytes) else w)
  by_test true = k
  by_test false = k
delivered_keeps setup w gateway_end packet time k = by_test (is_among setup.agent.route packet.to) where
  by_test : (b : Bool) → KeepsIn setup (if b then to_agent setup w (hears (datagram packet.sender packet.bytes)) else w)
  by_test true = agent_keeps setup w (hears (datagram packet.sender packet.bytes)) time k
  by_test false = k

step_keeps : (setup : Setup) (w : World) (step : WorldStep) → clock_from 0 (heard_in w) ≡ (agent_in setup w).now → KeepsIn setup w → KeepsIn setup (went setup w step)
unfolding went
step_keeps setup w (issuing verb name rest) time k = agent_keeps setup w (issues verb name rest) time k
step_keeps setup w (dialling line act) time k = k
step_keeps setup w (ticking moment) time k = agent_keeps setup (to_gateway setup w (tick moment)) (hears (tick moment)) time k
step_keeps setup w (delivering number) time k = by_post (slice_get w.posted number) where
  by_post : (found : Option Posted) → KeepsIn setup (delivered found setup w)
  by_post None = k
  by_post (Some post) = delivered_keeps setup w post.end post.packet time k

steps_keep : (setup : Setup) (w : World) (steps : List WorldStep) → Linked setup w → steps_are_taken setup w steps ≡ true → KeepsIn setup w → KeepsIn setup (world_after setup w steps)
unfolding steps_are_taken world_after
steps_keep setup w [] l taken k = k
steps_keep setup w (step ∷ steps) l taken k =
    let both = and_parts (is_none (step_refusal setup w step)) (steps_are_taken setup (went setup w step) steps) taken in
    let none = is_none-None (step_refusal setup w step) both.0 in
    steps_keep setup (went setup w step) steps (record { sound = step_sound setup w step l.sound none; links = step_links setup w step l none }) both.1 (step_keeps setup w step l.links.time k)

opening_keeps : (setup : Setup) → KeepsIn setup world_opening
unfolding agent_after arrivals_from
opening_keeps setup = record { earlier = []; keeps = refl; same = refl; taken = refl }

world_keeps : (setup : Setup) (steps : List WorldStep) → IsSetUp setup → steps_are_taken setup world_opening steps ≡ true → KeepsIn setup (plain_world setup steps)
world_keeps setup steps set_up taken = steps_keep setup world_opening steps (opening_linked setup set_up) taken (opening_keeps setup)

-- what was taken is what the firsts told, in their order
pub taken_is : (setup : Setup) (steps : List WorldStep) → IsSetUp setup → steps_are_taken setup world_opening steps ≡ true
    → (agent_in setup (plain_world setup steps)).taken
    ≡ fold with_taken (nothing_taken (agent_of setup)) (flat_map (taken_with (agent_of setup)) (taken_in (plain_world setup steps)))
taken_is setup steps set_up taken = (world_keeps setup steps set_up taken).taken

-- the firsts that the agent keeps are those that arrived
pub agent_keys : (setup : Setup) (steps : List WorldStep) → IsSetUp setup → steps_are_taken setup world_opening steps ≡ true
    → map key_kept (firsts_in (agent_in setup (plain_world setup steps)).history) ≡ map key_reached (taken_in (plain_world setup steps))
agent_keys setup steps set_up taken =
    let w = plain_world setup steps in
    let k = world_keeps setup steps set_up taken in
    keys_from (agent_in setup w).history (firsts_of most_firsts k.earlier) (taken_in w) k.keeps
    (executed_is (flat_map reached (arrivals_of (heard_in w))) ∙ ap (firsts_of most_firsts) k.same ∙ firsts_bare most_firsts k.earlier)

-- and so are those that the gateway keeps
pub gateway_keys : (setup : Setup) (steps : List WorldStep)
    → map key_kept (firsts_in (gateway_in setup (plain_world setup steps)).history) ≡ map key_reached (executed_in (plain_world setup steps))
gateway_keys setup steps = kept_are_executed setup (plain_world setup steps).gateway_took

-- a first that is kept is one that arrived
kept_reached : (id : ℕ) (firsts : List KeptFirst) (ones : List Reached) → map key_kept firsts ≡ map key_reached ones → OneOf (λ (first : KeptFirst). first.id ≡ id) firsts
    → OneOf (λ (one : Reached). one.asked.id ≡ id) ones
kept_reached id firsts ones same one =
    one_unmapped (λ (key : ℕ × ℕ). key.0 ≡ id) key_reached ones (subst (OneOf (λ (key : ℕ × ℕ). key.0 ≡ id)) same (one_mapped (λ (key : ℕ × ℕ). key.0 ≡ id) key_kept firsts one))

-- each answer that the agent has is to a command that the gateway executed
pub answered_was_executed : (setup : Setup) (steps : List WorldStep) → IsSetUp setup → steps_are_taken setup world_opening steps ≡ true
    → All (λ (answer : FinalAnswer). Any (λ (one : Reached). one.asked.id ≡ answer.id) (executed_in (plain_world setup steps))) (agent_in setup (plain_world setup steps)).answers
answered_was_executed setup steps set_up taken =
    let w = plain_world setup steps in
    let l = world_linked setup steps set_up taken in
    all_from_each (λ (answer : FinalAnswer). Any (λ (one : Reached). one.asked.id ≡ answer.id) (executed_in w)) (agent_in setup w).answers
    (each_weaker (HasAnswer (firsts_in (gateway_in setup w).history)) (λ (answer : FinalAnswer). Any (λ (one : Reached). one.asked.id ≡ answer.id) (executed_in w))
    (λ answer has. any_from_one (λ (one : Reached). one.asked.id ≡ answer.id) (executed_in w)
    (kept_reached answer.id (firsts_in (gateway_in setup w).history) (executed_in w) (gateway_keys setup steps)
    (one_weaker (IsAnsweredBy answer.id answer.text) (λ (first : KeptFirst). first.id ≡ answer.id) (λ first is. is.0) (firsts_in (gateway_in setup w).history) has.first)))
    (agent_in setup w).answers l.links.answers)

-- each final response that the gateway heard is to a command that the agent took
pub heard_was_taken : (setup : Setup) (steps : List WorldStep) → IsSetUp setup → steps_are_taken setup world_opening steps ≡ true
    → All (λ (a : TextArrival). (code id : ℕ) (params : List Param) (body : List ℕ) → a.outcome ≡ message (messages.Response code id params body) → 200 ≤ code
    → Any (λ (one : Reached). one.asked.id ≡ id) (taken_in (plain_world setup steps))) (arrivals_of (plain_world setup steps).gateway_took)
heard_was_taken setup steps set_up taken =
    let w = plain_world setup steps in
    let firsts = firsts_in (agent_in setup w).history in
    let was = answered_was_taken setup steps set_up taken in
    All-weaker (λ (a : TextArrival). (code id : ℕ) (params : List Param) (body : List ℕ) → a.outcome ≡ message (messages.Response code id params body) → 200 ≤ code → Any (λ (first : KeptFirst). first.id ≡ id) firsts)
    (λ (a : TextArrival). (code id : ℕ) (params : List Param) (body : List ℕ) → a.outcome ≡ message (messages.Response code id params body) → 200 ≤ code → Any (λ (one : Reached). one.asked.id ≡ id) (taken_in w))
    (λ a step. λ code id params body is high. any_from_one (λ (one : Reached). one.asked.id ≡ id) (taken_in w)
    (kept_reached id firsts (taken_in w) (agent_keys setup steps set_up taken) (one_from_any (λ (first : KeptFirst). first.id ≡ id) firsts (step code id params body is high))))
    (arrivals_of w.gateway_took) was

-- which came less than 40,000 ms before
late_reached : (id moment : ℕ) (firsts : List KeptFirst) (ones : List Reached) → map key_kept firsts ≡ map key_reached ones → OneOf (IsLate id moment) firsts
    → OneOf (λ (one : Reached). (one.asked.id ≡ id) × (moment < one.asked.moment + 40000)) ones
late_reached id moment firsts ones same one =
    let P : ℕ × ℕ → Type 0 = λ key. (key.0 ≡ id) × (moment < key.1 + 40000) in
    one_unmapped P key_reached ones (subst (OneOf P) same (one_mapped P key_kept firsts one))

pub heard_lately : (setup : Setup) (steps : List WorldStep) → IsSetUp setup → steps_are_taken setup world_opening steps ≡ true
    → All (λ (a : TextArrival). (code id : ℕ) (params : List Param) (body : List ℕ) → a.outcome ≡ message (messages.Response code id params body) → 200 ≤ code
    → Any (λ (one : Reached). (one.asked.id ≡ id) × (a.moment < one.asked.moment + 40000)) (taken_in (plain_world setup steps))) (arrivals_of (plain_world setup steps).gateway_took)
heard_lately setup steps set_up taken =
    let w = plain_world setup steps in
    let firsts = firsts_in (agent_in setup w).history in
    let was = answered_lately setup steps set_up taken in
    All-weaker (λ (a : TextArrival). (code id : ℕ) (params : List Param) (body : List ℕ) → a.outcome ≡ message (messages.Response code id params body) → 200 ≤ code → Any (IsLate id a.moment) firsts)
    (λ (a : TextArrival). (code id : ℕ) (params : List Param) (body : List ℕ) → a.outcome ≡ message (messages.Response code id params body) → 200 ≤ code
    → Any (λ (one : Reached). (one.asked.id ≡ id) × (a.moment < one.asked.moment + 40000)) (taken_in w))
    (λ a step. λ code id params body is high. any_from_one (λ (one : Reached). (one.asked.id ≡ id) × (a.moment < one.asked.moment + 40000)) (taken_in w)
    (late_reached id a.moment firsts (taken_in w) (agent_keys setup steps set_up taken) (one_from_any (IsLate id a.moment) firsts (step code id params body is high))))
    (arrivals_of w.gateway_took) was

-- What the agent took stays taken.

module _ (P : Reached → Type 0) where
  one_stays : (kind : Kind) (firsts : List Reached) (one : Reached) → OneOf P firsts → OneOf P (added_by kind firsts one)
  one_stays a_first firsts one is = one_before P firsts (one ∷ []) is
  one_stays (a_repeat copied) firsts one is = is
  one_stays lost firsts one is = is

  all_stay : (arrived firsts : List Reached) → OneOf P firsts → OneOf P (fold executed_with firsts arrived)
  unfolding executed_with
  all_stay [] firsts is = is
  all_stay (one ∷ arrived) firsts is =
      all_stay arrived (executed_with firsts one) (one_stays (kind_of most_firsts (map as_arrival firsts) (as_arrival one)) firsts one is)

  more_stay : (some more : List TextArrival) → OneOf P (executed_of some) → OneOf P (executed_of (some ++ more))
  more_stay some more is =
      subst (OneOf P)
      (sym (ap (fold executed_with []) (flat_map-append reached some more) ∙ fold-append executed_with [] (flat_map reached some) (flat_map reached more)))
      (all_stay (flat_map reached more) (executed_of some) is)

  agent_stays : (setup : Setup) (w : World) (event : AgentEvent) → OneOf P (taken_in w) → OneOf P (taken_in (to_agent setup w event))
  agent_stays setup w event is =
      let now = clock_from 0 (heard_in w) in
      subst (λ (arrived : List TextArrival). OneOf P (executed_of arrived)) (sym (agent_arrivals w setup event now refl))
      (more_stay (arrivals_of (heard_in w)) (arrives_with now event) is)

  delivered_stays : (setup : Setup) (w : World) (end : End) (packet : Packet) → OneOf P (taken_in w) → OneOf P (taken_in (delivered_from end setup w packet))
  delivered_stays setup w agent_end packet is = by_test (same_address packet.to (gateway_address setup)) where
    by_test : (x : Bool) → OneOf P (taken_in (if x then to_gateway setup w (datagram packet.sender packet.bytes) else w))
    by_test true = is
    by_test false = is
  delivered_stays setup w gateway_end packet is = by_test (is_among setup.agent.route packet.to) where
    by_test : (x : Bool) → OneOf P (taken_in (if x then to_agent setup w (hears (datagram packet.sender packet.bytes)) else w))
    by_test true = agent_stays setup w (hears (datagram packet.sender packet.bytes)) is
    by_test false = is

  step_stays : (setup : Setup) (w : World) (step : WorldStep) → OneOf P (taken_in w) → OneOf P (taken_in (went setup w step))
  unfolding went
  step_stays setup w (issuing verb name rest) is = agent_stays setup w (issues verb name rest) is
  step_stays setup w (dialling line act) is = is
  step_stays setup w (ticking moment) is = agent_stays setup (to_gateway setup w (tick moment)) (hears (tick moment)) is
  step_stays setup w (delivering number) is = by_post (slice_get w.posted number) where
    by_post : (found : Option Posted) → OneOf P (taken_in (delivered found setup w))
    by_post None = is
    by_post (Some post) = delivered_stays setup w post.end post.packet is

  steps_stay : (setup : Setup) (w : World) (steps : List WorldStep) → OneOf P (taken_in w) → OneOf P (taken_in (world_after setup w steps))
  unfolding world_after
  steps_stay setup w [] is = is
  steps_stay setup w (step ∷ steps) is = steps_stay setup (went setup w step) steps (step_stays setup w step is)

pub taken_stays : (P : Reached → Type 0) (setup : Setup) (steps more : List WorldStep) → OneOf P (taken_in (plain_world setup steps)) → OneOf P (taken_in (plain_world setup (steps ++ more)))
taken_stays P setup steps more is =
    subst (λ (w : World). OneOf P (taken_in w)) (sym (steps_more setup world_opening steps more)) (steps_stay P setup (plain_world setup steps) more is)
