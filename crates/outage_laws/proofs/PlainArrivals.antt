-- Each response that comes to the gateway of a world is final, and not 521; and the agent took what it is to (RFC 3435, 2.4).
use Rattle.std.proofs.Common.{◌≡◌, ◌≢◌, ℕ, ◌≤◌, Bool, true, false, if◌then◌else◌, List, [], ◌∷◌, ◌++◌, Option, Some, None, refl, sym, subst, append-nil, append_assoc}
use Rattle.std.specs.Prelude.{Any, nat_le, slice_get}
use Rattle.std.proofs.lemmas.Bool.{and_parts, leb-true}
use Rattle.mgcp_text.specs.declared.message.Message.TheVariants as messages
use Rattle.mgcp_text.specs.declared.message.Param.{Param}
use Rattle.mgcp_text.specs.Reading.{Outcome, message, read_text}
use Rattle.transmission.specs.Packing.{same_address}
use Rattle.transmission.specs.Texts.{texts_of}
use Rattle.plain_machine.specs.declared.setup.Setup.{Setup}
use Rattle.plain_machine.specs.Arriving.{TextArrival, arrival, arrivals_at, arrivals_from, arrivals_of}
use Rattle.plain_machine.specs.Event.{GatewayEvent, datagram, phone, tick}
use Rattle.plain_machine.specs.Machine.{opening}
use Rattle.plain_machine.specs.Setup.{IsSetUp}
use Rattle.plain_machine.proofs.ListLaws.{arrivals_on}
use Rattle.machine_laws.specs.Saying.{OneOf}
use Rattle.machine_laws.proofs.EachLemmas.{Each, any_from_one, each_both, each_from_all, each_mapped, each_weaker, one_from_any, one_of_each, one_to}
use Rattle.call_agent.specs.Hearing.{hears}
use Rattle.agent_core.specs.declared.packet.End.{End}
use Rattle.agent_core.specs.declared.packet.End.TheVariants.{AgentEnd as agent_end, GatewayEnd as gateway_end}
use Rattle.agent_core.specs.declared.packet.Posted.{Posted}
use Rattle.agent_core.specs.World.{World, WorldStep, delivered, delivered_from, delivering, dialling, gateway_address, gateway_in, is_among, issuing, plain_world, steps_are_taken, ticking, to_agent, to_gateway, went, world_after, world_opening}
use Rattle.world_laws.specs.Landing.{is_final}
use Rattle.world_laws.specs.Reached.{Reached, taken_in}
use Rattle.world_laws.proofs.TakenLaws.{heard_was_taken}
use Rattle.world_laws.specs.Copies.{IsPlainAnswer}
use Rattle.world_laws.specs.OwnChances.{HasCome, IsResponse}
use Rattle.world_laws.proofs.LookLemmas.{each_member, each_two}
use Rattle.world_laws.proofs.PostedFinal.{posted_plain, step_more, taken_front}

abbrev pub IsPlain : Outcome → Type 0
IsPlain outcome = (code id : ℕ) (params : List Param) (body : List ℕ) → outcome ≡ message (messages.Response code id params body) → (is_final code ≡ true) × (code ≢ 521)

abbrev pub HasPlain : TextArrival → Type 0
HasPlain a = IsPlain a.outcome

abbrev pub AllPlain : World → Type 0
AllPlain w = Each HasPlain (arrivals_of w.gateway_took)

module _ (setup : Setup) (set_up : IsSetUp setup) where
  gateway_plain : (w : World) (event : GatewayEvent) → Each HasPlain (arrivals_at (gateway_in setup w).now event) → AllPlain w → AllPlain (to_gateway setup w event)
  gateway_plain w event new all =
      subst (Each HasPlain) (sym (arrivals_on setup (opening setup) w.gateway_took event))
      (each_both HasPlain (arrivals_of w.gateway_took) (arrivals_at (gateway_in setup w).now event) all new)

  pub packet_plain : (steps : List WorldStep) (number : ℕ) (post : Posted) → steps_are_taken setup world_opening steps ≡ true
      → slice_get (plain_world setup steps).posted number ≡ Some post → post.end ≡ agent_end
      → Each (λ (text : List ℕ). (id : ℕ) → IsPlainAnswer id text) (texts_of post.packet.bytes)
  packet_plain steps number post taken found from =
      let texts = texts_of post.packet.bytes in
      each_weaker (λ (text : List ℕ). OneOf (λ (one : List ℕ). one ≡ text) texts) (λ (text : List ℕ). (id : ℕ) → IsPlainAnswer id text)
      (λ text inside. posted_plain setup steps number post text set_up taken found (any_from_one (λ (one : List ℕ). one ≡ text) texts inside) from) texts (each_member texts)

  -- as they are read
  pub plain_texts : (steps : List WorldStep) (number : ℕ) (post : Posted) → steps_are_taken setup world_opening steps ≡ true
      → slice_get (plain_world setup steps).posted number ≡ Some post → post.end ≡ agent_end → Each (λ (text : List ℕ). IsPlain (read_text text)) (texts_of post.packet.bytes)
  plain_texts steps number post taken found from =
      each_weaker (λ (text : List ℕ). (id : ℕ) → IsPlainAnswer id text) (λ (text : List ℕ). IsPlain (read_text text))
      (λ text is. λ code id params body reads. is id code params body reads) (texts_of post.packet.bytes) (packet_plain steps number post taken found from)

  delivered_plain : (steps : List WorldStep) (number : ℕ) (post : Posted) → steps_are_taken setup world_opening steps ≡ true
      → slice_get (plain_world setup steps).posted number ≡ Some post → AllPlain (plain_world setup steps)
      → AllPlain (delivered_from post.end setup (plain_world setup steps) post.packet)
  delivered_plain steps number post taken found all = by_end post.end refl where
    w : World
    w = plain_world setup steps

    by_gateway : (b : Bool) → post.end ≡ agent_end → AllPlain (if b then to_gateway setup w (datagram post.packet.sender post.packet.bytes) else w)
    by_gateway true from =
        gateway_plain w (datagram post.packet.sender post.packet.bytes)
        (each_mapped HasPlain (arrival (gateway_in setup w).now post.packet.sender) (texts_of post.packet.bytes) (plain_texts steps number post taken found from)) all
    by_gateway false from = all

    by_agent : (b : Bool) → AllPlain (if b then to_agent setup w (hears (datagram post.packet.sender post.packet.bytes)) else w)
    by_agent true = all
    by_agent false = all

    by_end : (end : End) → post.end ≡ end → AllPlain (delivered_from end setup w post.packet)
    by_end agent_end from = by_gateway (same_address post.packet.to (gateway_address setup)) from
    by_end gateway_end from = by_agent (is_among setup.agent.route post.packet.to)

  step_plain : (steps : List WorldStep) (step : WorldStep) → steps_are_taken setup world_opening steps ≡ true → AllPlain (plain_world setup steps)
      → AllPlain (went setup (plain_world setup steps) step)
  unfolding went
  step_plain steps (issuing verb name rest) taken all = all
  step_plain steps (dialling line act) taken all = gateway_plain (plain_world setup steps) (phone line act) tt all
  step_plain steps (ticking moment) taken all = gateway_plain (plain_world setup steps) (tick moment) tt all
  step_plain steps (delivering number) taken all = by_post (slice_get (plain_world setup steps).posted number) refl where
    by_post : (found : Option Posted) → slice_get (plain_world setup steps).posted number ≡ found → AllPlain (delivered found setup (plain_world setup steps))
    by_post None none = all
    by_post (Some post) found = delivered_plain steps number post taken found all

  steps_plain : (before rest : List WorldStep) → steps_are_taken setup world_opening (before ++ rest) ≡ true → AllPlain (plain_world setup before)
      → AllPlain (plain_world setup (before ++ rest))
  steps_plain before [] taken all = subst (λ (s : List WorldStep). AllPlain (plain_world setup s)) (sym (append-nil before)) all
  steps_plain before (step ∷ rest) taken all =
      let order : (before ++ step ∷ []) ++ rest ≡ before ++ step ∷ rest = append_assoc before (step ∷ []) rest in
      subst (λ (s : List WorldStep). AllPlain (plain_world setup s)) order
      (steps_plain (before ++ step ∷ []) rest (subst (λ (s : List WorldStep). steps_are_taken setup world_opening s ≡ true) (sym order) taken)
      (subst AllPlain (sym (step_more setup before step)) (step_plain before step (taken_front setup world_opening before (step ∷ rest) taken) all)))

  opening_plain : AllPlain (plain_world setup [])
  unfolding world_after arrivals_from
  opening_plain = tt

  pub all_plain : (steps : List WorldStep) → steps_are_taken setup world_opening steps ≡ true → AllPlain (plain_world setup steps)
  all_plain steps taken = steps_plain [] steps taken opening_plain

  -- whatever a response that came is to, the agent took
  pub come_taken : (steps : List WorldStep) (id : ℕ) → steps_are_taken setup world_opening steps ≡ true → HasCome (plain_world setup steps) id
      → Any (λ (one : Reached). one.asked.id ≡ id) (taken_in (plain_world setup steps))
  come_taken steps id taken come =
      let w = plain_world setup steps in
      let Tells : TextArrival → Type 0 = λ a. (code other : ℕ) (params : List Param) (body : List ℕ) → a.outcome ≡ message (messages.Response code other params body) → 200 ≤ code
      → Any (λ (one : Reached). one.asked.id ≡ other) (taken_in w) in
      let Comes : TextArrival → Type 0 = λ a. IsResponse id a.outcome in
      one_to (λ (a : TextArrival). (Tells a × HasPlain a) × Comes a) (Any (λ (one : Reached). one.asked.id ≡ id) (taken_in w))
      (λ a all. all.0.0 all.1.0 id all.1.1 all.1.2 all.1.3 (high all.1.0 (all.0.1 all.1.0 id all.1.1 all.1.2 all.1.3).0)) (arrivals_of w.gateway_took)
      (one_of_each (λ (a : TextArrival). Tells a × HasPlain a) Comes (arrivals_of w.gateway_took)
      (each_two Tells HasPlain (arrivals_of w.gateway_took) (each_from_all Tells (arrivals_of w.gateway_took) (heard_was_taken setup steps set_up taken)) (all_plain steps taken))
      (one_from_any Comes (arrivals_of w.gateway_took) come)) where
        high : (code : ℕ) → is_final code ≡ true → 200 ≤ code
        high code final = leb-true 200 code (and_parts (nat_le 200 code) (nat_le code 999) final).0
