-- No provisional response comes to the agent of a world: what its gateway sends are commands, final responses and
-- acknowledgements.
use Rattle.std.proofs.Common.{◌≡◌, ℕ, ◌≤◌, Bool, true, false, if◌then◌else◌, List, [], ◌∷◌, map, Option, Some, None, inl, inr, refl, sym, ap, ◌∙◌, subst, arith}
use Rattle.std.specs.Prelude.{IfSome, nat_le, slice_get, is_none}
use Rattle.std.proofs.lemmas.Bool.{and_parts, leb-true}
use Rattle.std.specs.declared.net.socket_addr.SocketAddrV4.{SocketAddrV4}
use Rattle.mgcp_text.specs.declared.message.Param.{Param}
use Rattle.mgcp_text.specs.declared.message.Message.TheVariants as messages
use Rattle.mgcp_text.specs.Reading.{Outcome, message, no_header, bad_version, bad_body, read_text}
use Rattle.transmission.specs.declared.entry.KeptFirst.{KeptFirst}
use Rattle.transmission.specs.declared.entry.Entry.{Entry}
use Rattle.transmission.specs.Arrival.{Arrival}
use Rattle.transmission.specs.Memory.{most_firsts}
use Rattle.transmission.specs.Kept.{entries_of, firsts_in}
use Rattle.transmission.specs.Packing.{same_address}
use Rattle.transmission.specs.Texts.{texts_of}
use Rattle.plain_machine.specs.declared.setup.Setup.{Setup}
use Rattle.plain_machine.specs.Arriving.{TextArrival, arrival, arrivals_from, arrivals_of}
use Rattle.plain_machine.specs.Setup.{IsSetUp}
use Rattle.plain_machine.specs.Event.{datagram, tick}
use Rattle.machine_laws.proofs.TransactionLaws.{history_is}
use Rattle.retransmission.specs.Issued.{is_command_as}
use Rattle.plain_machine.specs.Message.{Begun}
use Rattle.machine_laws.specs.Saying.{Gives, Carries, Tells}
use Rattle.machine_laws.proofs.EachLemmas.{Each, each_at, each_both, each_weaker, is_none-None, one_of_each, one_to}
use Rattle.machine_laws.proofs.PostLogs.{WasBegun}
use Rattle.machine_laws.proofs.GatewayEvents.{IsCommand}
use Rattle.call_agent.specs.Hearing.{AgentEvent, hears, issues}
use Rattle.agent_core.specs.declared.packet.End.{End}
use Rattle.agent_core.specs.declared.packet.End.TheVariants.{AgentEnd as agent_end, GatewayEnd as gateway_end}
use Rattle.agent_core.specs.declared.packet.Packet.{Packet}
use Rattle.agent_core.specs.declared.packet.Posted.{Posted}
use Rattle.agent_core.specs.World.{World, WorldStep, delivered, delivered_from, delivering, dialling, gateway_address, gateway_in, is_among, issuing, now_in, plain_world, step_refusal, steps_are_taken, ticking, to_agent, to_gateway, went, world_after, world_opening}
use Rattle.world_laws.specs.Landing.{is_final}
use Rattle.world_laws.specs.Reached.{heard_in, own_in}
use Rattle.world_laws.proofs.LinkLaws.{GatewayPosts, GatewaySends, Linked, agent_arrivals, arrives_with, clock_from, opening_linked, step_links}
use Rattle.world_laws.proofs.WorldLaws.{step_sound}
use Rattle.world_laws.specs.Copies.{IsFinal}
use Rattle.world_laws.proofs.QuietLemmas.{IsProvisional}
use Rattle.world_laws.proofs.FinalLemmas.{HasFinal, firsts_final}

-- What the gateway says

abbrev pub NoneProvisional : Outcome → Type 0
NoneProvisional outcome = (id : ℕ) → IsProvisional id outcome → ⊥

no_command : (id code other : ℕ) (name : List ℕ) (params : List Param) (body : List ℕ) (outcome : Outcome) → is_command_as id name outcome ≡ true
    → outcome ≡ message (messages.Response code other params body) → ⊥
no_command id code other name params body outcome is reads =
    absurd (let e : is_command_as id name (message (messages.Response code other params body)) ≡ true = ap (is_command_as id name) (sym reads) ∙ is in cc)

final_high : (code : ℕ) → is_final code ≡ true → 200 ≤ code
final_high code final = leb-true 200 code (and_parts (nat_le 200 code) (nat_le code 999) final).0

response_code : Outcome → ℕ
response_code (message (messages.Response code id params body)) = code
response_code (message (messages.Command verb id name params body)) = 0
response_code no_header = 0
response_code (bad_version id) = 0
response_code (bad_body id) = 0

says_none : (log : List Begun) (firsts : List KeptFirst) (text : List ℕ) (moment : ℕ) → Each IsCommand log → Each (λ (first : KeptFirst). IsFinal first.answer) firsts
    → Tells log firsts text moment → NoneProvisional (read_text text)
unfolding response_code
says_none log firsts text moment commands finals (inl carried) = λ id put.
    one_to (λ (b : Begun). IsCommand b × Carries text moment b) ⊥
    (λ b both. no_command b.id put.0 id both.0.name put.1 put.2 (read_text b.text) both.0.reads (sym (ap read_text both.1.text) ∙ put.3)) log
    (one_of_each IsCommand (Carries text moment) log commands carried)
says_none log firsts text moment commands finals (inr (inl answered)) = λ id put.
    one_to (λ (first : KeptFirst). IsFinal first.answer × Gives text moment first) ⊥
    (λ first both.
    let high : 200 ≤ put.0 = final_high put.0 (both.0 put.0 id put.1 put.2 (ap read_text both.1.0 ∙ put.3)) in
    absurd (omega (arith, high, put.5))) firsts
    (one_of_each (λ (first : KeptFirst). IsFinal first.answer) (Gives text moment) firsts finals answered)
says_none log firsts text moment commands finals (inr (inr is)) = λ id put.
    let same : 0 ≡ put.0 = ap response_code (sym is.reads ∙ put.3) in
    absurd (omega (arith, same, put.4))

kept_final : (firsts : List Arrival) → Each HasFinal firsts → Each (λ (first : KeptFirst). IsFinal first.answer) (firsts_in (entries_of firsts))
kept_final [] all = tt
kept_final (first ∷ firsts) all = (all.0, kept_final firsts all.1)

-- all answers that the gateway of a world keeps are final
history_final : (setup : Setup) (w : World) → Each (λ (first : KeptFirst). IsFinal first.answer) (firsts_in (gateway_in setup w).history)
history_final setup w =
    subst (λ (history : List Entry). Each (λ (first : KeptFirst). IsFinal first.answer) (firsts_in history)) (sym (history_is setup w.gateway_took))
    (kept_final _ (firsts_final setup most_firsts w.gateway_took))

texts_none : (log : List Begun) (firsts : List KeptFirst) (now moment at : ℕ) (source : SocketAddrV4) (texts : List (List ℕ)) → Each IsCommand log
    → Each (λ (first : KeptFirst). IsFinal first.answer) firsts → Each (λ (text : List ℕ). Tells log firsts text moment × (moment ≤ now)) texts
    → Each (λ (a : TextArrival). NoneProvisional a.outcome) (map (arrival at source) texts)
texts_none log firsts now moment at source [] commands finals each = tt
texts_none log firsts now moment at source (text ∷ texts) commands finals each =
    (says_none log firsts text moment commands finals each.0.0, texts_none log firsts now moment at source texts commands finals each.1)

-- A step

abbrev AllNone : World → Type 0
AllNone w = Each (λ (a : TextArrival). NoneProvisional a.outcome) (arrivals_of (heard_in w))

agent_none : (setup : Setup) (w : World) (event : AgentEvent) → AllNone w
    → Each (λ (a : TextArrival). NoneProvisional a.outcome) (arrives_with (clock_from 0 (heard_in w)) event) → AllNone (to_agent setup w event)
agent_none setup w event all with' =
    let now = clock_from 0 (heard_in w) in
    subst (Each (λ (a : TextArrival). NoneProvisional a.outcome)) (sym (agent_arrivals w setup event now refl))
    (each_both (λ (a : TextArrival). NoneProvisional a.outcome) (arrivals_of (heard_in w)) (arrives_with now event) all with')

packet_none : (setup : Setup) (w : World) (packet : Packet) → Linked setup w
    → GatewayPosts (own_in setup w) (firsts_in (gateway_in setup w).history) (now_in setup w) gateway_end packet
    → Each (λ (a : TextArrival). NoneProvisional a.outcome) (map (arrival (clock_from 0 (heard_in w)) packet.sender) (texts_of packet.bytes))
packet_none setup w packet l sends =
    texts_none (own_in setup w) (firsts_in (gateway_in setup w).history) (now_in setup w) packet.moment (clock_from 0 (heard_in w)) packet.sender (texts_of packet.bytes)
    (each_weaker (WasBegun (now_in setup w)) IsCommand (λ b was. record { name = was.name; reads = was.reads }) (own_in setup w) l.links.gateway.stands.logged.begun)
    (history_final setup w) sends

delivered_none : (setup : Setup) (w : World) (end : End) (packet : Packet) → Linked setup w → AllNone w
    → GatewayPosts (own_in setup w) (firsts_in (gateway_in setup w).history) (now_in setup w) end packet → AllNone (delivered_from end setup w packet)
delivered_none setup w agent_end packet l all sends = by_test (same_address packet.to (gateway_address setup)) where
  by_test : (x : Bool) → AllNone (if x then to_gateway setup w (datagram packet.sender packet.bytes) else w)
  by_test true = all
  by_test false = all
delivered_none setup w gateway_end packet l all sends = by_test (is_among setup.agent.route packet.to) where
  by_test : (x : Bool) → AllNone (if x then to_agent setup w (hears (datagram packet.sender packet.bytes)) else w)
  by_test true = agent_none setup w (hears (datagram packet.sender packet.bytes)) all (packet_none setup w packet l sends)
  by_test false = all

step_none : (setup : Setup) (w : World) (step : WorldStep) → Linked setup w → AllNone w → AllNone (went setup w step)
unfolding went
step_none setup w (issuing verb name rest) l all = agent_none setup w (issues verb name rest) all tt
step_none setup w (dialling line act) l all = all
step_none setup w (ticking moment) l all = agent_none setup (to_gateway setup w (tick moment)) (hears (tick moment)) all tt
step_none setup w (delivering number) l all =
    by_post (slice_get w.posted number) (each_at (GatewaySends (own_in setup w) (firsts_in (gateway_in setup w).history) (now_in setup w)) w.posted number l.links.posted) where
      by_post : (found : Option Posted) → IfSome found (GatewaySends (own_in setup w) (firsts_in (gateway_in setup w).history) (now_in setup w)) → AllNone (delivered found setup w)
      by_post None sends = all
      by_post (Some post) sends = delivered_none setup w post.end post.packet l all sends

steps_none : (setup : Setup) (w : World) (steps : List WorldStep) → Linked setup w → AllNone w → steps_are_taken setup w steps ≡ true
    → AllNone (world_after setup w steps)
unfolding steps_are_taken world_after
steps_none setup w [] l all taken = all
steps_none setup w (step ∷ steps) l all taken =
    let both = and_parts (is_none (step_refusal setup w step)) (steps_are_taken setup (went setup w step) steps) taken in
    let none = is_none-None (step_refusal setup w step) both.0 in
    steps_none setup (went setup w step) steps (record { sound = step_sound setup w step l.sound none; links = step_links setup w step l none })
    (step_none setup w step l all) both.1

opening_none : AllNone world_opening
unfolding arrivals_from
opening_none = tt

-- nothing provisional comes to the agent
pub none_provisional : (setup : Setup) (steps : List WorldStep) → IsSetUp setup → steps_are_taken setup world_opening steps ≡ true
    → Each (λ (a : TextArrival). NoneProvisional a.outcome) (arrivals_of (heard_in (plain_world setup steps)))
none_provisional setup steps set_up taken = steps_none setup world_opening steps (opening_linked setup set_up) opening_none taken
