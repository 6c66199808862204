-- What the two ends answer, and what becomes of a world then.
use Rattle.std.proofs.Common.{◌≡◌, ℕ, ◌-◌, ◌<◌, ◌≤◌, Bool, true, false, if◌then◌else◌, List, [], ◌∷◌, ◌++◌, map, Option, Some, None, refl, sym, ap, ◌∙◌, subst, arith, inl, inr, append-nil}
use Rattle.std.specs.Prelude.{◌||◌, slice_get, nat_lt}
use Rattle.std.proofs.lemmas.Bool.Decides.{nat_tests}
use Rattle.std.specs.declared.net.socket_addr.SocketAddrV4.{SocketAddrV4}
use Rattle.endpoint_names.specs.Route.{at}
use Rattle.mg_line.specs.declared.phone.Act.{Act}
use Rattle.plain_machine.specs.declared.setup.Setup.{Setup}
use Rattle.machine_rules.specs.declared.refusal.Refusal.{Refusal}
use Rattle.plain_machine.specs.Event.{GatewayEvent, datagram, phone, tick}
use Rattle.plain_machine.specs.Happening.{effect}
use Rattle.plain_machine.specs.Packing.{put_out}
use Rattle.plain_machine.specs.Refusing.{refusal_of}
use Rattle.plain_machine.specs.Lists.{plain, outputs_from}
use Rattle.transmission.specs.declared.output.OutDatagram.{OutDatagram}
use Rattle.transmission.specs.Packing.{packed, same_address}
use Rattle.gateway_core.specs.GatewayState.{GatewayState}
use Rattle.gateway_core.specs.Stands.{Stands, Took}
use Rattle.agent_core.specs.declared.packet.End.{End}
use Rattle.agent_core.specs.declared.packet.End.TheVariants.{GatewayEnd, AgentEnd}
use Rattle.agent_core.specs.declared.packet.Posted.{Posted}
use Rattle.agent_core.specs.declared.step.StepRefusal.{StepRefusal}
use Rattle.agent_core.specs.declared.step.StepRefusal.TheVariants.{OutOfMemory, TickTooFar, ClockBack, NoSuchLine, PhoneState, NoMoreIds, BadCommand, NoSuchPacket, PacketTooOld}
use Rattle.call_agent.specs.Issuing.{IssueRefusal, no_more_ids, bad_command, issue_refusal}
use Rattle.call_agent.specs.Hearing.{AgentEvent, issues, hears, agent_effect, agent_refusal, issue_refused, hearing_refusal, plain_agent}
use Rattle.agent_core.specs.World.{World, issuing, dialling, ticking, delivering, WorldRefusal, packet_too_old, agent_of, gateway_address, posted_as, to_gateway, to_agent, is_among, delivered_from, delivered, delivery_refusal, oldest_packet, agent_refused, gateway_refused, gateway_in, now_in, step_refusal, went}
use Rattle.call_agent.specs.AgentStands.{AgentState, AgentStands, AgentTook, AgentStays, IssueEnds}
use Rattle.agent_core.specs.WorldStands.{WorldState, Keeps, Leaves, StepEnds}
use Rattle.agent_core.specs.WorldWork.{EndStops, IssueStops, Goes, Remains, Ends, HandsOver, WantsMemory}

-- the last test of several
pub or_nothing : (test : Bool) → (test || false) ≡ test
or_nothing true = refl
or_nothing false = refl

-- what was issued is refused for nothing
pub issue_done : (refusal : Option IssueRefusal) → IssueEnds refusal None → IssueStops refusal None
issue_done None e = tt
issue_done (Some no_more_ids) e = absurd cc
issue_done (Some bad_command) (inl e) = absurd cc
issue_done (Some bad_command) (inr e) = absurd cc

issue_none : (refusal : Option IssueRefusal) → IssueStops refusal None → refusal ≡ None
issue_none None e = refl
issue_none (Some no_more_ids) e = absurd cc
issue_none (Some bad_command) (inl e) = absurd cc
issue_none (Some bad_command) (inr e) = absurd cc

stop_none : (refusal : Option Refusal) → EndStops refusal None → refusal ≡ None
stop_none None e = refl
stop_none (Some refusal) e = absurd cc

-- ---- an end takes an event, and posts what it sends

-- posted at an end
pub record Posts (w w' : WorldState) (end : End) (sender : SocketAddrV4) (out : List OutDatagram) : Type 0 where
  pub posted : w'.posted ≡ w.posted ++ map (posted_as end sender) out
  pub spent : w'.spent ≡ w.spent

pub told_gateway : (setup : Setup) (w w' : WorldState) (plain : World) (event : GatewayEvent) (end : End) (sender : SocketAddrV4) (out : List OutDatagram) → w.gateway.setup ≡ setup
    → Took w.gateway (event ∷ []) w'.gateway [] out → w'.agent ≡ w.agent → end ≡ GatewayEnd → sender ≡ gateway_address w.gateway.setup → Posts w w' end sender out → Keeps w plain
    → Keeps w' (to_gateway setup plain event)
unfolding outputs_from
told_gateway setup w w' plain event end sender out is took same from by posts k =
    let sent : out ≡ put_out (effect w.gateway.setup (gateway_in w.gateway.setup plain) event).sent =
    took.sent plain.gateway_took k.gateway ∙ append-nil (put_out (effect w.gateway.setup (gateway_in w.gateway.setup plain) event).sent) in
    record {
      gateway = took.stands plain.gateway_took k.gateway;
      agent = rw same k.agent;
      posted = posts.posted
          ∙ ap (λ (x : List Posted). x ++ map (posted_as end sender) out) k.posted
          ∙ ap (λ (e : End). plain.posted ++ map (posted_as e sender) out) from
          ∙ ap (λ (a : SocketAddrV4). plain.posted ++ map (posted_as GatewayEnd a) out) by
          ∙ ap (λ (x : List OutDatagram). plain.posted ++ map (posted_as GatewayEnd (gateway_address w.gateway.setup)) x) sent
          ∙ ap (λ (s : Setup). plain.posted ++ map (posted_as GatewayEnd (gateway_address s)) (put_out (effect s (gateway_in s plain) event).sent)) is;
      who = ap (λ (a : AgentState). a.setup) same ∙ k.who ∙ sym (ap agent_of took.setup);
      fresh = posts.spent ∙ k.fresh;
    }

pub told_agent : (setup : Setup) (w w' : WorldState) (plain : World) (event : AgentEvent) (end : End) (sender : SocketAddrV4) (out : List OutDatagram) → w.gateway.setup ≡ setup
    → AgentTook w.agent event w'.agent out → w'.gateway ≡ w.gateway → end ≡ AgentEnd → sender ≡ at w.agent.setup.own 0 → Posts w w' end sender out → Keeps w plain
    → Keeps w' (to_agent setup plain event)
told_agent setup w w' plain event end sender out is took same from by posts k =
    let who : w.agent.setup ≡ agent_of setup = k.who ∙ ap agent_of is in
    record {
      gateway = rw same k.gateway;
      agent = took.stands plain.agent_took k.agent;
      posted = posts.posted
          ∙ ap (λ (x : List Posted). x ++ map (posted_as end sender) out) k.posted
          ∙ ap (λ (e : End). plain.posted ++ map (posted_as e sender) out) from
          ∙ ap (λ (a : SocketAddrV4). plain.posted ++ map (posted_as AgentEnd a) out) (by ∙ ap (λ s. at s.own 0) who)
          ∙ ap (λ (x : List OutDatagram). plain.posted ++ map (posted_as AgentEnd (at setup.agent.route 0)) x) (took.sent plain.agent_took k.agent)
          ∙ ap (λ s. plain.posted ++ map (posted_as AgentEnd (at setup.agent.route 0)) (packed (agent_effect s (plain_agent s plain.agent_took) event).sent)) who;
      who = took.setup ∙ k.who ∙ sym (ap (λ (g : GatewayState). agent_of g.setup) same);
      fresh = posts.spent ∙ k.fresh;
    }

-- ---- nothing was done

pub gateway_remains : (w w' : WorldState) → Took w.gateway [] w'.gateway [] [] → w'.agent ≡ w.agent → w'.posted ≡ w.posted → w'.spent ≡ w.spent → Remains w w'
gateway_remains w w' took agent posted spent = record {
  setup = took.setup;
  keeps = λ plain k. record {
    gateway = rw (append-nil plain.gateway_took) at (took.stands plain.gateway_took k.gateway);
    agent = rw agent k.agent;
    posted = posted ∙ k.posted;
    who = ap (λ (a : AgentState). a.setup) agent ∙ k.who ∙ sym (ap agent_of took.setup);
    fresh = spent ∙ k.fresh;
  };
}

pub agent_remains : (w w' : WorldState) → AgentStays w.agent w'.agent → w'.gateway ≡ w.gateway → w'.posted ≡ w.posted → w'.spent ≡ w.spent → Remains w w'
agent_remains w w' stays gateway posted spent = record {
  setup = ap (λ (g : GatewayState). g.setup) gateway;
  keeps = λ plain k. record {
    gateway = rw gateway k.gateway;
    agent = stays.stands plain.agent_took k.agent;
    posted = posted ∙ k.posted;
    who = stays.setup ∙ k.who ∙ sym (ap (λ (g : GatewayState). agent_of g.setup) gateway);
    fresh = spent ∙ k.fresh;
  };
}

pub remains_itself : (w : WorldState) → Remains w w
remains_itself w = record { setup = refl; keeps = λ plain k. k }

-- whatever the reason
pub leaves_so : (refusal : StepRefusal) (same : Type 0) → same → Leaves refusal (Unit {0}) same
leaves_so OutOfMemory same s = tt
leaves_so TickTooFar same s = s
leaves_so ClockBack same s = s
leaves_so NoSuchLine same s = s
leaves_so PhoneState same s = s
leaves_so NoMoreIds same s = s
leaves_so BadCommand same s = s
leaves_so NoSuchPacket same s = s
leaves_so PacketTooOld same s = s

pub leaves_on : (refusal : StepRefusal) (same other : Type 0) → (same → other) → Leaves refusal (Unit {0}) same → Leaves refusal (Unit {0}) other
leaves_on OutOfMemory same other f s = tt
leaves_on TickTooFar same other f s = f s
leaves_on ClockBack same other f s = f s
leaves_on NoSuchLine same other f s = f s
leaves_on PhoneState same other f s = f s
leaves_on NoMoreIds same other f s = f s
leaves_on BadCommand same other f s = f s
leaves_on NoSuchPacket same other f s = f s
leaves_on PacketTooOld same other f s = f s

-- ---- each step

pub issue_goes : (w w' : WorldState) (verb name rest : List ℕ) (end : End) (sender : SocketAddrV4) (out : List OutDatagram) → AgentTook w.agent (issues verb name rest) w'.agent out
    → w'.gateway ≡ w.gateway → end ≡ AgentEnd → sender ≡ at w.agent.setup.own 0 → Posts w w' end sender out
    → ((before : List AgentEvent) → AgentStands w.agent before → IssueStops (issue_refusal (plain_agent w.agent.setup before) verb name rest) None) → Goes w (issuing verb name rest) w'
unfolding step_refusal went agent_refusal
issue_goes w w' verb name rest end sender out took same from by posts ends = record {
  setup = ap (λ (g : GatewayState). g.setup) same;
  keeps = λ plain k.
      let none : issue_refusal (plain_agent w.agent.setup plain.agent_took) verb name rest ≡ None = issue_none _ (ends plain.agent_took k.agent) in (
        ap (λ s. agent_refused (issue_refused (issue_refusal (plain_agent s plain.agent_took) verb name rest))) (sym k.who) ∙ ap (λ r. agent_refused (issue_refused r)) none,
        told_agent w.gateway.setup w w' plain (issues verb name rest) end sender out refl took same from by posts k,
      );
}

issue_told : (refusal : Option IssueRefusal) (given : Option StepRefusal) → IssueStops refusal given → StepEnds (agent_refused (issue_refused refusal)) given
issue_told None given e = e
issue_told (Some no_more_ids) given e = e
issue_told (Some bad_command) given e = e

pub issue_ends : (w : WorldState) (verb name rest : List ℕ) (given : Option StepRefusal)
    → ((before : List AgentEvent) → AgentStands w.agent before → IssueStops (issue_refusal (plain_agent w.agent.setup before) verb name rest) given) → Ends w (issuing verb name rest) given
unfolding step_refusal agent_refusal
issue_ends w verb name rest given ends = λ plain k.
    subst (λ s. StepEnds (agent_refused (issue_refused (issue_refusal (plain_agent s plain.agent_took) verb name rest))) given) k.who
    (issue_told (issue_refusal (plain_agent w.agent.setup plain.agent_took) verb name rest) given (ends plain.agent_took k.agent))

gateway_told : (refusal : Option Refusal) (given : Option StepRefusal) → EndStops refusal given → StepEnds (gateway_refused refusal) given
gateway_told None given e = e
gateway_told (Some refusal) given e = e

pub dial_goes : (w w' : WorldState) (line : ℕ) (act : Act) (end : End) (sender : SocketAddrV4) (out : List OutDatagram) → Took w.gateway (phone line act ∷ []) w'.gateway [] out
    → w'.agent ≡ w.agent → end ≡ GatewayEnd → sender ≡ gateway_address w.gateway.setup → Posts w w' end sender out
    → ((before : List GatewayEvent) → Stands w.gateway before → EndStops (refusal_of (plain w.gateway.setup before) (phone line act)) None) → Goes w (dialling line act) w'
unfolding step_refusal went
dial_goes w w' line act end sender out took same from by posts ends = record {
  setup = took.setup;
  keeps = λ world k. (
    ap gateway_refused (stop_none (refusal_of (gateway_in w.gateway.setup world) (phone line act)) (ends world.gateway_took k.gateway)),
    told_gateway w.gateway.setup w w' world (phone line act) end sender out refl took same from by posts k,
  );
}

pub dial_ends : (w : WorldState) (line : ℕ) (act : Act) (given : Option StepRefusal)
    → ((before : List GatewayEvent) → Stands w.gateway before → EndStops (refusal_of (plain w.gateway.setup before) (phone line act)) given) → Ends w (dialling line act) given
unfolding step_refusal
dial_ends w line act given ends = λ world k. gateway_told (refusal_of (gateway_in w.gateway.setup world) (phone line act)) given (ends world.gateway_took k.gateway)

pub tick_goes : (w mid w' : WorldState) (moment : ℕ) (end end' : End) (sender sender' : SocketAddrV4) (out out' : List OutDatagram) → Took w.gateway (tick moment ∷ []) mid.gateway [] out
    → mid.agent ≡ w.agent → end ≡ GatewayEnd → sender ≡ gateway_address w.gateway.setup → Posts w mid end sender out → AgentTook mid.agent (hears (tick moment)) w'.agent out'
    → w'.gateway ≡ mid.gateway → end' ≡ AgentEnd → sender' ≡ at mid.agent.setup.own 0 → Posts mid w' end' sender' out'
    → ((before : List GatewayEvent) → Stands w.gateway before → EndStops (refusal_of (plain w.gateway.setup before) (tick moment)) None) → Goes w (ticking moment) w'
unfolding step_refusal went
tick_goes w mid w' moment end end' sender sender' out out' took same from by posts took' same' from' by' posts' ends = record {
  setup = ap (λ (g : GatewayState). g.setup) same' ∙ took.setup;
  keeps = λ world k. (
    ap gateway_refused (stop_none (refusal_of (gateway_in w.gateway.setup world) (tick moment)) (ends world.gateway_took k.gateway)),
    told_agent w.gateway.setup mid w' (to_gateway w.gateway.setup world (tick moment)) (hears (tick moment)) end' sender' out' took.setup took' same' from' by' posts'
        (told_gateway w.gateway.setup w mid world (tick moment) end sender out refl took same from by posts k),
  );
}

pub tick_ends : (w : WorldState) (moment : ℕ) (given : Option StepRefusal)
    → ((before : List GatewayEvent) → Stands w.gateway before → EndStops (refusal_of (plain w.gateway.setup before) (tick moment)) given) → Ends w (ticking moment) given
unfolding step_refusal
tick_ends w moment given ends = λ world k. gateway_told (refusal_of (gateway_in w.gateway.setup world) (tick moment)) given (ends world.gateway_took k.gateway)

-- the gateway took the tick, and then memory was refused
pub tick_spends : (refusal : Option Refusal) → EndStops refusal None → EndStops refusal (Some OutOfMemory)
tick_spends None e = refl
tick_spends (Some refusal) e = absurd cc

-- ---- a packet comes to an end

pub gave_gateway : (w w' : WorldState) (number : ℕ) (post : Posted) (end : End) (sender : SocketAddrV4) (out : List OutDatagram) → slice_get w.posted number ≡ Some post
    → same_address post.packet.to (gateway_address w.gateway.setup) ≡ true → Took w.gateway (datagram post.packet.sender post.packet.bytes ∷ []) w'.gateway [] out → w'.agent ≡ w.agent
    → end ≡ GatewayEnd → sender ≡ gateway_address w.gateway.setup → Posts w w' end sender out → HandsOver w number AgentEnd w'
gave_gateway w w' number post end sender out at same took agent from by posts = record {
  setup = took.setup;
  keeps = λ world other k found.
      let is : post ≡ other = one_some post other (sym at ∙ found) in
      subst (λ (p : Posted). Keeps w' (delivered_from AgentEnd w.gateway.setup world p.packet)) is
      (rw same (told_gateway w.gateway.setup w w' world (datagram post.packet.sender post.packet.bytes) end sender out refl took agent from by posts k));
} where
  or_one : Posted → Option Posted → Posted
  or_one d None = d
  or_one d (Some p) = p

  one_some : (a b : Posted) → ◌≡◌ {A = Option Posted} (Some a) (Some b) → a ≡ b
  one_some a b same = ap (or_one a) same

pub gave_agent : (w w' : WorldState) (number : ℕ) (post : Posted) (end : End) (sender : SocketAddrV4) (out : List OutDatagram) → slice_get w.posted number ≡ Some post
    → is_among w.agent.setup.own post.packet.to ≡ true → AgentTook w.agent (hears (datagram post.packet.sender post.packet.bytes)) w'.agent out → w'.gateway ≡ w.gateway
    → end ≡ AgentEnd → sender ≡ at w.agent.setup.own 0 → Posts w w' end sender out → HandsOver w number GatewayEnd w'
gave_agent w w' number post end sender out at same took gateway from by posts = record {
  setup = ap (λ (g : GatewayState). g.setup) gateway;
  keeps = λ world other k found.
      let is : post ≡ other = one_some post other (sym at ∙ found) in
      let same_as : is_among w.gateway.setup.agent.route post.packet.to ≡ true = sym (ap (λ s. is_among s.own post.packet.to) k.who) ∙ same in
      subst (λ (p : Posted). Keeps w' (delivered_from GatewayEnd w.gateway.setup world p.packet)) is
      (rw same_as (told_agent w.gateway.setup w w' world (hears (datagram post.packet.sender post.packet.bytes)) end sender out refl took gateway from by posts k));
} where
  or_one : Posted → Option Posted → Posted
  or_one d None = d
  or_one d (Some p) = p

  one_some : (a b : Posted) → ◌≡◌ {A = Option Posted} (Some a) (Some b) → a ≡ b
  one_some a b same = ap (or_one a) same

pub gave_neither : (w : WorldState) (number : ℕ) (post : Posted) (end : End) → slice_get w.posted number ≡ Some post
    → ((world : World) → Keeps w world → delivered_from end w.gateway.setup world post.packet ≡ world) → HandsOver w number end w
gave_neither w number post end at none = record {
  setup = refl;
  keeps = λ world other k found.
      let is : post ≡ other = one_some post other (sym at ∙ found) in
      subst (λ (p : Posted). Keeps w (delivered_from end w.gateway.setup world p.packet)) is (subst (Keeps w) (sym (none world k)) k);
} where
  or_one : Posted → Option Posted → Posted
  or_one d None = d
  or_one d (Some p) = p

  one_some : (a b : Posted) → ◌≡◌ {A = Option Posted} (Some a) (Some b) → a ≡ b
  one_some a b same = ap (or_one a) same

-- an event of the network is never refused

pub gateway_wants : (w : WorldState) (source : SocketAddrV4) (bytes : List ℕ) (given : Option StepRefusal)
    → ((before : List GatewayEvent) → Stands w.gateway before → EndStops (refusal_of (plain w.gateway.setup before) (datagram source bytes)) given) → WantsMemory w given
unfolding refusal_of
gateway_wants w source bytes given ends = λ world k. ends world.gateway_took k.gateway

pub agent_wants : (w : WorldState) (source : SocketAddrV4) (bytes : List ℕ) (given : Option StepRefusal)
    → ((before : List AgentEvent) → AgentStands w.agent before → EndStops (hearing_refusal (plain_agent w.agent.setup before) (datagram source bytes)) given) → WantsMemory w given
agent_wants w source bytes given ends = λ world k. ends world.agent_took k.agent

-- ---- delivery

young : (now moment : ℕ) → now - moment ≤ 10000 → nat_lt oldest_packet (now - moment) ≡ false
young now moment most = grind (arith, nat_tests, most)

old : (now moment : ℕ) → 10000 < now - moment → nat_lt oldest_packet (now - moment) ≡ true
old now moment past = grind (arith, nat_tests, past)

may_deliver : (w : WorldState) (world : World) (number now : ℕ) (post : Posted) → Keeps w world → slice_get w.posted number ≡ Some post → now ≡ now_in w.gateway.setup world
    → now - post.packet.moment ≤ 10000 → step_refusal w.gateway.setup world (delivering number) ≡ None
unfolding step_refusal
may_deliver w world number now post k at clock most =
    ap (λ (x : List Posted). delivery_refusal (slice_get x number) (now_in w.gateway.setup world)) (sym k.posted)
    ∙ ap (λ (o : Option Posted). delivery_refusal o (now_in w.gateway.setup world)) at
    ∙ ap (λ (n : ℕ). if nat_lt oldest_packet (n - post.packet.moment) then Some packet_too_old else None) (sym clock)
    ∙ ap (λ (b : Bool). if b then Some packet_too_old else None) (young now post.packet.moment most)

pub deliver_goes : (w w' : WorldState) (number now : ℕ) (post : Posted) (end : End) → slice_get w.posted number ≡ Some post → ((before : List GatewayEvent) → Stands w.gateway before → now ≡ (plain w.gateway.setup before).now)
    → now - post.packet.moment ≤ 10000 → post.end ≡ end → HandsOver w number end w' → Goes w (delivering number) w'
unfolding went
deliver_goes w w' number now post end at clock most is hands = record {
  setup = hands.setup;
  keeps = λ world k. (
    may_deliver w world number now post k at (clock world.gateway_took k.gateway) most,
    subst (λ (x : List Posted). Keeps w' (delivered (slice_get x number) w.gateway.setup world)) k.posted
        (subst (λ (o : Option Posted). Keeps w' (delivered o w.gateway.setup world)) (sym at)
        (subst (λ (e : End). Keeps w' (delivered_from e w.gateway.setup world post.packet)) (sym is) (hands.keeps world post k at))),
  );
}

pub deliver_ends : (w : WorldState) (number now : ℕ) (post : Posted) (given : Option StepRefusal) → slice_get w.posted number ≡ Some post
    → ((before : List GatewayEvent) → Stands w.gateway before → now ≡ (plain w.gateway.setup before).now) → now - post.packet.moment ≤ 10000 → WantsMemory w given → Ends w (delivering number) given
deliver_ends w number now post given at clock most wants = λ world k.
    subst (λ (r : Option WorldRefusal). StepEnds r given) (sym (may_deliver w world number now post k at (clock world.gateway_took k.gateway) most)) (wants world k)

pub no_packet : (w : WorldState) (number : ℕ) → slice_get w.posted number ≡ None → Ends w (delivering number) (Some NoSuchPacket)
unfolding step_refusal
no_packet w number none = λ world k.
    subst (λ (r : Option WorldRefusal). StepEnds r (Some NoSuchPacket))
    (sym (ap (λ (x : List Posted). delivery_refusal (slice_get x number) (now_in w.gateway.setup world)) (sym k.posted)
    ∙ ap (λ (o : Option Posted). delivery_refusal o (now_in w.gateway.setup world)) none)) refl

pub too_old : (w : WorldState) (number now : ℕ) (post : Posted) → slice_get w.posted number ≡ Some post → ((before : List GatewayEvent) → Stands w.gateway before → now ≡ (plain w.gateway.setup before).now)
    → 10000 < now - post.packet.moment → Ends w (delivering number) (Some PacketTooOld)
unfolding step_refusal
too_old w number now post at clock past = λ world k.
    subst (λ (r : Option WorldRefusal). StepEnds r (Some PacketTooOld))
    (sym (ap (λ (x : List Posted). delivery_refusal (slice_get x number) (now_in w.gateway.setup world)) (sym k.posted)
    ∙ ap (λ (o : Option Posted). delivery_refusal o (now_in w.gateway.setup world)) at
    ∙ ap (λ (n : ℕ). if nat_lt oldest_packet (n - post.packet.moment) then Some packet_too_old else None) (sym (clock world.gateway_took k.gateway))
    ∙ ap (λ (b : Bool). if b then Some packet_too_old else None) (old now post.packet.moment past))) refl

-- the agent issued it, and then memory was refused
pub issue_spends : (refusal : Option IssueRefusal) → IssueStops refusal None → IssueStops refusal (Some OutOfMemory)
issue_spends None e = refl
issue_spends (Some no_more_ids) e = absurd cc
issue_spends (Some bad_command) (inl e) = absurd cc
issue_spends (Some bad_command) (inr e) = absurd cc
