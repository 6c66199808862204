-- What an agent stands for, an event later.
use Rattle.std.proofs.Common.{◌≡◌, inl, inr, ℕ, ◌+◌, ◌<◌, ◌^◌, Bool, true, false, ◌&&◌, ◌||◌, ◌==◌, List, [], ◌∷◌, ◌++◌, map, Option, Some, None, refl, sym, ◌∙◌, ap, subst, arith, append_assoc}
use Rattle.std.specs.Prelude.{cond, find, is_none, nat_lt, nat_le, option_map, Result, Ok, Err, IfOk, OnOk, OnErr, if◌then◌else◌}
use Rattle.std.specs.Result.{result_err}
use Rattle.std.proofs.lemmas.Bool.{leb-false}
use Rattle.mg_bytes.specs.Bytes.{space}
use Rattle.endpoint_names.specs.declared.route.Route.TheVariants.{One}
use Rattle.retransmission.specs.Flight.{InFlight, sent_first}
use Rattle.call_agent.specs.Flights.{Commands, begun, settled}
use Rattle.transmission.proofs.RecallLaws.{recalls_itself, recalls_purged}
use Rattle.machine_rules.specs.declared.refusal.Refusal.{Refusal}
use Rattle.machine_rules.specs.declared.refusal.Refusal.TheVariants.{TickTooFar, ClockBack}
use Rattle.plain_machine.specs.Event.{GatewayEvent, datagram, phone, tick}
use Rattle.plain_machine.specs.Refusing.{tick_refusal, ends}
use Rattle.transmission.specs.declared.output.OutDatagram.{OutDatagram}
use Rattle.transmission.specs.Packing.{packed, packed_after}
use Rattle.transmission.specs.Texts.{texts_of}
use Rattle.transmission.specs.Transacting.{message_to}
use Rattle.call_agent.specs.declared.setup.AgentSetup.{AgentSetup}
use Rattle.retransmission.specs.declared.issued.Answered.{Answered}
use Rattle.call_agent.specs.declared.state.State.{State}
use Rattle.call_agent.specs.Agent.{AgentMachine, AgentEffect, FinalAnswer, agent_opening, answer_for, observed_on}
use Rattle.call_agent.specs.Flying.{first_flight, if_due}
use Rattle.call_agent.specs.declared.issuing.Issued.{Issued}
use Rattle.call_agent.specs.declared.issuing.IssueFault.{IssueFault}
use Rattle.call_agent.specs.Issuing.{IssueRefusal, no_more_ids, bad_command, command_text, is_good, greatest_id, issued, issue_refusal, refusal_under}
use Rattle.call_agent.specs.Hearing.{AgentEvent, issues, hears, agent_after, agent_effect, agent_refusal, event_refused, issue_refused, hearing_refusal, agent_takes_none, AgentEnds, plain_agent}
use Rattle.call_agent.specs.AgentAlike.{AgentAlike}
use Rattle.retransmission.specs.Issued.{answered_with}
use Rattle.call_agent.specs.State.{final_of, answer_in, kept_in, purged_in, AllOr, GoesOnAs}
use Rattle.call_agent.specs.AgentStands.{AgentState, agent_takes, AgentStands, AgentTook, AgentStays, GoodEnds, IssueEnds, IsAgentSound}
use Rattle.call_agent.proofs.EventLemmas.{after_on}
use Rattle.call_agent.proofs.AgentStands.{effect_alike}
use Rattle.call_agent.proofs.HearingLemmas.{texts_stay}

-- ---- lists of events

taken_on : (setup : AgentSetup) (m : AgentMachine) (es : List AgentEvent) (event : AgentEvent) → agent_takes setup m es ≡ true → agent_refusal (agent_after setup m es) event ≡ None
    → agent_takes setup m (es ++ event ∷ []) ≡ true
unfolding agent_takes agent_after
taken_on setup m [] event all none = rw none refl
taken_on setup m (e ∷ es) event all none = by_first (is_none (agent_refusal m e)) all (λ rest. taken_on setup (agent_effect setup m e).machine es event rest none) where
  by_first : (b : Bool) → (b && agent_takes setup (agent_effect setup m e).machine es) ≡ true
      → (agent_takes setup (agent_effect setup m e).machine es ≡ true → agent_takes setup (agent_effect setup m e).machine (es ++ event ∷ []) ≡ true)
      → (b && agent_takes setup (agent_effect setup m e).machine (es ++ event ∷ [])) ≡ true
  by_first true rest on = on rest
  by_first false rest on = absurd cc

-- what is kept is refused as the plain agent is
hearing_alike : (k m : AgentMachine) (event : GatewayEvent) → AgentAlike k m → hearing_refusal m event ≡ hearing_refusal k event
hearing_alike k m (datagram source bytes) a = refl
hearing_alike k m (phone line act) a = refl
hearing_alike k m (tick moment) a = ap (λ (x : AgentMachine). tick_refusal x.now moment) a.same

takes_alike : (k m : AgentMachine) (event : GatewayEvent) → AgentAlike k m → agent_takes_none m event ≡ agent_takes_none k event
takes_alike k m (datagram source bytes) a = refl
takes_alike k m (phone line act) a = refl
takes_alike k m (tick moment) a = ap (λ (x : AgentMachine). is_none (if_due moment (first_flight x.flights))) a.same

refusal_alike : (k m : AgentMachine) (event : AgentEvent) → AgentAlike k m → agent_refusal m event ≡ agent_refusal k event
unfolding agent_refusal
refusal_alike k m (issues verb name rest) a = ap (λ (x : AgentMachine). issue_refused (issue_refusal x verb name rest)) a.same
refusal_alike k m (hears event) a = ap event_refused (hearing_alike k m event a)

after_one : (setup : AgentSetup) (before : List AgentEvent) (event : AgentEvent) → plain_agent setup (before ++ event ∷ []) ≡ (agent_effect setup (plain_agent setup before) event).machine
unfolding agent_after
after_one setup before event = after_on setup (agent_opening setup) before (event ∷ [])

pub took_event : (a a' : AgentState) (event : AgentEvent) (out : List OutDatagram) → a'.setup ≡ a.setup → agent_refusal a.machine event ≡ None
    → ((m : AgentMachine) → AgentAlike a.machine m → GoesOnAs (agent_effect a.setup m event) a'.machine out) → AgentTook a event a' out
took_event a a' event out same none goes = record {
  setup = same;
  stands = λ before s. rw same (record {
    taken = taken_on a.setup (agent_opening a.setup) before event s.taken (refusal_alike a.machine (plain_agent a.setup before) event s.alike ∙ none);
    alike = rw (after_one a.setup before event) (goes (plain_agent a.setup before) s.alike).alike;
  });
  sent = λ before s. (goes (plain_agent a.setup before) s.alike).outputs;
}

pub stays_so : (a a' : AgentState) → a'.setup ≡ a.setup → ((m : AgentMachine) → AgentAlike a.machine m → AgentAlike a'.machine m) → AgentStays a a'
stays_so a a' same keeps = record { setup = same; stands = λ before s. rw same (record { taken = s.taken; alike = keeps (plain_agent a.setup before) s.alike }) }

pub stands_for_none : (a : AgentState) → a.machine ≡ agent_opening a.setup → AgentStands a []
unfolding agent_after agent_takes
stands_for_none a opens = record {
  taken = refl;
  alike = rw opens (record { same = refl; history = recalls_itself [] });
}

-- ---- issuing

pub command_is : (verb digits name line rest : List ℕ)
    → (((((verb ++ space ∷ []) ++ digits) ++ space ∷ []) ++ name) ++ line) ++ rest ≡ verb ++ ((space ∷ digits) ++ ((space ∷ name) ++ (line ++ rest)))
command_is verb digits name line rest =
    append_assoc ((((verb ++ space ∷ []) ++ digits) ++ space ∷ []) ++ name) line rest
    ∙ append_assoc (((verb ++ space ∷ []) ++ digits) ++ space ∷ []) name (line ++ rest)
    ∙ append_assoc ((verb ++ space ∷ []) ++ digits) (space ∷ []) (name ++ (line ++ rest))
    ∙ append_assoc (verb ++ space ∷ []) digits (space ∷ (name ++ (line ++ rest)))
    ∙ append_assoc verb (space ∷ []) (digits ++ space ∷ (name ++ (line ++ rest)))

issue_taken : (m : AgentMachine) (verb name rest : List ℕ) → issue_refusal m verb name rest ≡ None → agent_refusal m (issues verb name rest) ≡ None
unfolding agent_refusal
issue_taken m verb name rest none = ap issue_refused none

alone_packed : (d : OutDatagram) → d ∷ [] ≡ packed (d ∷ [])
unfolding packed_after
alone_packed d = refl

issue_took : (a a' : AgentState) (verb name rest : List ℕ) → a'.setup ≡ a.setup → issue_refusal a.machine verb name rest ≡ None
    → a'.machine ≡ (issued a.setup a.machine (command_text verb a.machine.next name rest)).machine
    → AgentTook a (issues verb name rest) a' (message_to a.setup.gateway a.machine.now (command_text verb a.machine.next name rest) ∷ [])
unfolding agent_effect
issue_took a a' verb name rest same fine goes =
    let none = issue_taken a.machine verb name rest fine in
    took_event a a' (issues verb name rest) (message_to a.setup.gateway a.machine.now (command_text verb a.machine.next name rest) ∷ []) same none
    (λ m alike.
    let both = effect_alike a.setup a.machine m (issues verb name rest) alike none in
    record {
      alike = subst (λ (k : AgentMachine). AgentAlike k (agent_effect a.setup m (issues verb name rest)).machine) (sym goes) both.alike;
      outputs = alone_packed (message_to a.setup.gateway a.machine.now (command_text verb a.machine.next name rest)) ∙ ap packed (sym both.sent);
    })

-- a text that can't be issued, or for which memory is refused, ends what was to be issued
pub good_ends : (next : ℕ) (verb name rest : List ℕ) (given : Option IssueFault) → nat_lt greatest_id next ≡ false → GoodEnds (is_good next name (command_text verb next name rest)) given
    → IssueEnds (refusal_under next verb name rest) given
good_ends next verb name rest given few ends = rw few (by_test (is_good next name (command_text verb next name rest)) ends) where
  by_test : (b : Bool) → GoodEnds b given → IssueEnds (if b then None else Some bad_command) given
  by_test true e = e
  by_test false e = e

-- what was issued is refused for nothing
no_refusal : (refusal : Option IssueRefusal) → IssueEnds refusal None → refusal ≡ None
no_refusal None e = refl
no_refusal (Some no_more_ids) e = absurd cc
no_refusal (Some bad_command) (inl e) = absurd cc
no_refusal (Some bad_command) (inr e) = absurd cc

-- the agent with these commands in the place of its own
abbrev pub agent_of : AgentSetup → State → Commands → AgentState
agent_of setup was commands = record { setup = setup; machine = kept_in (record was { flights = commands }) }

pub issues_so : (setup : AgentSetup) (was : State) (is : Commands) (verb name rest : List ℕ) (result : Result Issued IssueFault)
    → IssueEnds (refusal_under was.flights.next verb name rest) (result_err result)
    → IfOk result (λ given. given.datagram ≡ message_to setup.gateway was.clock (command_text verb was.flights.next name rest))
    → OnOk result (is ≡ begun (sent_first was.flights.next (One setup.gateway) (command_text verb was.flights.next name rest) was.clock) was.flights)
    → IfOk result (λ given. AgentTook (agent_of setup was was.flights) (issues verb name rest) (agent_of setup was is) (given.datagram ∷ []))
issues_so setup was is verb name rest (Ok given) ends says flies =
    subst (λ (d : OutDatagram). AgentTook (agent_of setup was was.flights) (issues verb name rest) (agent_of setup was is) (d ∷ [])) (sym says)
    (issue_took (agent_of setup was was.flights) (agent_of setup was is) verb name rest refl (no_refusal (refusal_under was.flights.next verb name rest) ends)
    (ap (λ (commands : Commands). kept_in (record was { flights = commands })) flies))
issues_so setup was is verb name rest (Err fault) ends says flies = tt

pub next_id_is : (a : AgentState) (before : List AgentEvent) (result : Result Issued IssueFault) → AgentStands a before → IfOk result (λ given. given.id ≡ a.machine.next)
    → IfOk result (λ given. given.id ≡ (plain_agent a.setup before).next)
next_id_is a before (Ok given) s is = is ∙ sym (ap (λ (m : AgentMachine). m.next) s.alike.same)
next_id_is a before (Err fault) s is = tt

-- no id was used: the agent is as it was
pub issue_stays : (setup : AgentSetup) (was : State) (is : Commands) (result : Result Issued IssueFault) → OnErr result (settled is ≡ settled was.flights)
    → OnErr result (AgentStays (agent_of setup was was.flights) (agent_of setup was is))
issue_stays setup was is (Ok given) same = tt
issue_stays setup was is (Err fault) same =
    stays_so (agent_of setup was was.flights) (agent_of setup was is) refl
    (λ m alike. subst (λ (k : AgentMachine). AgentAlike k m) (sym (ap (λ (commands : Commands). kept_in (record was { flights = commands })) same)) alike)

pub issue_ends : (a : AgentState) (verb name rest : List ℕ) (given : Option IssueFault) (before : List AgentEvent) → AgentStands a before
    → IssueEnds (issue_refusal a.machine verb name rest) given → IssueEnds (issue_refusal (plain_agent a.setup before) verb name rest) given
issue_ends a verb name rest given before s e =
    subst (λ (next : ℕ). IssueEnds (refusal_under next verb name rest) given) (sym (ap (λ (m : AgentMachine). m.next) s.alike.same)) e

-- ---- reading

find_final : (id : ℕ) (answers : List Answered) → answered_with id answers ≡ option_map answer_in (find (λ answer. answer.id == id) (map final_of answers))
find_final id [] = refl
find_final id (one ∷ answers) = by_test (one.id == id) (find_final id answers) where
  by_test : (b : Bool) → answered_with id answers ≡ option_map answer_in (find (λ answer. answer.id == id) (map final_of answers))
      → option_map (λ (x : Answered). x.answer) (cond b (Some one) (find (λ (x : Answered). x.id == id) answers))
      ≡ option_map answer_in (cond b (Some (final_of one)) (find (λ answer. answer.id == id) (map final_of answers)))
  by_test true rest = refl
  by_test false rest = rest

pub answered_is : (a : AgentState) (answers : List Answered) (id : ℕ) (events : List AgentEvent) → a.machine.answers ≡ map final_of answers → AgentStands a events
    → answered_with id answers ≡ option_map answer_in (answer_for id (plain_agent a.setup events))
answered_is a answers id events here s =
    find_final id answers
    ∙ ap (λ (x : List FinalAnswer). option_map answer_in (find (λ answer. answer.id == id) x)) (sym here ∙ sym (ap (λ (m : AgentMachine). m.answers) s.alike.same))

pub flights_are : (a : AgentState) (flights : List InFlight) (events : List AgentEvent) → a.machine.flights ≡ flights → AgentStands a events
    → option_map (λ flight. flight.due) (first_flight flights) ≡ option_map (λ flight. flight.due) (first_flight (plain_agent a.setup events).flights)
flights_are a flights events here s =
    ap (λ (x : List InFlight). option_map (λ flight. flight.due) (first_flight x)) (sym here ∙ sym (ap (λ (m : AgentMachine). m.flights) s.alike.same))

pub taken_is : (a : AgentState) (line : ℕ) (events : List AgentEvent) → AgentStands a events → observed_on line a.machine ≡ observed_on line (plain_agent a.setup events)
taken_is a line events s = sym (ap (observed_on line) s.alike.same)

-- ---- one event

alike_purged : (k m : AgentMachine) → AgentAlike k m → AgentAlike (purged_in k) m
alike_purged k m a = record { same = a.same; history = recalls_purged k.history m.history k.now k.now a.history (omega arith) }

hearing_purged : (k : AgentMachine) (event : GatewayEvent) → hearing_refusal (purged_in k) event ≡ hearing_refusal k event
hearing_purged k (datagram source bytes) = refl
hearing_purged k (phone line act) = refl
hearing_purged k (tick moment) = refl

none_refused : (refusal : Option Refusal) (free : Bool) → ends refusal free None → refusal ≡ None
none_refused None free e = refl
none_refused (Some refusal) free e = absurd cc

pub taken_event : (k : AgentMachine) (event : GatewayEvent) → hearing_refusal k event ≡ None → agent_refusal k (hears event) ≡ None
unfolding agent_refusal
taken_event k event none = ap event_refused none

pub step_goes : (setup : AgentSetup) (k m : AgentMachine) (is : State) (event : GatewayEvent) (result : Result (List OutDatagram) Refusal) → AgentEnds k event (result_err result)
    → AllOr (purged_in k) result (agent_effect setup (purged_in k) (hears event)) is → AgentAlike k m
    → IfOk result (λ out. GoesOnAs (agent_effect setup m (hears event)) (kept_in is) out)
step_goes setup k m is event (Ok out) e all a =
    let both = effect_alike setup (purged_in k) m (hears event) (alike_purged k m a) (taken_event (purged_in k) event (hearing_purged k event ∙ none_refused (hearing_refusal k event) (agent_takes_none k event) e)) in
    record { alike = subst (λ (x : AgentMachine). AgentAlike x (agent_effect setup m (hears event)).machine) (sym all.machine) both.alike; outputs = all.outputs ∙ ap packed (sym both.sent) }
step_goes setup k m is event (Err refusal) e all a = tt

pub step_stays : (k m : AgentMachine) (is : State) (change : AgentEffect) (result : Result (List OutDatagram) Refusal) → AllOr (purged_in k) result change is → AgentAlike k m
    → OnErr result (AgentAlike (kept_in is) m)
step_stays k m is change (Ok out) all a = tt
step_stays k m is change (Err refusal) all a = rw all (alike_purged k m a)

-- ---- what holds of every agent

below : (now moment : ℕ) → tick_refusal now moment ≡ None → moment < 2 ^ 62
below now moment none = by_test (nat_lt (now + 1000) moment) (nat_le (2 ^ 62) moment) refl none where
  by_test : (a b : Bool) → nat_le (2 ^ 62) moment ≡ b → (if a || b then Some TickTooFar else (if nat_lt moment now then Some ClockBack else None)) ≡ None → moment < 2 ^ 62
  by_test true b far same = absurd cc
  by_test false true far same = absurd cc
  by_test false false far same = leb-false (2 ^ 62) moment far

event_sound : (setup : AgentSetup) (m : AgentMachine) (event : GatewayEvent) → IsAgentSound setup m → hearing_refusal m event ≡ None → IsAgentSound setup (agent_effect setup m (hears event)).machine
unfolding agent_effect
event_sound setup m (datagram source bytes) s none =
    let stays = texts_stay setup m source (texts_of bytes) in
    record { some = rw stays.next s.some; most = rw stays.next s.most; moment = rw stays.now s.moment }
event_sound setup m (phone line act) s none = record { some = s.some; most = s.most; moment = s.moment }
event_sound setup m (tick moment) s none = record { some = s.some; most = s.most; moment = below m.now moment none }

purged_sound : (setup : AgentSetup) (m : AgentMachine) → IsAgentSound setup m → IsAgentSound setup (purged_in m)
purged_sound setup m s = record { some = s.some; most = s.most; moment = s.moment }

pub step_sound : (setup : AgentSetup) (k : AgentMachine) (is : State) (event : GatewayEvent) (result : Result (List OutDatagram) Refusal) → IsAgentSound setup k
    → AgentEnds k event (result_err result) → AllOr (purged_in k) result (agent_effect setup (purged_in k) (hears event)) is → IsAgentSound setup (kept_in is)
step_sound setup k is event (Ok out) s e all =
    rw all.machine (event_sound setup (purged_in k) event (purged_sound setup k s) (hearing_purged k event ∙ none_refused (hearing_refusal k event) (agent_takes_none k event) e))
step_sound setup k is event (Err refusal) s e all = rw all (purged_sound setup k s)

-- ---- the calls

pub stepped : (a a' : AgentState) (event : GatewayEvent) (result : Result (List OutDatagram) Refusal) → a'.setup ≡ a.setup → AgentEnds a.machine event (result_err result)
    → ((m : AgentMachine) → AgentAlike a.machine m → IfOk result (λ out. GoesOnAs (agent_effect a.setup m (hears event)) a'.machine out))
    → IfOk result (λ out. AgentTook a (hears event) a' out)
stepped a a' event (Ok out) same e goes = took_event a a' (hears event) out same (taken_event a.machine event (none_refused (hearing_refusal a.machine event) (agent_takes_none a.machine event) e)) goes
stepped a a' event (Err refusal) same e goes = tt

pub step_refused : (a a' : AgentState) (result : Result (List OutDatagram) Refusal) → a'.setup ≡ a.setup
    → ((m : AgentMachine) → AgentAlike a.machine m → OnErr result (AgentAlike a'.machine m)) → OnErr result (AgentStays a a')
step_refused a a' (Ok out) same keeps = tt
step_refused a a' (Err refusal) same keeps = stays_so a a' same keeps

pub ends_so : (a : AgentState) (event : GatewayEvent) (given : Option Refusal) (before : List AgentEvent) → AgentStands a before → AgentEnds a.machine event given
    → AgentEnds (plain_agent a.setup before) event given
ends_so a event given before s e =
    rw (hearing_alike a.machine (plain_agent a.setup before) event s.alike, takes_alike a.machine (plain_agent a.setup before) event s.alike) e
