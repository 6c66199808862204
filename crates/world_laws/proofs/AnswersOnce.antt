-- The agent has one answer to a command at most: the first final response that came while it was in flight; and it stays.
use Rattle.std.proofs.Common.{◌≡◌, ◌≢◌, ℕ, zero, suc, ◌+◌, ◌*◌, ◌<◌, ◌≤◌, Bool, true, false, ◌==◌, if◌then◌else◌, List, [], ◌∷◌, ◌++◌, length, Option, Some, None, refl, sym, ap, ◌∙◌, subst, arith, append-nil, append_assoc, ◌&&◌}
use Rattle.std.specs.Prelude.{AllPairs, IfSome, find, nat_le, unwrap_or}
use Rattle.std.proofs.lemmas.Bool.{eqb-true, eqb-false, and_parts, leb-true}
use Rattle.std.proofs.lemmas.List.Quantifiers.{all_pairs_push}
use Rattle.std.specs.declared.net.socket_addr.SocketAddrV4.{SocketAddrV4}
use Rattle.mgcp_text.specs.declared.message.Param.{Param}
use Rattle.mgcp_text.specs.declared.message.Message.TheVariants as messages
use Rattle.mgcp_text.specs.Reading.{Outcome, message, no_header, bad_version, bad_body, read_text}
use Rattle.transmission.specs.Memory.{most_firsts}
use Rattle.transmission.specs.Looking.{Looked, new, repeat, confirmed, full, look_of}
use Rattle.endpoint_names.specs.declared.route.Route.TheVariants.{One}
use Rattle.retransmission.specs.declared.repeat.Repeat.{Repeat}
use Rattle.retransmission.specs.declared.repeat.Repeat.TheVariants.{Sent as SentAgain, GivenUp}
use Rattle.retransmission.specs.declared.reply.Reply.{Reply}
use Rattle.retransmission.specs.declared.reply.Reply.TheVariants.{Answered, Provisional, Stranger}
use Rattle.retransmission.specs.Flight.{InFlight, sent_first, repeat_of, repeated, reply_of, heard, reply_by}
use Rattle.retransmission.proofs.LifeLaws.{repeat_same, reply_same}
use Rattle.plain_machine.specs.Event.{datagram, phone, tick}
use Rattle.transmission.specs.Texts.{texts_of}
use Rattle.machine_laws.proofs.EachLemmas.{Each, all_from_each, each_push, each_weaker}
use Rattle.call_agent.specs.Hearing.{AgentEvent, agent_after, agent_effect, handled, handled_as, hears, issues, took_all, plain_agent}
use Rattle.call_agent.specs.declared.setup.AgentSetup.{AgentSetup}
use Rattle.call_agent.specs.Agent.{AgentMachine, FinalAnswer, agent_opening, answer_for}
use Rattle.call_agent.specs.Taking.{GatewayCommand, command_of, transacted_by, faulty_command, read_command}
use Rattle.call_agent.specs.Issuing.{command_text}
use Rattle.call_agent.specs.Flying.{first_flight, flown_on, fly_on, if_due, pass, passed, with_flight, without_flight, has_id}
use Rattle.call_agent.specs.Responding.{replied, responded, responded_to}
use Rattle.world_laws.proofs.AgentLaws.{with_each, without_each, first_is, due_is}
use Rattle.world_laws.specs.Landing.{is_final, landing_by, landing_as, landing_in, landing_with, landing_from}

abbrev pub Apart : List InFlight → Type 0
Apart [] = Unit {0}
Apart (f ∷ fs) = Each (λ (g : InFlight). f.id ≢ g.id) fs × Apart fs

apart_push : (fs : List InFlight) (added : InFlight) → Each (λ (f : InFlight). f.id ≢ added.id) fs → Apart fs → Apart (fs ++ added ∷ [])
apart_push [] added each apart = (tt, tt)
apart_push (f ∷ fs) added each apart = (each_push (λ (g : InFlight). f.id ≢ g.id) fs added apart.0 each.0, apart_push fs added each.1 apart.1)

pub apart_with : (now : InFlight) (fs : List InFlight) → Apart fs → Apart (with_flight now fs)
unfolding with_flight
apart_with now [] apart = tt
apart_with now (f ∷ fs) apart = by_test (f.id == now.id) refl (apart_with now fs apart.1) where
  step : (f.id == now.id) ≡ false → Each (λ (g : InFlight). f.id ≢ g.id) (with_flight now fs)
  step other = with_each (λ (g : InFlight). f.id ≢ g.id) now fs (eqb-false f.id now.id other) apart.0

  by_test : (b : Bool) → (f.id == now.id) ≡ b → Apart (with_flight now fs) → Apart (if b then now ∷ fs else f ∷ with_flight now fs)
  by_test true same rest = (each_weaker (λ (g : InFlight). f.id ≢ g.id) (λ (g : InFlight). now.id ≢ g.id) (λ g far. λ e. far (eqb-true f.id now.id same ∙ e)) fs apart.0, apart.1)
  by_test false other rest = (step other, rest)

pub apart_without : (id : ℕ) (fs : List InFlight) → Apart fs → Apart (without_flight id fs)
unfolding without_flight
apart_without id [] apart = tt
apart_without id (f ∷ fs) apart = by_test (f.id == id) (apart_without id fs apart.1) where
  by_test : (b : Bool) → Apart (without_flight id fs) → Apart (if b then fs else f ∷ without_flight id fs)
  by_test true rest = apart.1
  by_test false rest = (without_each (λ (g : InFlight). f.id ≢ g.id) id fs apart.0, rest)

-- the one with this id is gone
gone : (id : ℕ) (fs : List InFlight) → Apart fs → Each (λ (f : InFlight). f.id ≢ id) (without_flight id fs)
unfolding without_flight
gone id [] apart = tt
gone id (f ∷ fs) apart = by_test (f.id == id) refl (gone id fs apart.1) where
  by_test : (b : Bool) → (f.id == id) ≡ b → Each (λ (g : InFlight). g.id ≢ id) (without_flight id fs) → Each (λ (g : InFlight). g.id ≢ id) (if b then fs else f ∷ without_flight id fs)
  by_test true same rest = each_weaker (λ (g : InFlight). f.id ≢ g.id) (λ (g : InFlight). g.id ≢ id) (λ g far. λ e. far (eqb-true f.id id same ∙ sym e)) fs apart.0
  by_test false other rest = (eqb-false f.id id other, rest)

-- no flight has the id of an answer
abbrev Free : List InFlight → FinalAnswer → Type 0
Free flights one = Each (λ (f : InFlight). f.id ≢ one.id) flights

pub record Single (m : AgentMachine) : Type 0 where
  pub apart : Apart m.flights
  free : Each (Free m.flights) m.answers
  flying : Each (λ (f : InFlight). f.id < m.next) m.flights
  answered : Each (λ (a : FinalAnswer). a.id < m.next) m.answers
  once : AllPairs (λ (a b : FinalAnswer). a.id ≢ b.id) m.answers

-- other flights, where what holds of each id holds
record Changes (was is : List InFlight) : Type 1 where
  apart : Apart was → Apart is
  each : (P : ℕ → Type 0) → Each (λ (f : InFlight). P f.id) was → Each (λ (f : InFlight). P f.id) is

changed : (m : AgentMachine) (flights : List InFlight) (n : AgentMachine) → Changes m.flights flights → n.flights ≡ flights → n.answers ≡ m.answers → n.next ≡ m.next → Single m → Single n
changed m flights n c at answers next s = record {
  apart = subst Apart (sym at) (c.apart s.apart);
  free = subst (λ (x : List FinalAnswer). Each (Free n.flights) x) (sym answers) (subst (λ (x : List InFlight). Each (Free x) m.answers) (sym at)
      (each_weaker (Free m.flights) (Free flights) (λ a free. c.each (λ i. i ≢ a.id) free) m.answers s.free));
  flying = subst (λ (x : List InFlight). Each (λ (f : InFlight). f.id < n.next) x) (sym at) (subst (λ (x : ℕ). Each (λ (f : InFlight). f.id < x) flights) (sym next) (c.each (λ i. i < m.next) s.flying));
  answered = subst (λ (x : List FinalAnswer). Each (λ (a : FinalAnswer). a.id < n.next) x) (sym answers) (subst (λ (x : ℕ). Each (λ (a : FinalAnswer). a.id < x) m.answers) (sym next) s.answered);
  once = subst (AllPairs (λ (a b : FinalAnswer). a.id ≢ b.id)) (sym answers) s.once;
}

no_change : (fs : List InFlight) → Changes fs fs
no_change fs = record { apart = λ a. a; each = λ P e. e }

-- one that is in the list is replaced by one with its id
replaced : (fs : List InFlight) (was now : InFlight) → now.id ≡ was.id → ((P : InFlight → Type 0) → Each P fs → P was) → Changes fs (with_flight now fs)
replaced fs was now same at = record {
  apart = apart_with now fs;
  each = λ P each. with_each (λ (f : InFlight). P f.id) now fs (subst P (sym same) (at (λ (f : InFlight). P f.id) each)) each;
}

removed : (fs : List InFlight) (id : ℕ) → Changes fs (without_flight id fs)
removed fs id = record { apart = apart_without id fs; each = λ P each. without_each (λ (f : InFlight). P f.id) id fs each }

both_change : (a b c : List InFlight) → Changes a b → Changes b c → Changes a c
both_change a b c one two = record { apart = λ x. two.apart (one.apart x); each = λ P x. two.each P (one.each P x) }

-- falling due
passed_changes : (n : ℕ) (fs : List InFlight) (moment : ℕ) → Changes fs (passed n fs moment).flights
unfolding passed
passed_changes zero fs moment = no_change fs
passed_changes (suc n) fs moment = by_due (if_due moment (first_flight fs)) (λ P each. due_is P moment (first_flight fs) (first_is P fs each)) (λ next. passed_changes n next moment) where
  flown_changes : (flight : InFlight) → ((P : InFlight → Type 0) → Each P fs → P flight) → (repeat : Repeat) → Changes fs (flown_on repeat fs flight).flights
  flown_changes flight at SentAgain = replaced fs flight (repeated flight flight.due) (repeat_same flight flight.due).same_id at
  flown_changes flight at GivenUp = removed fs flight.id

  by_due : (found : Option InFlight) → ((P : InFlight → Type 0) → Each P fs → IfSome found (λ flight. P flight × (flight.due ≤ moment)))
      → ((next : List InFlight) → Changes next (passed n next moment).flights) → Changes fs (fly_on found fs (λ next. passed n next moment)).flights
  by_due None at on = no_change fs
  by_due (Some flight) at on =
      both_change fs (flown_on (repeat_of flight flight.due) fs flight).flights _ (flown_changes flight (λ P each. (at P each).0) (repeat_of flight flight.due)) (on (flown_on (repeat_of flight flight.due) fs flight).flights)

pass_changes : (fs : List InFlight) (moment : ℕ) → Changes fs (pass fs moment).flights
unfolding pass
pass_changes fs moment = passed_changes (8 * length fs) fs moment

-- a response

found_in : (P : InFlight → Type 0) (id : ℕ) (fs : List InFlight) → Each P fs → IfSome (find (has_id id) fs) P
found_in P id [] all = tt
found_in P id (f ∷ fs) all = by_test (has_id id f) (found_in P id fs all.1) where
  by_test : (b : Bool) → IfSome (find (has_id id) fs) P → IfSome (if b then Some f else find (has_id id) fs) P
  by_test true rest = all.0
  by_test false rest = rest

-- it goes on with one answer more, or with none
pub record GoesOn (m n : AgentMachine) : Type 0 where
  pub single : Single n
  more : List FinalAnswer
  grown : n.answers ≡ m.answers ++ more

landed : (m : AgentMachine) (flight : InFlight) (id code : ℕ) (text : List ℕ) → Single m → ((P : InFlight → Type 0) → Each P m.flights → P flight) → (reply : Reply)
    → GoesOn m (replied reply m (heard flight id code m.now) code text)
landed m flight id code text s at Answered =
    let now = heard flight id code m.now in
    let same : now.id ≡ flight.id = (reply_same flight id code m.now).same_id in
    let one : FinalAnswer = record { id = now.id; code = code; text = text } in
    let below : now.id < m.next = (let b : flight.id < m.next = at (λ (f : InFlight). f.id < m.next) s.flying in omega (arith, b, same)) in
    record {
      single = record {
        apart = apart_without now.id m.flights s.apart;
        free = each_push (Free (without_flight now.id m.flights)) m.answers one
            (each_weaker (Free m.flights) (Free (without_flight now.id m.flights)) (λ a free. without_each (λ (f : InFlight). f.id ≢ a.id) now.id m.flights free) m.answers s.free)
            (gone now.id m.flights s.apart);
        flying = without_each (λ (f : InFlight). f.id < m.next) now.id m.flights s.flying;
        answered = each_push (λ (a : FinalAnswer). a.id < m.next) m.answers one s.answered below;
        once = all_pairs_push (λ (a b : FinalAnswer). a.id ≢ b.id) m.answers one s.once
            (all_from_each (λ (a : FinalAnswer). a.id ≢ now.id) m.answers
            (each_weaker (Free m.flights) (λ (a : FinalAnswer). a.id ≢ now.id) (λ a free. λ e. at (λ (f : InFlight). f.id ≢ a.id) free (sym same ∙ sym e)) m.answers s.free));
      };
      more = one ∷ [];
      grown = refl;
    }
landed m flight id code text s at Provisional =
    record {
      single = changed m _ _ (replaced m.flights flight (heard flight id code m.now) (reply_same flight id code m.now).same_id at) refl refl refl s;
      more = [];
      grown = sym (append-nil m.answers);
    }
landed m flight id code text s at Stranger = record { single = s; more = []; grown = sym (append-nil m.answers) }

responded_on : (m : AgentMachine) (source : SocketAddrV4) (code id : ℕ) (params : List Param) (text : List ℕ) → Single m → GoesOn m (responded m source code id params text).machine
unfolding responded
responded_on m source code id params text s = by_found (find (has_id id) m.flights) (λ P each. found_in P id m.flights each) where
  by_found : (found : Option InFlight) → ((P : InFlight → Type 0) → Each P m.flights → IfSome found P) → GoesOn m (responded_to found m code id text)
  by_found None at = record { single = s; more = []; grown = sym (append-nil m.answers) }
  by_found (Some flight) at = landed m flight id code text s at (reply_of flight id code)

transacted_on : (looked : Looked) (m : AgentMachine) (source : SocketAddrV4) (command : GatewayCommand) → Single m → GoesOn m (transacted_by looked m source command).machine
transacted_on new m source command s = record { single = changed m m.flights _ (no_change m.flights) refl refl refl s; more = []; grown = sym (append-nil m.answers) }
transacted_on (repeat text) m source command s = record { single = s; more = []; grown = sym (append-nil m.answers) }
transacted_on confirmed m source command s = record { single = s; more = []; grown = sym (append-nil m.answers) }
transacted_on full m source command s = record { single = s; more = []; grown = sym (append-nil m.answers) }

text_on : (setup : AgentSetup) (m : AgentMachine) (source : SocketAddrV4) (text : List ℕ) (outcome : Outcome) → Single m → GoesOn m (handled_as (command_of setup outcome) outcome m source text).machine
text_on setup m source text no_header s = record { single = s; more = []; grown = sym (append-nil m.answers) }
text_on setup m source text (bad_version id) s = transacted_on (look_of most_firsts m.history id m.now) m source (faulty_command id 528) s
text_on setup m source text (bad_body id) s = transacted_on (look_of most_firsts m.history id m.now) m source (faulty_command id 510) s
text_on setup m source text (message (messages.Command verb id name params body)) s = transacted_on (look_of most_firsts m.history id m.now) m source (read_command setup verb id name params) s
text_on setup m source text (message (messages.Response code id params body)) s = responded_on m source code id params text s

texts_on : (setup : AgentSetup) (m : AgentMachine) (source : SocketAddrV4) (texts : List (List ℕ)) → Single m → GoesOn m (took_all setup m source texts).machine
unfolding took_all handled
texts_on setup m source [] s = record { single = s; more = []; grown = sym (append-nil m.answers) }
texts_on setup m source (text ∷ texts) s =
    let one = text_on setup m source text (read_text text) s in
    let rest = texts_on setup (handled setup m source text).machine source texts one.single in
    record { single = rest.single; more = one.more ++ rest.more; grown = rest.grown ∙ ap (λ (x : List FinalAnswer). x ++ rest.more) one.grown ∙ append_assoc m.answers one.more rest.more }

event_on : (setup : AgentSetup) (m : AgentMachine) (event : AgentEvent) → Single m → GoesOn m (agent_effect setup m event).machine
unfolding agent_effect
event_on setup m (issues verb name rest) s = record {
  single = record {
    apart = apart_push m.flights _ (each_weaker (λ (f : InFlight). f.id < m.next) (λ (f : InFlight). f.id ≢ m.next) (λ f below. λ e. absurd (omega (arith, below, e))) m.flights s.flying) s.apart;
    free = both_free m.answers s.free s.answered;
    flying = each_push (λ (f : InFlight). f.id < m.next + 1) m.flights _ (each_weaker (λ (f : InFlight). f.id < m.next) (λ (f : InFlight). f.id < m.next + 1) (λ f below. omega (arith, below)) m.flights s.flying) (omega arith);
    answered = each_weaker (λ (a : FinalAnswer). a.id < m.next) (λ (a : FinalAnswer). a.id < m.next + 1) (λ a below. omega (arith, below)) m.answers s.answered;
    once = s.once;
  };
  more = [];
  grown = sym (append-nil m.answers);
} where
  both_free : (answers : List FinalAnswer) → Each (Free m.flights) answers → Each (λ (a : FinalAnswer). a.id < m.next) answers
      → Each (Free (m.flights ++ sent_first m.next (One setup.gateway) (command_text verb m.next name rest) m.now ∷ [])) answers
  both_free [] free below = tt
  both_free (a ∷ answers) free below =
      (each_push (λ (f : InFlight). f.id ≢ a.id) m.flights _ free.0 (λ e. absurd (let b : a.id < m.next = below.0 in omega (arith, b, e))), both_free answers free.1 below.1)
event_on setup m (hears (datagram source bytes)) s = texts_on setup m source (texts_of bytes) s
event_on setup m (hears (phone line act)) s = record { single = s; more = []; grown = sym (append-nil m.answers) }
event_on setup m (hears (tick moment)) s =
    record { single = changed m (pass m.flights moment).flights _ (pass_changes m.flights moment) refl refl refl s; more = []; grown = sym (append-nil m.answers) }

pub events_on : (setup : AgentSetup) (m : AgentMachine) (events : List AgentEvent) → Single m → GoesOn m (agent_after setup m events)
unfolding agent_after
events_on setup m [] s = record { single = s; more = []; grown = sym (append-nil m.answers) }
events_on setup m (e ∷ es) s =
    let one = event_on setup m e s in
    let rest = events_on setup (agent_effect setup m e).machine es one.single in
    record { single = rest.single; more = one.more ++ rest.more; grown = rest.grown ∙ ap (λ (x : List FinalAnswer). x ++ rest.more) one.grown ∙ append_assoc m.answers one.more rest.more }

pub opening_single : (setup : AgentSetup) → Single (agent_opening setup)
opening_single setup = record { apart = tt; free = tt; flying = tt; answered = tt; once = λ i j d less none. absurd (omega arith) }

-- one answer to each command at most
pub answered_once : (setup : AgentSetup) (events : List AgentEvent) → AllPairs (λ (a b : FinalAnswer). a.id ≢ b.id) (agent_after setup (agent_opening setup) events).answers
answered_once setup events = (events_on setup (agent_opening setup) events (opening_single setup)).single.once

-- and it stays
pub answers_stay : (setup : AgentSetup) (before events : List AgentEvent)
    → (more : List FinalAnswer) × ((agent_after setup (agent_after setup (agent_opening setup) before) events).answers ≡ (agent_after setup (agent_opening setup) before).answers ++ more)
answers_stay setup before events =
    let on = events_on setup (agent_after setup (agent_opening setup) before) events (events_on setup (agent_opening setup) before (opening_single setup)).single in
    (on.more, on.grown)

answers_when : (m : AgentMachine) (source : SocketAddrV4) (code id : ℕ) (params : List Param) (text : List ℕ) (flight : InFlight) → find (has_id id) m.flights ≡ Some flight
    → reply_of flight id code ≡ Answered → (responded m source code id params text).machine.answers ≡ m.answers ++ (record { id = flight.id; code = code; text = text }) ∷ []
unfolding responded
answers_when m source code id params text flight at is =
    ap (λ (found : Option InFlight). (responded_to found m code id text).answers) at
    ∙ ap (λ (reply : Reply). (replied reply m (heard flight id code m.now) code text).answers) is
    ∙ ap (λ (i : ℕ). m.answers ++ (record { id = i; code = code; text = text }) ∷ []) (reply_same flight id code m.now).same_id

-- a final response to a command in flight is its answer
pub landed_is : (setup : AgentSetup) (m : AgentMachine) (source : SocketAddrV4) (text : List ℕ) (code id : ℕ) (params : List Param) (body : List ℕ) (flight : InFlight)
    → read_text text ≡ message (messages.Response code id params body) → find (has_id id) m.flights ≡ Some flight → reply_of flight id code ≡ Answered
    → (handled setup m source text).machine.answers ≡ m.answers ++ (record { id = flight.id; code = code; text = text }) ∷ []
unfolding handled
landed_is setup m source text code id params body flight reads at is =
    ap (λ (outcome : Outcome). (handled_as (command_of setup outcome) outcome m source text).machine.answers) reads
    ∙ answers_when m source code id params text flight at is

-- nothing else is
abbrev pub IsNoAnswer : AgentMachine → Outcome → Type 0
IsNoAnswer m outcome =
    (code id : ℕ) (params : List Param) (body : List ℕ) (flight : InFlight) → outcome ≡ message (messages.Response code id params body) → find (has_id id) m.flights ≡ Some flight → reply_of flight id code ≢ Answered

transacted_same : (looked : Looked) (m : AgentMachine) (source : SocketAddrV4) (command : GatewayCommand) → (transacted_by looked m source command).machine.answers ≡ m.answers
transacted_same new m source command = refl
transacted_same (repeat text) m source command = refl
transacted_same confirmed m source command = refl
transacted_same full m source command = refl

responded_same : (m : AgentMachine) (source : SocketAddrV4) (code id : ℕ) (params : List Param) (text : List ℕ) → ((flight : InFlight) → find (has_id id) m.flights ≡ Some flight → reply_of flight id code ≢ Answered)
    → (responded m source code id params text).machine.answers ≡ m.answers
unfolding responded
responded_same m source code id params text none = by_found (find (has_id id) m.flights) refl where
  by_reply : (flight : InFlight) → find (has_id id) m.flights ≡ Some flight → (reply : Reply) → reply_of flight id code ≡ reply → (replied reply m (heard flight id code m.now) code text).answers ≡ m.answers
  by_reply flight at Answered is = absurd (none flight at is)
  by_reply flight at Provisional is = refl
  by_reply flight at Stranger is = refl

  by_found : (found : Option InFlight) → find (has_id id) m.flights ≡ found → (responded_to found m code id text).answers ≡ m.answers
  by_found None at = refl
  by_found (Some flight) at = by_reply flight at (reply_of flight id code) refl

outcome_same : (setup : AgentSetup) (m : AgentMachine) (source : SocketAddrV4) (text : List ℕ) (outcome : Outcome) → IsNoAnswer m outcome
    → (handled_as (command_of setup outcome) outcome m source text).machine.answers ≡ m.answers
outcome_same setup m source text no_header none = refl
outcome_same setup m source text (bad_version id) none = transacted_same (look_of most_firsts m.history id m.now) m source (faulty_command id 528)
outcome_same setup m source text (bad_body id) none = transacted_same (look_of most_firsts m.history id m.now) m source (faulty_command id 510)
outcome_same setup m source text (message (messages.Command verb id name params body)) none = transacted_same (look_of most_firsts m.history id m.now) m source (read_command setup verb id name params)
outcome_same setup m source text (message (messages.Response code id params body)) none = responded_same m source code id params text (λ flight at. none code id params body flight refl at)

pub nothing_else : (setup : AgentSetup) (m : AgentMachine) (source : SocketAddrV4) (text : List ℕ) → IsNoAnswer m (read_text text) → (handled setup m source text).machine.answers ≡ m.answers
unfolding handled
nothing_else setup m source text none = outcome_same setup m source text (read_text text) none

-- The answers that an agent has are the final responses that came while their commands were in flight, in their order.

-- what is found has the id
found_has : (id : ℕ) (flights : List InFlight) (flight : InFlight) → find (has_id id) flights ≡ Some flight → (flight.id == id) ≡ true
found_has id [] flight at = absurd cc
found_has id (f ∷ fs) flight at = by_test (has_id id f) refl (found_has id fs flight) at where
  by_test : (b : Bool) → has_id id f ≡ b → (find (has_id id) fs ≡ Some flight → (flight.id == id) ≡ true)
      → (if b then Some f else find (has_id id) fs) ≡ Some flight → (flight.id == id) ≡ true
  by_test true has rest same = ap (has_id id) (sym (ap (λ (o : Option InFlight). unwrap_or o f) same)) ∙ has
  by_test false other rest same = rest same

-- a response to a flight with its id, by its code: provisional, final, or neither
replied_answers : (m : AgentMachine) (flight : InFlight) (id code : ℕ) (text : List ℕ) → (flight.id == id) ≡ true
    → (replied (reply_of flight id code) m (heard flight id code m.now) code text).answers ≡ m.answers ++ landing_by (Some flight) id code text
replied_answers m flight id code text has =
    ap (λ (b : Bool). (replied (if b then reply_by code else Stranger) m (heard flight id code m.now) code text).answers) has
    ∙ by_code (nat_le 100 code && nat_le code 199) (is_final code) refl refl where
      one : FinalAnswer
      one = record { id = id; code = code; text = text }

      same : (heard flight id code m.now).id ≡ id
      same = (reply_same flight id code m.now).same_id ∙ eqb-true flight.id id has

      by_code : (a b : Bool) → (nat_le 100 code && nat_le code 199) ≡ a → is_final code ≡ b
          → (replied (if a then Provisional else (if b then Answered else Stranger)) m (heard flight id code m.now) code text).answers ≡ m.answers ++ (if b then one ∷ [] else [])
      by_code true true low high =
          absurd (omega (arith, leb-true code 199 (and_parts (nat_le 100 code) (nat_le code 199) low).1, leb-true 200 code (and_parts (nat_le 200 code) (nat_le code 999) high).0))
      by_code true false low high = sym (append-nil m.answers)
      by_code false true low high = ap (λ (i : ℕ). m.answers ++ (record { id = i; code = code; text = text }) ∷ []) same
      by_code false false low high = sym (append-nil m.answers)

responded_answers : (m : AgentMachine) (source : SocketAddrV4) (code id : ℕ) (params : List Param) (text : List ℕ)
    → (responded m source code id params text).machine.answers ≡ m.answers ++ landing_by (find (has_id id) m.flights) id code text
unfolding responded
responded_answers m source code id params text = by_found (find (has_id id) m.flights) (found_has id m.flights) where
  by_found : (found : Option InFlight) → ((flight : InFlight) → found ≡ Some flight → (flight.id == id) ≡ true)
      → (responded_to found m code id text).answers ≡ m.answers ++ landing_by found id code text
  by_found None has = sym (append-nil m.answers)
  by_found (Some flight) has = replied_answers m flight id code text (has flight refl)

transacted_answers : (looked : Looked) (m : AgentMachine) (source : SocketAddrV4) (command : GatewayCommand)
    → (transacted_by looked m source command).machine.answers ≡ m.answers ++ []
transacted_answers new m source command = sym (append-nil m.answers)
transacted_answers (repeat text) m source command = sym (append-nil m.answers)
transacted_answers confirmed m source command = sym (append-nil m.answers)
transacted_answers full m source command = sym (append-nil m.answers)

text_lands : (setup : AgentSetup) (m : AgentMachine) (source : SocketAddrV4) (text : List ℕ) (outcome : Outcome)
    → (handled_as (command_of setup outcome) outcome m source text).machine.answers ≡ m.answers ++ landing_as outcome m.flights text
text_lands setup m source text no_header = sym (append-nil m.answers)
text_lands setup m source text (bad_version id) = transacted_answers (look_of most_firsts m.history id m.now) m source (faulty_command id 528)
text_lands setup m source text (bad_body id) = transacted_answers (look_of most_firsts m.history id m.now) m source (faulty_command id 510)
text_lands setup m source text (message (messages.Command verb id name params body)) = transacted_answers (look_of most_firsts m.history id m.now) m source (read_command setup verb id name params)
text_lands setup m source text (message (messages.Response code id params body)) = responded_answers m source code id params text

texts_land : (setup : AgentSetup) (m : AgentMachine) (source : SocketAddrV4) (texts : List (List ℕ))
    → (took_all setup m source texts).machine.answers ≡ m.answers ++ landing_in setup m source texts
unfolding took_all handled landing_in
texts_land setup m source [] = sym (append-nil m.answers)
texts_land setup m source (text ∷ texts) =
    let next : AgentMachine = (handled setup m source text).machine in
    texts_land setup next source texts
    ∙ ap (λ (x : List FinalAnswer). x ++ landing_in setup next source texts) (text_lands setup m source text (read_text text))
    ∙ append_assoc m.answers (landing_as (read_text text) m.flights text) (landing_in setup next source texts)

event_lands : (setup : AgentSetup) (m : AgentMachine) (event : AgentEvent)
    → (agent_effect setup m event).machine.answers ≡ m.answers ++ landing_with setup m event
unfolding agent_effect
event_lands setup m (issues verb name rest) = sym (append-nil m.answers)
event_lands setup m (hears (datagram source bytes)) = texts_land setup m source (texts_of bytes)
event_lands setup m (hears (phone line act)) = sym (append-nil m.answers)
event_lands setup m (hears (tick moment)) = sym (append-nil m.answers)

pub events_land : (setup : AgentSetup) (m : AgentMachine) (events : List AgentEvent)
    → (agent_after setup m events).answers ≡ m.answers ++ landing_from setup m events
unfolding agent_after landing_from
events_land setup m [] = sym (append-nil m.answers)
events_land setup m (event ∷ events) =
    let next : AgentMachine = (agent_effect setup m event).machine in
    events_land setup next events
    ∙ ap (λ (x : List FinalAnswer). x ++ landing_from setup next events) (event_lands setup m event)
    ∙ append_assoc m.answers (landing_with setup m event) (landing_from setup next events)

pub answers_are_landings : (setup : AgentSetup) (events : List AgentEvent) → (plain_agent setup events).answers ≡ landing_from setup (agent_opening setup) events
answers_are_landings setup events = events_land setup (agent_opening setup) events

pub answer_is_the_first : (setup : AgentSetup) (events : List AgentEvent) (id : ℕ)
    → answer_for id (plain_agent setup events) ≡ find (λ (one : FinalAnswer). one.id == id) (landing_from setup (agent_opening setup) events)
answer_is_the_first setup events id = ap (find (λ (one : FinalAnswer). one.id == id)) (answers_are_landings setup events)
