-- What an agent sends: its commands, each under an id of its own, and again for less than 20,000 ms; and responses.
use Rattle.std.proofs.Common.{◌≡◌, ◌≢◌, ℕ, zero, suc, ◌+◌, ◌-◌, ◌*◌, ◌<◌, ◌≤◌, Bool, true, false, ◌==◌, if◌then◌else◌, List, [], ◌∷◌, ◌++◌, length, Option, Some, None, inl, inr, refl, sym, ap, ◌∙◌, subst, arith, append-nil, append_assoc}
use Rattle.std.specs.Prelude.{AllPairs, IfSome, nat_lt, nat_le, find}
use Rattle.std.specs.declared.net.socket_addr.SocketAddrV4.{SocketAddrV4}
use Rattle.std.proofs.lemmas.Bool.{and_parts, leb-true}
use Rattle.std.proofs.lemmas.Option.{none-some}
use Rattle.std.proofs.lemmas.List.Quantifiers.{all_pairs_push}
use Rattle.mgcp_text.specs.declared.message.Message.TheVariants as messages
use Rattle.mgcp_text.specs.declared.message.Param.{Param}
use Rattle.mgcp_text.specs.declared.message.Verb.{Verb}
use Rattle.mgcp_text.specs.declared.message.Verb.TheVariants.{Epcf, Rqnt, Ntfy, Crcx, Mdcx, Dlcx, Auep, Aucx, Rsip, Other}
use Rattle.mgcp_text.specs.Reading.{Outcome, message, no_header, bad_version, bad_body, id_in, read_text}
use Rattle.mgcp_text.specs.Writing.{written}
use Rattle.mgcp_text.specs.Answer.{plain_code, response_of}
use Rattle.mgcp_text.proofs.AnswerLemmas.{answer_writable}
use Rattle.mgcp_text.proofs.IdLemmas.{IsId, read_id}
use Rattle.mgcp_text.proofs.RoundLaws.{read_again}
use Rattle.mgcp_text.proofs.WholeLemmas.{whole_written}
use Rattle.mgcp_text.proofs.PackingLaws.{joinable-from}
use Rattle.mgcp_text.specs.Packing.{is_joinable}
use Rattle.transmission.specs.declared.entry.KeptFirst.{KeptFirst}
use Rattle.transmission.specs.declared.entry.Entry.{Entry}
use Rattle.transmission.specs.declared.entry.Entry.TheVariants.{Confirmation}
use Rattle.transmission.specs.Kept.{first_entry, firsts_in}
use Rattle.machine_laws.proofs.GatewayEvents.{repeat_gives, tells_on, firsts_append}
use Rattle.transmission.specs.Memory.{most_firsts}
use Rattle.transmission.specs.Looking.{Looked, new, repeat, confirmed, full, look_of}
use Rattle.endpoint_names.specs.declared.route.Route.TheVariants.{One}
use Rattle.retransmission.specs.declared.repeat.Repeat.{Repeat}
use Rattle.retransmission.specs.declared.repeat.Repeat.TheVariants.{Sent as SentAgain, GivenUp}
use Rattle.retransmission.specs.declared.reply.Reply.{Reply}
use Rattle.retransmission.specs.declared.reply.Reply.TheVariants.{Answered, Provisional, Stranger}
use Rattle.retransmission.specs.Flight.{InFlight, sent_first, repeat_of, repeated, reply_of, heard}
use Rattle.retransmission.proofs.LifeLaws.{repeat_same, reply_same, sent_later, held_later, sent_soon}
use Rattle.transmission.specs.declared.output.OutDatagram.{OutDatagram}
use Rattle.transmission.specs.Acknowledging.{asks_for_acknowledgement, acknowledgement_text, acknowledgements}
use Rattle.plain_machine.specs.Refusing.{tick_refusal}
use Rattle.transmission.specs.Texts.{largest_datagram, texts_of}
use Rattle.plain_machine.specs.Event.{datagram, phone, tick}
use Rattle.machine_laws.proofs.EachLemmas.{Each, all_from_each, each_both, each_push, each_weaker, one_before, one_behind, one_of_each, one_to, one_weaker}
use Rattle.machine_laws.proofs.FlightLemmas.{IsSame}
use Rattle.retransmission.specs.Issued.{is_command_as}
use Rattle.plain_machine.specs.Message.{Begun}
use Rattle.machine_laws.specs.Saying.{Gives, Carries, IsAnswerTo, OneOf, Tells}
use Rattle.transmission.specs.Transacting.{message_to}
use Rattle.call_agent.specs.declared.setup.AgentSetup.{AgentSetup}
use Rattle.call_agent.specs.Agent.{AgentEffect, AgentMachine, agent_opening}
use Rattle.call_agent.specs.Hearing.{AgentEvent, agent_after, agent_effect, agent_refusal, event_refused, issue_refused, handled, handled_as, hears, issued_from, issued_with, issues, took_all}
use Rattle.call_agent.specs.Flying.{Flown, first_flight, flown_on, fly_on, if_due, pass, passed, sooner, with_flight, without_flight, has_id}
use Rattle.call_agent.specs.Taking.{GatewayCommand, answer_to, code_for, command_of, transacted_by, faulty_command, read_command}
use Rattle.call_agent.specs.Issuing.{IssueRefusal, bad_command, command_text, greatest_id, is_good, issue_refusal, issued, no_more_ids}
use Rattle.call_agent.specs.Responding.{replied, responded, responded_to}
use Rattle.call_agent.proofs.EventLemmas.{agent_clock, tick_forward}
use Rattle.retransmission.specs.Sends.{sending_time}
use Rattle.machine_laws.proofs.MessageLaws.{code_is, code_short}

-- a text that goes out
abbrev pub Goes : List ℕ → Type 0
Goes text = is_joinable largest_datagram text ≡ true

pub record Flies (all : List Begun) (now : ℕ) (flight : InFlight) : Type 0 where
  pub known : OneOf (IsSame flight) all
  pub later : flight.first ≤ flight.due
  pub past : flight.first ≤ now
  pub goes : Goes flight.text

-- what is sent by this moment
pub record Speaks (all : List Begun) (firsts : List KeptFirst) (now : ℕ) (sent : OutDatagram) : Type 0 where
  pub says : Tells all firsts sent.bytes sent.moment
  pub early : sent.moment ≤ now
  pub goes : Goes sent.bytes

flies_on : (all more : List Begun) (now later : ℕ) → now ≤ later → (flight : InFlight) → Flies all now flight → Flies (all ++ more) later flight
flies_on all more now later past flight f = record {
  known = one_before (IsSame flight) all more f.known;
  later = f.later;
  past = omega (arith, past, f.past);
  goes = f.goes;
}

pub speaks_on : (all : List Begun) (firsts later : List KeptFirst) (now : ℕ) (sent : OutDatagram) → Speaks all firsts now sent → Speaks all (firsts ++ later) now sent
speaks_on all firsts later now sent s = record {
  says = subst (λ (x : List Begun). Tells x (firsts ++ later) sent.bytes sent.moment) (append-nil all) (tells_on all [] firsts later sent.bytes sent.moment s.says);
  early = s.early;
  goes = s.goes;
}

-- the flight in the list that falls due

pub first_is : (P : InFlight → Type 0) (flights : List InFlight) → Each P flights → IfSome (first_flight flights) P
unfolding first_flight
first_is P [] all = tt
first_is P (flight ∷ flights) all = by_other (first_flight flights) (first_is P flights all.1) where
  by_test : (other : InFlight) (b : Bool) → P other → IfSome (if b then Some flight else Some other) P
  by_test other true is = all.0
  by_test other false is = is

  by_other : (found : Option InFlight) → IfSome found P → IfSome (sooner flight found) P
  by_other None is = all.0
  by_other (Some other) is = by_test other (nat_le flight.due other.due) is

pub due_is : (P : InFlight → Type 0) (moment : ℕ) (found : Option InFlight) → IfSome found P → IfSome (if_due moment found) (λ flight. P flight × (flight.due ≤ moment))
due_is P moment None is = tt
due_is P moment (Some flight) is = by_test (nat_le flight.due moment) refl where
  by_test : (b : Bool) → nat_le flight.due moment ≡ b → IfSome (if b then Some flight else None) (λ flight. P flight × (flight.due ≤ moment))
  by_test true due = (is, leb-true flight.due moment due)
  by_test false due = tt

pub with_each : (P : InFlight → Type 0) (now : InFlight) (flights : List InFlight) → P now → Each P flights → Each P (with_flight now flights)
unfolding with_flight
with_each P now [] is all = tt
with_each P now (flight ∷ flights) is all = by_test (flight.id == now.id) (with_each P now flights is all.1) where
  by_test : (b : Bool) → Each P (with_flight now flights) → Each P (if b then now ∷ flights else flight ∷ with_flight now flights)
  by_test true rest = (is, all.1)
  by_test false rest = (all.0, rest)

pub without_each : (P : InFlight → Type 0) (id : ℕ) (flights : List InFlight) → Each P flights → Each P (without_flight id flights)
unfolding without_flight
without_each P id [] all = tt
without_each P id (flight ∷ flights) all = by_test (flight.id == id) (without_each P id flights all.1) where
  by_test : (b : Bool) → Each P (without_flight id flights) → Each P (if b then flights else flight ∷ without_flight id flights)
  by_test true rest = all.1
  by_test false rest = (all.0, rest)

-- Falling due

-- flights and what they sent are so
pub record FliesOn (all : List Begun) (firsts : List KeptFirst) (now : ℕ) (done : Flown) : Type 0 where
  pub flights : Each (Flies all now) done.flights
  pub sent : Each (Speaks all firsts now) done.sent

repeated_flies : (all : List Begun) (now : ℕ) (flight : InFlight) → Flies all now flight → repeat_of flight flight.due ≡ SentAgain → Flies all now (repeated flight flight.due)
repeated_flies all now flight f is =
    let same = repeat_same flight flight.due in
    let later = sent_later flight flight.due is in
    record {
      known = one_weaker (IsSame flight) (IsSame (repeated flight flight.due))
          (λ one s. record { id = s.id ∙ sym same.same_id; text = s.text ∙ sym same.same_text; moment = s.moment ∙ sym same.same_start }) all f.known;
      later = omega (arith, later, f.later, same.same_start);
      past = omega (arith, f.past, same.same_start);
      goes = ap (is_joinable largest_datagram) same.same_text ∙ f.goes;
    }

flown_flies : (all : List Begun) (firsts : List KeptFirst) (now : ℕ) (flights : List InFlight) (flight : InFlight) → Each (Flies all now) flights → Flies all now flight → flight.due ≤ now
    → (repeat : Repeat) → repeat_of flight flight.due ≡ repeat → FliesOn all firsts now (flown_on repeat flights flight)
flown_flies all firsts now flights flight each f due SentAgain is = record {
  flights = with_each (Flies all now) (repeated flight flight.due) flights (repeated_flies all now flight f is) each;
  sent = (
    record {
      says = inl (one_weaker (IsSame flight) (Carries flight.text flight.due)
          (λ one s. record {
            text = sym s.text;
            since = omega (arith, s.moment, f.later);
            within = let few : flight.due - flight.first < sending_time = sent_soon flight flight.due is in omega (arith, s.moment, few, f.later);
          }) all f.known);
      early = due;
      goes = f.goes;
    },
    tt,
  );
}
flown_flies all firsts now flights flight each f due GivenUp is =
    record { flights = without_each (Flies all now) flight.id flights each; sent = tt }

passed_flies : (all : List Begun) (firsts : List KeptFirst) (now n : ℕ) (flights : List InFlight) → Each (Flies all now) flights → FliesOn all firsts now (passed n flights now)
unfolding passed
passed_flies all firsts now zero flights each = record { flights = each; sent = tt }
passed_flies all firsts now (suc n) flights each =
    by_due (if_due now (first_flight flights)) (due_is (Flies all now) now (first_flight flights) (first_is (Flies all now) flights each)) (passed_flies all firsts now n) where
      by_due : (found : Option InFlight) → IfSome found (λ flight. Flies all now flight × (flight.due ≤ now))
          → ((next : List InFlight) → Each (Flies all now) next → FliesOn all firsts now (passed n next now)) → FliesOn all firsts now (fly_on found flights (λ next. passed n next now))
      by_due None is on = record { flights = each; sent = tt }
      by_due (Some flight) is on =
          let first = flown_flies all firsts now flights flight each is.0 is.1 (repeat_of flight flight.due) refl in
          let rest = on (flown_on (repeat_of flight flight.due) flights flight).flights first.flights in
          record { flights = rest.flights; sent = each_both (Speaks all firsts now) (flown_on (repeat_of flight flight.due) flights flight).sent _ first.sent rest.sent }

pass_flies : (all : List Begun) (firsts : List KeptFirst) (now : ℕ) (flights : List InFlight) → Each (Flies all now) flights → FliesOn all firsts now (pass flights now)
unfolding pass
pass_flies all firsts now flights each = passed_flies all firsts now (8 * length flights) flights each

-- Responses

pub record Fine (id : ℕ) (text : List ℕ) : Type 0 where
  pub response : IsAnswerTo id text
  pub goes : Goes text

pub code_fine : (code id : ℕ) → IsId id → code ≤ 999 → Fine id (written (response_of id (plain_code code)))
code_fine code id has small =
    let writable = answer_writable id (plain_code code) has.0 has.1 (code_is code small) in
    let whole = whole_written (response_of id (plain_code code)) writable in
    record {
      response = record { code = code; params = []; body = []; reads = read_again (response_of id (plain_code code)) writable };
      goes = joinable-from largest_datagram (written (response_of id (plain_code code))) (record { ends = whole.ends; apart = whole.apart; short = code_short code id has.1 });
    }

-- what is kept of the agent's answers
abbrev pub AreKept : List Entry → Type 0
AreKept entries = Each (λ (first : KeptFirst). Fine first.id first.answer) (firsts_in entries)

kept_more : (some more : List Entry) → AreKept some → AreKept more → AreKept (some ++ more)
kept_more some more all rest = rw (firsts_append some more) (each_both (λ (first : KeptFirst). Fine first.id first.answer) (firsts_in some) (firsts_in more) all rest)

-- a text that is told again is the answer of one that is kept
again_goes : (now : ℕ) (text : List ℕ) (firsts : List KeptFirst) → Each (λ (first : KeptFirst). Fine first.id first.answer) firsts → OneOf (Gives text now) firsts → Goes text
again_goes now text firsts all one =
    one_to (λ (first : KeptFirst). Fine first.id first.answer × Gives text now first) (Goes text) (λ first both. ap (is_joinable largest_datagram) (sym both.1.0) ∙ both.0.goes) firsts
    (one_of_each (λ (first : KeptFirst). Fine first.id first.answer) (Gives text now) firsts all one)

-- What holds of an agent that issued these

pub record WasIssued (now next : ℕ) (one : Begun) : Type 0 where
  pub goes : Goes one.text
  pub name : List ℕ
  pub reads : is_command_as one.id name (read_text one.text) ≡ true
  pub past : one.moment ≤ now
  pub below : one.id < next

pub record Holds (all : List Begun) (m : AgentMachine) : Type 0 where
  pub flights : Each (Flies all m.now) m.flights
  pub issued : Each (WasIssued m.now m.next) all
  pub apart : AllPairs (λ (a b : Begun). a.id ≢ b.id) all
  pub kept : AreKept m.history

-- it goes on so, at the same moment, and what it sends is so
pub record GoesOn (all : List Begun) (m : AgentMachine) (done : AgentEffect) : Type 0 where
  pub holds : Holds all done.machine
  pub now : done.machine.now ≡ m.now
  pub more : List KeptFirst
  pub grown : firsts_in done.machine.history ≡ firsts_in m.history ++ more
  pub sent : Each (Speaks all (firsts_in done.machine.history) m.now) done.sent

one_fine : (all : List Begun) (firsts : List KeptFirst) (now : ℕ) (to : SocketAddrV4) (text : List ℕ) → OneOf (Gives text now) firsts → Goes text
    → Each (Speaks all firsts now) (message_to to now text ∷ [])
one_fine all firsts now to text one goes = (record { says = inr (inl one); early = omega arith; goes = goes }, tt)

one_first : (m : AgentMachine) (command : GatewayCommand)
    → firsts_in ((m.history ++ Confirmation command.confirms ∷ []) ++ first_entry command.id m.now (answer_to command) ∷ [])
    ≡ firsts_in m.history ++ (record { id = command.id; moment = m.now; answer = answer_to command }) ∷ []
one_first m command =
    firsts_append (m.history ++ Confirmation command.confirms ∷ []) (first_entry command.id m.now (answer_to command) ∷ [])
    ∙ ap (λ (x : List KeptFirst). x ++ (record { id = command.id; moment = m.now; answer = answer_to command }) ∷ []) (firsts_append m.history (Confirmation command.confirms ∷ []) ∙ append-nil (firsts_in m.history))

transacted_on : (all : List Begun) (looked : Looked) (m : AgentMachine) (source : SocketAddrV4) (command : GatewayCommand) → Holds all m → IsId command.id → command.code ≤ 999
    → looked ≡ look_of most_firsts m.history command.id m.now → GoesOn all m (transacted_by looked m source command)
transacted_on all new m source command h has small is =
    let fine = code_fine command.code command.id has small in
    let kept : KeptFirst = record { id = command.id; moment = m.now; answer = answer_to command } in
    record {
      holds = record {
        flights = h.flights;
        issued = h.issued;
        apart = h.apart;
        kept = kept_more (m.history ++ Confirmation command.confirms ∷ []) _ (kept_more m.history (Confirmation command.confirms ∷ []) h.kept tt) (fine, tt);
      };
      now = refl;
      more = kept ∷ [];
      grown = one_first m command;
      sent = one_fine all _ m.now source (answer_to command)
          (subst (OneOf (Gives (answer_to command) m.now)) (sym (one_first m command)) (one_behind (Gives (answer_to command) m.now) (firsts_in m.history) (kept ∷ []) (inl (refl, omega arith))))
          fine.goes;
    }
transacted_on all (repeat text) m source command h has small is =
    let one = repeat_gives most_firsts m.history command.id m.now text (sym is) in
    record {
      holds = h;
      now = refl;
      more = [];
      grown = sym (append-nil (firsts_in m.history));
      sent = one_fine all (firsts_in m.history) m.now source text one (again_goes m.now text (firsts_in m.history) h.kept one);
    }
transacted_on all confirmed m source command h has small is = record { holds = h; now = refl; more = []; grown = sym (append-nil (firsts_in m.history)); sent = tt }
transacted_on all full m source command h has small is = record { holds = h; now = refl; more = []; grown = sym (append-nil (firsts_in m.history)); sent = tt }

acknowledged_fine : (all : List Begun) (firsts : List KeptFirst) (now : ℕ) (source : SocketAddrV4) (code id : ℕ) (params : List Param) → IsId id
    → Each (Speaks all firsts now) (acknowledgements now source code id params)
acknowledged_fine all firsts now source code id params has = by_test (asks_for_acknowledgement code params) where
  by_test : (b : Bool)
      → Each (Speaks all firsts now) (if b then message_to source now (acknowledgement_text id) ∷ [] else [])
  by_test true = (
    record {
      says = inr (inr (record { id = id; reads = read_again (response_of id (plain_code 0)) (answer_writable id (plain_code 0) has.0 has.1 (code_is 0 (omega arith))) }));
      early = omega arith;
      goes = (code_fine 0 id has (omega arith)).goes;
    },
    tt,
  )
  by_test false = tt

heard_flies : (all : List Begun) (now : ℕ) (flight : InFlight) (id code : ℕ) → Flies all now flight → reply_of flight id code ≡ Provisional → Flies all now (heard flight id code now)
heard_flies all now flight id code f is =
    let same = reply_same flight id code now in
    let later = held_later flight id code now is in
    record {
      known = one_weaker (IsSame flight) (IsSame (heard flight id code now))
          (λ one s. record { id = s.id ∙ sym same.same_id; text = s.text ∙ sym same.same_text; moment = s.moment ∙ sym same.same_start }) all f.known;
      later = omega (arith, later, f.past, same.same_start);
      past = omega (arith, f.past, same.same_start);
      goes = ap (is_joinable largest_datagram) same.same_text ∙ f.goes;
    }

replied_holds : (all : List Begun) (m : AgentMachine) (flight : InFlight) (code id : ℕ) (text : List ℕ) → Holds all m → Flies all m.now flight
    → (reply : Reply) → reply_of flight id code ≡ reply → Holds all (replied reply m (heard flight id code m.now) code text)
replied_holds all m flight code id text h f Answered is =
    record { flights = without_each (Flies all m.now) (heard flight id code m.now).id m.flights h.flights; issued = h.issued; apart = h.apart; kept = h.kept }
replied_holds all m flight code id text h f Provisional is =
    record { flights = with_each (Flies all m.now) (heard flight id code m.now) m.flights (heard_flies all m.now flight id code f is) h.flights; issued = h.issued; apart = h.apart; kept = h.kept }
replied_holds all m flight code id text h f Stranger is = h

pub replied_kept : (reply : Reply) (m : AgentMachine) (heard : InFlight) (code : ℕ) (text : List ℕ) → (replied reply m heard code text).history ≡ m.history
replied_kept Answered m heard code text = refl
replied_kept Provisional m heard code text = refl
replied_kept Stranger m heard code text = refl

pub replied_now : (reply : Reply) (m : AgentMachine) (heard : InFlight) (code : ℕ) (text : List ℕ) → (replied reply m heard code text).now ≡ m.now
replied_now Answered m heard code text = refl
replied_now Provisional m heard code text = refl
replied_now Stranger m heard code text = refl

found_is : (P : InFlight → Type 0) (id : ℕ) (flights : List InFlight) → Each P flights → IfSome (find (has_id id) flights) P
found_is P id [] all = tt
found_is P id (flight ∷ flights) all = by_test (has_id id flight) (found_is P id flights all.1) where
  by_test : (b : Bool) → IfSome (find (has_id id) flights) P → IfSome (if b then Some flight else find (has_id id) flights) P
  by_test true rest = all.0
  by_test false rest = rest

responded_on : (all : List Begun) (m : AgentMachine) (source : SocketAddrV4) (code id : ℕ) (params : List Param) (text : List ℕ) → Holds all m → IsId id
    → GoesOn all m (responded m source code id params text)
unfolding responded
responded_on all m source code id params text h has = by_found (find (has_id id) m.flights) (found_is (Flies all m.now) id m.flights h.flights) where
  by_found : (found : Option InFlight) → IfSome found (Flies all m.now)
      → GoesOn all m (record { machine = responded_to found m code id text; sent = acknowledgements m.now source code id params })
  by_found None f = record { holds = h; now = refl; more = []; grown = sym (append-nil (firsts_in m.history)); sent = acknowledged_fine all (firsts_in m.history) m.now source code id params has }
  by_found (Some flight) f = record {
    holds = replied_holds all m flight code id text h f (reply_of flight id code) refl;
    now = replied_now (reply_of flight id code) m (heard flight id code m.now) code text;
    more = [];
    grown = ap firsts_in (replied_kept (reply_of flight id code) m (heard flight id code m.now) code text) ∙ sym (append-nil (firsts_in m.history));
    sent = acknowledged_fine all _ m.now source code id params has;
  }

pub small_code : (verb : Verb) → code_for verb ≤ 999
small_code Ntfy = omega arith
small_code Rsip = omega arith
small_code Epcf = omega arith
small_code Rqnt = omega arith
small_code Crcx = omega arith
small_code Mdcx = omega arith
small_code Dlcx = omega arith
small_code Auep = omega arith
small_code Aucx = omega arith
small_code Other = omega arith

handled_by : (setup : AgentSetup) (all : List Begun) (m : AgentMachine) (source : SocketAddrV4) (text : List ℕ) (outcome : Outcome) → Holds all m → IfSome (id_in outcome) IsId
    → GoesOn all m (handled_as (command_of setup outcome) outcome m source text)
handled_by setup all m source text no_header h has = record { holds = h; now = refl; more = []; grown = sym (append-nil (firsts_in m.history)); sent = tt }
handled_by setup all m source text (bad_version id) h has = transacted_on all _ m source (faulty_command id 528) h has (omega arith) refl
handled_by setup all m source text (bad_body id) h has = transacted_on all _ m source (faulty_command id 510) h has (omega arith) refl
handled_by setup all m source text (message (messages.Command verb id name params body)) h has = transacted_on all _ m source (read_command setup verb id name params) h has (small_code verb) refl
handled_by setup all m source text (message (messages.Response code id params body)) h has = responded_on all m source code id params text h has

pub handled_on : (setup : AgentSetup) (all : List Begun) (m : AgentMachine) (source : SocketAddrV4) (text : List ℕ) → Holds all m → GoesOn all m (handled setup m source text)
unfolding handled
handled_on setup all m source text h = handled_by setup all m source text (read_text text) h (read_id text)

texts_on : (setup : AgentSetup) (all : List Begun) (m : AgentMachine) (source : SocketAddrV4) (texts : List (List ℕ)) → Holds all m → GoesOn all m (took_all setup m source texts)
unfolding took_all
texts_on setup all m source [] h = record { holds = h; now = refl; more = []; grown = sym (append-nil (firsts_in m.history)); sent = tt }
texts_on setup all m source (text ∷ texts) h =
    let first = handled_on setup all m source text h in
    let rest = texts_on setup all (handled setup m source text).machine source texts first.holds in
    record {
      holds = rest.holds;
      now = rest.now ∙ first.now;
      more = first.more ++ rest.more;
      grown = rest.grown ∙ ap (λ (x : List KeptFirst). x ++ rest.more) first.grown ∙ append_assoc (firsts_in m.history) first.more rest.more;
      sent = each_both (Speaks all (firsts_in (took_all setup (handled setup m source text).machine source texts).machine.history) m.now) (handled setup m source text).sent _
          (subst (λ (f : List KeptFirst). Each (Speaks all f m.now) (handled setup m source text).sent) (sym rest.grown)
          (each_weaker (Speaks all (firsts_in (handled setup m source text).machine.history) m.now) (Speaks all (firsts_in (handled setup m source text).machine.history ++ rest.more) m.now)
          (speaks_on all (firsts_in (handled setup m source text).machine.history) rest.more m.now) (handled setup m source text).sent first.sent))
          (subst (λ (now : ℕ). Each (Speaks all (firsts_in (took_all setup (handled setup m source text).machine source texts).machine.history) now) (took_all setup (handled setup m source text).machine source texts).sent) first.now rest.sent);
    }

-- An event

pub record AgentGoesOn (all : List Begun) (m : AgentMachine) (moment : ℕ) (done : AgentEffect) : Type 0 where
  pub holds : Holds all done.machine
  pub now : done.machine.now ≡ moment
  pub more : List KeptFirst
  pub grown : firsts_in done.machine.history ≡ firsts_in m.history ++ more
  pub sent : Each (Speaks all (firsts_in done.machine.history) moment) done.sent

may_issue : (b c : Bool) (x y : IssueRefusal) → (if b then Some x else (if c then None else Some y)) ≡ None → c ≡ true
may_issue true c x y e = absurd (none-some x (sym e))
may_issue false true x y e = refl
may_issue false false x y e = absurd (none-some y (sym e))

issued_on : (setup : AgentSetup) (all : List Begun) (m : AgentMachine) (verb name rest : List ℕ) → Holds all m → issue_refusal m verb name rest ≡ None
    → AgentGoesOn (all ++ (record { id = m.next; moment = m.now; text = command_text verb m.next name rest }) ∷ []) m m.now (issued setup m (command_text verb m.next name rest))
issued_on setup all m verb name rest h taken = record {
  holds = record {
    flights = each_push (Flies (all ++ one ∷ []) m.now) m.flights (sent_first m.next (One setup.gateway) text m.now)
        (each_weaker (Flies all m.now) (Flies (all ++ one ∷ []) m.now) (flies_on all (one ∷ []) m.now m.now (omega arith)) m.flights h.flights)
        (record { known = one_behind (IsSame (sent_first m.next (One setup.gateway) text m.now)) all (one ∷ []) (inl (record { id = refl; text = refl; moment = refl })); later = omega arith; past = omega arith; goes = goes });
    issued = each_push (WasIssued m.now (m.next + 1)) all one
        (each_weaker (WasIssued m.now m.next) (WasIssued m.now (m.next + 1)) (λ b w. record { goes = w.goes; name = w.name; reads = w.reads; past = w.past; below = omega (arith, w.below) }) all h.issued)
        (record { goes = goes; name = name; reads = both.1; past = omega arith; below = omega arith });
    apart = all_pairs_push (λ (a b : Begun). a.id ≢ b.id) all one h.apart
        (all_from_each (λ (a : Begun). a.id ≢ m.next) all
        (each_weaker (WasIssued m.now m.next) (λ (a : Begun). a.id ≢ m.next) (λ a w. λ same. absurd (let below : a.id < m.next = w.below in omega (arith, below, same))) all h.issued));
    kept = h.kept;
  };
  now = refl;
  more = [];
  grown = sym (append-nil (firsts_in m.history));
  sent = (
    record {
      says = inl (one_behind (Carries text m.now) all (one ∷ []) (inl (record { text = refl; since = omega arith; within = omega arith })));
      early = omega arith;
      goes = goes;
    },
    tt,
  );
} where
  text : List ℕ
  text = command_text verb m.next name rest

  one : Begun
  one = record { id = m.next; moment = m.now; text = text }

  both : (is_joinable largest_datagram text ≡ true) × (is_command_as m.next name (read_text text) ≡ true)
  both = and_parts (is_joinable largest_datagram text) (is_command_as m.next name (read_text text))
      (may_issue (nat_lt greatest_id m.next) (is_good m.next name text) no_more_ids bad_command taken)

  goes : Goes text
  goes = both.0

never_refused : (refusal : Option IssueRefusal) → issue_refused refusal ≡ None → refusal ≡ None
never_refused None none = refl
never_refused (Some refusal) some = absurd (none-some _ (sym some))

holds_later : (all : List Begun) (m : AgentMachine) (later : ℕ) (flights : List InFlight) → Holds all m → m.now ≤ later → Each (Flies all later) flights → Holds all (record m { now = later; flights = flights })
holds_later all m later flights h past flies = record {
  flights = flies;
  issued = each_weaker (WasIssued m.now m.next) (WasIssued later m.next) (λ b w. record { goes = w.goes; name = w.name; reads = w.reads; past = omega (arith, w.past, past); below = w.below }) all h.issued;
  apart = h.apart;
  kept = h.kept;
}

flies_later : (all : List Begun) (now later : ℕ) → now ≤ later → (flight : InFlight) → Flies all now flight → Flies all later flight
flies_later all now later past flight f = record { known = f.known; later = f.later; past = omega (arith, past, f.past); goes = f.goes }

pub event_on : (setup : AgentSetup) (all : List Begun) (m : AgentMachine) (event : AgentEvent) → Holds all m → agent_refusal m event ≡ None
    → AgentGoesOn (all ++ issued_with m event) m (agent_clock m.now event) (agent_effect setup m event)
unfolding agent_effect agent_refusal
event_on setup all m (issues verb name rest) h taken = issued_on setup all m verb name rest h (never_refused (issue_refusal m verb name rest) taken)
event_on setup all m (hears (datagram source bytes)) h taken =
    let goes = texts_on setup all m source (texts_of bytes) h in
    rw (append-nil all) (record { holds = goes.holds; now = goes.now; more = goes.more; grown = goes.grown; sent = goes.sent })
event_on setup all m (hears (phone line act)) h taken = absurd (none-some _ (sym taken))
event_on setup all m (hears (tick moment)) h taken =
    let past = tick_forward m.now moment taken in
    let flies = pass_flies all (firsts_in m.history) moment m.flights (each_weaker (Flies all m.now) (Flies all moment) (flies_later all m.now moment past) m.flights h.flights) in
    rw (append-nil all) (record { holds = holds_later all m moment (pass m.flights moment).flights h past flies.flights; now = refl; more = []; grown = sym (append-nil (firsts_in m.history)); sent = flies.sent })

pub opening_holds : (setup : AgentSetup) → Holds [] (agent_opening setup)
opening_holds setup = record { flights = tt; issued = tt; apart = λ i j d less none. absurd (omega arith); kept = tt }

-- one event more

pub issued_more : (setup : AgentSetup) (m : AgentMachine) (es : List AgentEvent) (e : AgentEvent)
    → issued_from setup m (es ++ e ∷ []) ≡ issued_from setup m es ++ issued_with (agent_after setup m es) e
unfolding agent_after issued_from
issued_more setup m [] e = append-nil (issued_with m e)
issued_more setup m (x ∷ es) e =
    ap (λ (rest : List Begun). issued_with m x ++ rest) (issued_more setup (agent_effect setup m x).machine es e)
    ∙ sym (append_assoc (issued_with m x) (issued_from setup (agent_effect setup m x).machine es) (issued_with (agent_after setup (agent_effect setup m x).machine es) e))

pub alone : (setup : AgentSetup) (m : AgentMachine) (event : AgentEvent) → agent_after setup m (event ∷ []) ≡ (agent_effect setup m event).machine
unfolding agent_after
alone setup m event = refl

-- a datagram is never refused
pub never : (m : AgentMachine) (source : SocketAddrV4) (bytes : List ℕ) → agent_refusal m (hears (datagram source bytes)) ≡ None
unfolding agent_refusal
never m source bytes = refl

-- a tick is refused as a gateway with the same clock refuses it
pub tick_taken : (m : AgentMachine) (moment : ℕ) → tick_refusal m.now moment ≡ None → agent_refusal m (hears (tick moment)) ≡ None
unfolding agent_refusal
tick_taken m moment none = ap event_refused none
