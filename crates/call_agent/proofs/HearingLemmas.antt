-- The texts of a datagram, one after the other.
use Rattle.std.proofs.Common.{◌≡◌, ℕ, List, [], ◌∷◌, ◌++◌, refl, sym, ◌∙◌, ap, subst, append_assoc, append-nil}
use Rattle.std.specs.Prelude.{find, Option, Some, None}
use Rattle.std.specs.declared.net.socket_addr.SocketAddrV4.{SocketAddrV4}
use Rattle.mgcp_text.specs.Reading.{Outcome, read_text, message, no_header, bad_version, bad_body}
use Rattle.mgcp_text.specs.declared.message.Message.{Message}
use Rattle.mgcp_text.specs.declared.message.Message.TheVariants as messages
use Rattle.transmission.specs.Kept.{HistoryState}
use Rattle.transmission.specs.Memory.{most_firsts}
use Rattle.transmission.specs.Looking.{Looked, new, repeat, confirmed, full, look_of}
use Rattle.retransmission.specs.declared.reply.Reply.{Reply}
use Rattle.retransmission.specs.declared.reply.Reply.TheVariants.{Answered, Provisional, Stranger}
use Rattle.retransmission.specs.Flight.{InFlight, reply_of, heard}
use Rattle.transmission.specs.declared.output.OutDatagram.{OutDatagram}
use Rattle.transmission.specs.Acknowledging.{acknowledgements}
use Rattle.transmission.specs.Transacting.{message_to, transacted_as}
use Rattle.transmission.specs.Hearing.{Hearing, hearing, heard_at}
use Rattle.call_agent.specs.AgentAlike.{with_history}
use Rattle.call_agent.specs.declared.setup.AgentSetup.{AgentSetup}
use Rattle.call_agent.specs.declared.state.State.{State}
use Rattle.call_agent.specs.Agent.{AgentMachine, AgentEffect}
use Rattle.call_agent.specs.Flying.{has_id}
use Rattle.call_agent.specs.Hearing.{after, handled, handled_as, left_done, took_all}
use Rattle.call_agent.specs.Responding.{replied, responded, responded_to}
use Rattle.call_agent.specs.Taking.{GatewayCommand, faulty_command, read_command, command_of, executed, transacted_by}
use Rattle.call_agent.specs.State.{kept_in, found_in, Went}

-- what is done at a text is what hearing it comes to, and then what is left
abbrev after_hearing : AgentSetup → State → SocketAddrV4 → List ℕ → Hearing → AgentEffect
after_hearing setup was source text heard =
    after (record { machine = with_history (kept_in was) heard.history.kept; sent = heard.sent }) (λ (next : AgentMachine). left_done setup heard.left next source text)

looked_done : (looked : Looked) (setup : AgentSetup) (was : State) (source : SocketAddrV4) (text : List ℕ) (command : GatewayCommand) (first : Hearing)
    → executed (kept_in was) source command ≡ after_hearing setup was source text first
    → transacted_by looked (kept_in was) source command
    ≡ after_hearing setup was source text (transacted_as looked first (λ stored. hearing was.history (message_to source was.clock stored ∷ []) None) (hearing was.history [] None))
looked_done new setup was source text command first same = same
looked_done (repeat stored) setup was source text command first same = refl
looked_done confirmed setup was source text command first same = refl
looked_done full setup was source text command first same = refl

heard_done : (setup : AgentSetup) (was : State) (source : SocketAddrV4) (text : List ℕ) (outcome : Outcome)
    → handled_as (command_of setup outcome) outcome (kept_in was) source text ≡ after_hearing setup was source text (heard_at was.history source was.clock outcome)
unfolding responded
heard_done setup was source text no_header = refl
heard_done setup was source text (bad_version id) = looked_done (look_of most_firsts was.history.kept id was.clock) setup was source text (faulty_command id 528) _ refl
heard_done setup was source text (bad_body id) = looked_done (look_of most_firsts was.history.kept id was.clock) setup was source text (faulty_command id 510) _ refl
heard_done setup was source text (message (messages.Command verb id name params body)) = looked_done (look_of most_firsts was.history.kept id was.clock) setup was source text (read_command setup verb id name params) _ refl
heard_done setup was source text (message (messages.Response code id params body)) =
    ap (λ (sent : List OutDatagram). let e : AgentEffect = record { machine = responded_to (find (has_id id) was.flights.is) (kept_in was) code id text; sent = sent } in e)
    (sym (append-nil (acknowledgements was.clock source code id params)))

abbrev with_heard : State → HistoryState → State
with_heard was history = record was { history = history }

pub went_heard : (setup : AgentSetup) (source : SocketAddrV4) (text : List ℕ) (was is : State) (history : HistoryState) (were out are : List OutDatagram) (outcome : Outcome) (left : Option Message)
    → outcome ≡ read_text text → (heard_at was.history source was.clock outcome).left ≡ left
    → history ≡ (heard_at was.history source was.clock outcome).history → history.settled ≡ was.history.settled
    → out ≡ were ++ (heard_at was.history source was.clock outcome).sent
    → Went (left_done setup left (kept_in (with_heard was history)) source text) (with_heard was history) is out are → Went (handled setup (kept_in was) source text) was is were are
unfolding handled
went_heard setup source text was is history were out are outcome left read left_is kept settled sent went =
    let heard : Hearing = heard_at was.history source was.clock outcome in
    let done = heard_done setup was source text outcome in
    let next : AgentEffect = left_done setup heard.left (with_history (kept_in was) heard.history.kept) source text in
    let found : found_in (with_heard was history) ≡ found_in was = rw settled refl in
    let last : Went next (with_heard was history) is out are =
    subst (λ (h : HistoryState). Went (left_done setup heard.left (kept_in (with_heard was h)) source text) (with_heard was history) is out are) kept
    (subst (λ (some : Option Message). Went (left_done setup some (kept_in (with_heard was history)) source text) (with_heard was history) is out are) (sym left_is) went) in
    subst (λ (x : Outcome). Went (handled_as (command_of setup x) x (kept_in was) source text) was is were are) read (record {
      machine = last.machine ∙ sym (ap (λ (e : AgentEffect). e.machine) done);
      found = last.found ∙ found;
      sent = last.sent ∙ ap (λ (x : List OutDatagram). x ++ next.sent) sent ∙ append_assoc were heard.sent next.sent
          ∙ ap (λ (x : List OutDatagram). were ++ x) (sym (ap (λ (e : AgentEffect). e.sent) done));
    })

-- the first of these, and then the others
pub went_next : (setup : AgentSetup) (source : SocketAddrV4) (all texts : List (List ℕ)) (text : List ℕ) (was between is : State) (were mid are : List OutDatagram) → all ≡ text ∷ texts
    → Went (handled setup (kept_in was) source text) was between were mid → Went (took_all setup (kept_in between) source texts) between is mid are
    → Went (took_all setup (kept_in was) source all) was is were are
unfolding took_all
went_next setup source all texts text was between is were mid are same first rest =
    let one : AgentEffect = handled setup (kept_in was) source text in
    rw same (record {
      machine = rest.machine ∙ ap (λ (m : AgentMachine). (took_all setup m source texts).machine) first.machine;
      found = rest.found ∙ first.found;
      sent = rest.sent
          ∙ ap (λ (m : AgentMachine). mid ++ (took_all setup m source texts).sent) first.machine
          ∙ ap (λ (x : List OutDatagram). x ++ (took_all setup one.machine source texts).sent) first.sent
          ∙ append_assoc were one.sent (took_all setup one.machine source texts).sent;
    })

pub went_end : (setup : AgentSetup) (source : SocketAddrV4) (all : List (List ℕ)) (was : State) (out : List OutDatagram) → all ≡ [] → Went (took_all setup (kept_in was) source all) was was out out
unfolding took_all
went_end setup source all was out none = rw none (record { machine = refl; found = refl; sent = sym (append-nil out) })

-- a text moves no clock, and issues nothing
pub record Stays (was is : AgentMachine) : Type 0 where
  pub now : is.now ≡ was.now
  pub next : is.next ≡ was.next

still : (m : AgentMachine) → Stays m m
still m = record { now = refl; next = refl }

transacted_stays : (looked : Looked) (m : AgentMachine) (source : SocketAddrV4) (command : GatewayCommand) → Stays m (transacted_by looked m source command).machine
transacted_stays new m source command = record { now = refl; next = refl }
transacted_stays (repeat text) m source command = still m
transacted_stays confirmed m source command = still m
transacted_stays full m source command = still m

replied_stays : (reply : Reply) (m : AgentMachine) (heard : InFlight) (code : ℕ) (text : List ℕ) → Stays m (replied reply m heard code text)
replied_stays Answered m heard code text = record { now = refl; next = refl }
replied_stays Provisional m heard code text = record { now = refl; next = refl }
replied_stays Stranger m heard code text = still m

responded_stays : (found : Option InFlight) (m : AgentMachine) (code id : ℕ) (text : List ℕ) → Stays m (responded_to found m code id text)
responded_stays None m code id text = still m
responded_stays (Some flight) m code id text = replied_stays (reply_of flight id code) m (heard flight id code m.now) code text

outcome_stays : (setup : AgentSetup) (m : AgentMachine) (source : SocketAddrV4) (text : List ℕ) (outcome : Outcome) → Stays m (handled_as (command_of setup outcome) outcome m source text).machine
unfolding responded
outcome_stays setup m source text no_header = still m
outcome_stays setup m source text (bad_version id) = transacted_stays (look_of most_firsts m.history id m.now) m source (faulty_command id 528)
outcome_stays setup m source text (bad_body id) = transacted_stays (look_of most_firsts m.history id m.now) m source (faulty_command id 510)
outcome_stays setup m source text (message (messages.Command verb id name params body)) = transacted_stays (look_of most_firsts m.history id m.now) m source (read_command setup verb id name params)
outcome_stays setup m source text (message (messages.Response code id params body)) = responded_stays (find (has_id id) m.flights) m code id text

handled_stays : (setup : AgentSetup) (m : AgentMachine) (source : SocketAddrV4) (text : List ℕ) → Stays m (handled setup m source text).machine
unfolding handled
handled_stays setup m source text = outcome_stays setup m source text (read_text text)

pub texts_stay : (setup : AgentSetup) (m : AgentMachine) (source : SocketAddrV4) (texts : List (List ℕ)) → Stays m (took_all setup m source texts).machine
unfolding took_all
texts_stay setup m source [] = still m
texts_stay setup m source (text ∷ texts) =
    let one = handled_stays setup m source text in
    let rest = texts_stay setup (handled setup m source text).machine source texts in
    record { now = rest.now ∙ one.now; next = rest.next ∙ one.next }

pub went_on : (setup : AgentSetup) (source : SocketAddrV4) (text : List ℕ) (was is : State) (were are : List OutDatagram) → Went (handled setup (kept_in was) source text) was is were are → is.clock ≡ was.clock
went_on setup source text was is were are went = ap (λ (m : AgentMachine). m.now) went.machine ∙ (handled_stays setup (kept_in was) source text).now
