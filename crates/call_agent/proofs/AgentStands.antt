-- What an agent keeps goes on as the plain agent does.
use Rattle.std.proofs.Common.{◌≡◌, ℕ, List, [], ◌∷◌, ◌++◌, Option, Some, None, refl, sym, ap, ◌∙◌, subst, arith}
use Rattle.std.specs.Prelude.{find}
use Rattle.std.specs.declared.net.socket_addr.SocketAddrV4.{SocketAddrV4}
use Rattle.mgcp_text.specs.declared.message.Param.{Param}
use Rattle.mgcp_text.specs.declared.message.Message.TheVariants as messages
use Rattle.mgcp_text.specs.Reading.{Outcome, message, no_header, bad_version, bad_body, read_text}
use Rattle.transmission.specs.declared.entry.Entry.{Entry}
use Rattle.transmission.specs.declared.entry.Entry.TheVariants.{Confirmation}
use Rattle.transmission.specs.Memory.{most_firsts}
use Rattle.transmission.specs.Kept.{first_entry}
use Rattle.transmission.specs.Looking.{Looked, new, repeat, confirmed, full, look_of}
use Rattle.transmission.specs.Recalling.{Recalls}
use Rattle.transmission.proofs.RecallLaws.{recalls_entry, recalls_look, recalls_later}
use Rattle.retransmission.specs.declared.reply.Reply.{Reply}
use Rattle.retransmission.specs.declared.reply.Reply.TheVariants.{Answered, Provisional, Stranger}
use Rattle.retransmission.specs.Flight.{InFlight, reply_of, heard}
use Rattle.plain_machine.specs.Event.{datagram, phone, tick}
use Rattle.transmission.specs.Texts.{texts_of}
use Rattle.call_agent.specs.AgentAlike.{AgentAlike, AgentGoesAlike, with_history}
use Rattle.call_agent.specs.declared.setup.AgentSetup.{AgentSetup}
use Rattle.call_agent.specs.Agent.{AgentEffect, AgentMachine}
use Rattle.call_agent.specs.Hearing.{AgentEvent, agent_effect, agent_refusal, handled, handled_as, hears, issues, took_all}
use Rattle.call_agent.specs.Taking.{GatewayCommand, faulty_command, read_command, answer_to, command_of, transacted_by}
use Rattle.call_agent.specs.Responding.{replied, responded, responded_to}
use Rattle.call_agent.specs.Flying.{has_id}
use Rattle.call_agent.proofs.EventLemmas.{forward, agent_clock}

-- the plain one does what the kept one does, with a history of its own
record Both (now : ℕ) (kept plain : AgentEffect) : Type 0 where
  history : List Entry
  same : plain ≡ record { machine = with_history kept.machine history; sent = kept.sent }
  recalls : Recalls kept.machine.history history now
  time : kept.machine.now ≡ now

transacted_both : (looked : Looked) (k : AgentMachine) (h : List Entry) (source : SocketAddrV4) (command : GatewayCommand) → Recalls k.history h k.now
    → Both k.now (transacted_by looked k source command) (transacted_by looked (with_history k h) source command)
transacted_both new k h source command r = record {
  history = (h ++ Confirmation command.confirms ∷ []) ++ first_entry command.id k.now (answer_to command) ∷ [];
  same = refl;
  recalls = recalls_entry (k.history ++ Confirmation command.confirms ∷ []) (h ++ Confirmation command.confirms ∷ []) (first_entry command.id k.now (answer_to command)) k.now
      (recalls_entry k.history h (Confirmation command.confirms) k.now r);
  time = refl;
}
transacted_both (repeat text) k h source command r = record { history = h; same = refl; recalls = r; time = refl }
transacted_both confirmed k h source command r = record { history = h; same = refl; recalls = r; time = refl }
transacted_both full k h source command r = record { history = h; same = refl; recalls = r; time = refl }

command_both : (k : AgentMachine) (h : List Entry) (source : SocketAddrV4) (command : GatewayCommand) → Recalls k.history h k.now
    → Both k.now (transacted_by (look_of most_firsts k.history command.id k.now) k source command) (transacted_by (look_of most_firsts h command.id k.now) (with_history k h) source command)
command_both k h source command r =
    subst (λ (looked : Looked). Both k.now (transacted_by (look_of most_firsts k.history command.id k.now) k source command) (transacted_by looked (with_history k h) source command))
    (recalls_look k.history h k.now command.id k.now r (omega arith)) (transacted_both (look_of most_firsts k.history command.id k.now) k h source command r)

record BothMachines (now : ℕ) (kept plain : AgentMachine) (h : List Entry) (was : List Entry) : Type 0 where
  same : plain ≡ with_history kept h
  history : kept.history ≡ was
  time : kept.now ≡ now

replied_both : (reply : Reply) (k : AgentMachine) (h : List Entry) (heard : InFlight) (code : ℕ) (text : List ℕ)
    → BothMachines k.now (replied reply k heard code text) (replied reply (with_history k h) heard code text) h k.history
replied_both Answered k h heard code text = record { same = refl; history = refl; time = refl }
replied_both Provisional k h heard code text = record { same = refl; history = refl; time = refl }
replied_both Stranger k h heard code text = record { same = refl; history = refl; time = refl }

responded_both : (k : AgentMachine) (h : List Entry) (source : SocketAddrV4) (code id : ℕ) (params : List Param) (text : List ℕ) → Recalls k.history h k.now
    → Both k.now (responded k source code id params text) (responded (with_history k h) source code id params text)
unfolding responded
responded_both k h source code id params text r = by_found (find (has_id id) k.flights) where
  with : AgentMachine → AgentEffect
  with m = record { machine = m; sent = (responded k source code id params text).sent }

  by_found : (found : Option InFlight) → Both k.now (with (responded_to found k code id text)) (with (responded_to found (with_history k h) code id text))
  by_found None = record { history = h; same = refl; recalls = r; time = refl }
  by_found (Some flight) =
      let both = replied_both (reply_of flight id code) k h (heard flight id code k.now) code text in
      record { history = h; same = ap with both.same; recalls = subst (λ (x : List Entry). Recalls x h k.now) (sym both.history) r; time = both.time }

text_both : (setup : AgentSetup) (k : AgentMachine) (h : List Entry) (source : SocketAddrV4) (text : List ℕ) (outcome : Outcome) → Recalls k.history h k.now
    → Both k.now (handled_as (command_of setup outcome) outcome k source text) (handled_as (command_of setup outcome) outcome (with_history k h) source text)
text_both setup k h source text no_header r = record { history = h; same = refl; recalls = r; time = refl }
text_both setup k h source text (bad_version id) r = command_both k h source (faulty_command id 528) r
text_both setup k h source text (bad_body id) r = command_both k h source (faulty_command id 510) r
text_both setup k h source text (message (messages.Command verb id name params body)) r = command_both k h source (read_command setup verb id name params) r
text_both setup k h source text (message (messages.Response code id params body)) r = responded_both k h source code id params text r

texts_both : (setup : AgentSetup) (k : AgentMachine) (h : List Entry) (source : SocketAddrV4) (texts : List (List ℕ)) → Recalls k.history h k.now
    → Both k.now (took_all setup k source texts) (took_all setup (with_history k h) source texts)
unfolding took_all handled
texts_both setup k h source [] r = record { history = h; same = refl; recalls = r; time = refl }
texts_both setup k h source (text ∷ texts) r =
    let one = text_both setup k h source text (read_text text) r in
    let next = (handled setup k source text).machine in
    let rest = texts_both setup next one.history source texts (subst (Recalls next.history one.history) (sym one.time) one.recalls) in
    record {
      history = rest.history;
      same = ap (λ (done : AgentEffect). let e : AgentEffect = record { machine = (took_all setup done.machine source texts).machine; sent = done.sent ++ (took_all setup done.machine source texts).sent } in e) one.same
          ∙ ap (λ (done : AgentEffect). let e : AgentEffect = record { machine = done.machine; sent = (handled setup k source text).sent ++ done.sent } in e) rest.same;
      recalls = subst (Recalls (took_all setup next source texts).machine.history rest.history) one.time rest.recalls;
      time = rest.time ∙ one.time;
    }

goes_alike : (now : ℕ) (kept plain : AgentEffect) → Both now kept plain → AgentGoesAlike kept plain
goes_alike now kept plain both = record {
  alike = record {
    same = ap (λ (e : AgentEffect). e.machine) both.same ∙ ap (with_history kept.machine) (sym (ap (λ (e : AgentEffect). e.machine.history) both.same));
    history = subst (λ (x : List Entry). Recalls kept.machine.history x kept.machine.now) (sym (ap (λ (e : AgentEffect). e.machine.history) both.same))
        (subst (Recalls kept.machine.history both.history) (sym both.time) both.recalls);
  };
  sent = ap (λ (e : AgentEffect). e.sent) both.same;
}

event_both : (setup : AgentSetup) (k : AgentMachine) (h : List Entry) (event : AgentEvent) → Recalls k.history h k.now → agent_refusal k event ≡ None
    → Both (agent_clock k.now event) (agent_effect setup k event) (agent_effect setup (with_history k h) event)
unfolding agent_effect
event_both setup k h (issues verb name rest) r taken = record { history = h; same = refl; recalls = r; time = refl }
event_both setup k h (hears (datagram source bytes)) r taken = texts_both setup k h source (texts_of bytes) r
event_both setup k h (hears (phone line act)) r taken = record { history = h; same = refl; recalls = r; time = refl }
event_both setup k h (hears (tick moment)) r taken = record { history = h; same = refl; recalls = recalls_later k.history h k.now moment r (forward k (hears (tick moment)) taken); time = refl }

-- what is kept goes on as the plain agent that it is alike, at each event that isn't refused
pub effect_alike : (setup : AgentSetup) (k m : AgentMachine) (event : AgentEvent) → AgentAlike k m → agent_refusal k event ≡ None → AgentGoesAlike (agent_effect setup k event) (agent_effect setup m event)
effect_alike setup k m event a taken =
    subst (λ (x : AgentMachine). AgentGoesAlike (agent_effect setup k event) (agent_effect setup x event)) (sym a.same)
    (goes_alike (agent_clock k.now event) _ _ (event_both setup k m.history event a.history taken))
