use Rattle.std.proofs.Common.{◌≡◌, ℕ, List, [], codes, Option, Some, refl, sym, ap, subst}
use Rattle.std.specs.Prelude.{find, unwrap_or}
use Rattle.mgcp_text.specs.declared.message.Message.TheVariants as messages
use Rattle.mgcp_text.specs.declared.message.Param.{Param}
use Rattle.mgcp_text.specs.Reading.{Outcome, bad_body, bad_version, id_in, message, no_header, read_text}
use Rattle.transmission.proofs.RecallLaws.{recalls_itself}
use Rattle.retransmission.specs.declared.reply.Reply.TheVariants.{Answered, Provisional}
use Rattle.retransmission.specs.Flight.{InFlight, reply_of}
use Rattle.transmission.specs.Packing.{packed}
use Rattle.call_agent.specs.Choosing.{has_id}
use Rattle.call_agent.proofs.AgentStands.{effect_alike}
use Rattle.call_agent.proofs.StandLemmas.{stands_for_none, stays_so, took_event}
use Rattle.world_laws.specs.Example.{agent_from, agent_posts, agent_then, audit_by_agent}
use Rattle.world_laws.specs.LawExample.{agent_with, audit_flight, issued}
use Rattle.world_laws.proofs.Computing.{on_examples}
use Rattle.world_laws.proofs.law_examples.what_is_asked_of_agents_has_examples.Goals as goal

-- the code of a response
abbrev code_in : Outcome → ℕ
code_in no_header = 0
code_in (bad_version id) = 0
code_in (bad_body id) = 0
code_in (message (messages.Command verb id name params body)) = 0
code_in (message (messages.Response code id params body)) = code

-- a provisional response is no answer
no_answer : (code id : ℕ) (params : List Param) (body : List ℕ) (flight : InFlight) → read_text (codes "100 1\r\n") ≡ message (messages.Response code id params body)
    → find (has_id id) (agent_then issued).flights ≡ Some flight → reply_of flight id code ≡ Answered → ⊥
unfolding on_examples
no_answer code id params body flight reads found lands =
    let is_code : 100 ≡ code = ap code_in reads in
    let is_id : 1 ≡ id = ap (λ (o : Outcome). unwrap_or (id_in o) 0) reads in
    let there : find (has_id 1) (agent_then issued).flights ≡ Some flight = subst (λ (n : ℕ). find (has_id n) (agent_then issued).flights ≡ Some flight) (sym is_id) found in
    let same : audit_flight ≡ flight = ap (λ (o : Option InFlight). unwrap_or o audit_flight) there in
    let by_code : reply_of flight id 100 ≡ Answered = subst (λ (n : ℕ). reply_of flight id n ≡ Answered) (sym is_code) lands in
    let by_id : reply_of flight 1 100 ≡ Answered = subst (λ (n : ℕ). reply_of flight n 100 ≡ Answered) (sym is_id) by_code in
    let clash : Provisional ≡ Answered = subst (λ (f : InFlight). reply_of f 1 100 ≡ Answered) (sym same) by_id in
    cc

pub returns : goal.returns
unfolding on_examples
returns c = record {
  reads = refl;
  flies = refl;
  lands = refl;
  nothing_else = no_answer;
  due = refl;
  alike = record { same = refl; history = recalls_itself (agent_then issued).history };
  goes_on = refl;
  stands = record { taken = refl; alike = record { same = refl; history = recalls_itself (agent_then issued).history } };
  opens = stands_for_none (agent_with []) refl;
  took = took_event (agent_with []) (agent_with issued) audit_by_agent (packed (agent_posts [] audit_by_agent)) refl refl
      (λ m alike.
      let both = effect_alike (agent_from 1) (agent_then []) m audit_by_agent alike refl in
      record { alike = both.alike; outputs = ap packed (sym both.sent) });
  stays = stays_so (agent_with issued) (agent_with issued) refl (λ m alike. alike);
  takes = refl;
}
