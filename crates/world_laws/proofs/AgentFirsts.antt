-- The agent keeps the firsts of all commands that arrived, and what it has taken is what these told.
use Rattle.std.proofs.Common.{◌≡◌, ℕ, Bool, true, false, if◌then◌else◌, List, [], ◌∷◌, ◌++◌, map, Option, Some, None, refl, sym, ap, ◌∙◌, subst, arith, append-nil, append_assoc}
use Rattle.std.specs.Prelude.{fold, find, flat_map}
use Rattle.std.proofs.lemmas.List.{map-append}
use Rattle.std.proofs.lemmas.List.Sums.{fold-append}
use Rattle.std.proofs.lemmas.Grind.{flat_map-append}
use Rattle.std.specs.declared.net.socket_addr.SocketAddrV4.{SocketAddrV4}
use Rattle.mgcp_text.specs.declared.message.Param.{Param}
use Rattle.mgcp_text.specs.declared.message.Message.TheVariants as messages
use Rattle.mgcp_text.specs.Reading.{Outcome, message, no_header, bad_version, bad_body, read_text}
use Rattle.transmission.specs.declared.entry.Entry.{Entry}
use Rattle.transmission.specs.Arrival.{Arrival, unanswered}
use Rattle.transmission.specs.Memory.{most_firsts}
use Rattle.transmission.specs.Firsts.{Kind, a_first, a_repeat, lost, kind_of, added, firsts_of}
use Rattle.transmission.specs.Answers.{is_confirmed}
use Rattle.transmission.specs.Kept.{entries_of, entries_of_first, firsts_in}
use Rattle.transmission.specs.Looking.{Looked, new, repeat, confirmed, full, look_of, told_as}
use Rattle.transmission.specs.Recalling.{Remembers}
use Rattle.transmission.proofs.RecallLaws.{recalls_itself}
use Rattle.transmission.proofs.EntryLaws.{remembers_tells}
use Rattle.retransmission.specs.declared.reply.Reply.{Reply}
use Rattle.retransmission.specs.declared.reply.Reply.TheVariants.{Answered, Provisional, Stranger}
use Rattle.retransmission.specs.Flight.{InFlight, reply_of, heard}
use Rattle.plain_machine.specs.Event.{datagram, phone, tick, GatewayEvent}
use Rattle.transmission.specs.Texts.{texts_of}
use Rattle.plain_machine.specs.Arriving.{arrival, TextArrival, arrivals_of}
use Rattle.plain_machine.specs.Transactions.{asked_as, Asked, asked, commands_of}
use Rattle.machine_laws.proofs.TransactionLaws.{one_more, history_is}
use Rattle.call_agent.specs.Hearing.{AgentEvent, agent_effect, handled, handled_as, hears, issues, took_all}
use Rattle.call_agent.specs.declared.setup.AgentSetup.{AgentSetup}
use Rattle.call_agent.specs.declared.taking.Taken.{Taken}
use Rattle.call_agent.specs.Agent.{AgentMachine, nothing_taken}
use Rattle.call_agent.specs.Taking.{GatewayCommand, answer_to, command_of, transacted_by, with_taken, faulty_command, read_command}
use Rattle.packages.specs.declared.observed.Observed.{Observed}
use Rattle.world_laws.specs.Reached.{Reached, added_by, as_arrival, executed_with, reached, reached_as, taken_with, executed_of, key_kept, key_reached}
use Rattle.call_agent.specs.Responding.{replied, responded, responded_to}
use Rattle.call_agent.specs.Flying.{has_id}
use Rattle.world_laws.proofs.ReachedLaws.{executed_is}
use Rattle.transmission.proofs.BareLaws.{bare_kind, kind_bare, firsts_bare}
use Rattle.world_laws.proofs.LinkLaws.{arrives_with}
use Rattle.plain_machine.specs.declared.setup.Setup.{Setup}
use Rattle.plain_machine.specs.Machine.{opening}
use Rattle.plain_machine.specs.Lists.{plain}
use Rattle.machine_laws.proofs.WalkLemmas.{events_match}
use Rattle.world_laws.proofs.AgentLaws.{replied_kept as replied_history, replied_now as replied_time}

-- all commands that arrived so far, as these
pub record KeepsSo (setup : AgentSetup) (m : AgentMachine) (ones : List Reached) : Type 0 where
  pub earlier : List Arrival
  pub keeps : m.history ≡ entries_of (firsts_of most_firsts earlier)
  pub same : map as_arrival ones ≡ map unanswered earlier
  pub taken : m.taken ≡ fold with_taken (nothing_taken setup) (flat_map (taken_with setup) (fold executed_with [] ones))

abbrev as_it_arrives : ℕ → GatewayCommand → Arrival
as_it_arrives now command = record { id = command.id; moment = now; confirms = command.confirms; answer = answer_to command }

history_by : (kind : Kind) (m : AgentMachine) (source : SocketAddrV4) (command : GatewayCommand) (firsts : List Arrival) → m.history ≡ entries_of firsts
    → (transacted_by (told_as command.id kind) m source command).machine.history ≡ entries_of (added kind firsts (as_it_arrives m.now command))
history_by a_first m source command firsts keeps =
    append_assoc m.history _ _
    ∙ ap (λ (x : List Entry). x ++ entries_of_first (as_it_arrives m.now command)) keeps
    ∙ sym (flat_map-append entries_of_first firsts (as_it_arrives m.now command ∷ []))
history_by (a_repeat copied) m source command firsts keeps = by_confirmed (is_confirmed command.id copied.after) ∙ keeps where
  by_confirmed : (b : Bool) → (transacted_by (if b then confirmed else repeat copied.original.answer) m source command).machine.history ≡ m.history
  by_confirmed true = refl
  by_confirmed false = refl
history_by lost m source command firsts keeps = keeps

taken_by : (kind : Kind) (setup : AgentSetup) (m : AgentMachine) (source : SocketAddrV4) (command : GatewayCommand) (firsts : List Reached) (one : Reached) → taken_with setup one ≡ command.taken
    → m.taken ≡ fold with_taken (nothing_taken setup) (flat_map (taken_with setup) firsts)
    → (transacted_by (told_as command.id kind) m source command).machine.taken ≡ fold with_taken (nothing_taken setup) (flat_map (taken_with setup) (added_by (bare_kind kind) firsts one))
taken_by a_first setup m source command firsts one takes is =
    ap (λ (x : List (List Observed)). fold with_taken x command.taken) is
    ∙ sym (fold-append with_taken (nothing_taken setup) (flat_map (taken_with setup) firsts) command.taken)
    ∙ ap (λ (x : List Taken). fold with_taken (nothing_taken setup) (flat_map (taken_with setup) firsts ++ x)) (sym takes ∙ sym (append-nil (taken_with setup one)))
    ∙ ap (fold with_taken (nothing_taken setup)) (sym (flat_map-append (taken_with setup) firsts (one ∷ [])))
taken_by (a_repeat copied) setup m source command firsts one takes is = by_confirmed (is_confirmed command.id copied.after) ∙ is where
  by_confirmed : (b : Bool) → (transacted_by (if b then confirmed else repeat copied.original.answer) m source command).machine.taken ≡ m.taken
  by_confirmed true = refl
  by_confirmed false = refl
taken_by lost setup m source command firsts one takes is = is

executed_more : (ones : List Reached) (one : Reached) → fold executed_with [] (ones ++ one ∷ []) ≡ added_by (kind_of most_firsts (map as_arrival (fold executed_with [] ones)) (as_arrival one)) (fold executed_with [] ones) one
unfolding executed_with
executed_more ones one = fold-append executed_with [] ones (one ∷ [])

-- one command more
command_on : (setup : AgentSetup) (m : AgentMachine) (source : SocketAddrV4) (command : GatewayCommand) (ones : List Reached) (one : Reached) → KeepsSo setup m ones
    → as_arrival one ≡ unanswered (as_it_arrives m.now command) → taken_with setup one ≡ command.taken
    → KeepsSo setup (transacted_by (look_of most_firsts m.history command.id m.now) m source command).machine (ones ++ one ∷ [])
command_on setup m source command ones one k is takes =
    let a = as_it_arrives m.now command in
    let firsts = firsts_of most_firsts k.earlier in
    let kind = kind_of most_firsts firsts a in
    let remembers : Remembers m.history k.earlier 0 = rw (← k.keeps) (recalls_itself m.history) in
    let looked : look_of most_firsts m.history command.id m.now ≡ told_as command.id kind = remembers_tells m.history k.earlier a 0 remembers (omega arith) in
    let executed = fold executed_with [] ones in
    let before : map as_arrival executed ≡ map unanswered firsts = executed_is ones ∙ ap (firsts_of most_firsts) k.same ∙ firsts_bare most_firsts k.earlier in
    let same_kind : kind_of most_firsts (map as_arrival executed) (as_arrival one) ≡ bare_kind kind =
    ap (λ (x : List Arrival). kind_of most_firsts x (as_arrival one)) before ∙ ap (kind_of most_firsts (map unanswered firsts)) is ∙ kind_bare most_firsts firsts a in
    record {
      earlier = k.earlier ++ a ∷ [];
      keeps = ap (λ (told : Looked). (transacted_by told m source command).machine.history) looked ∙ history_by kind m source command firsts k.keeps ∙ ap entries_of (sym (one_more k.earlier a));
      same = map-append as_arrival ones (one ∷ []) ∙ ap (λ (x : List Arrival). x ++ as_arrival one ∷ []) k.same ∙ ap (λ (x : Arrival). map unanswered k.earlier ++ x ∷ []) is ∙ sym (map-append unanswered k.earlier (a ∷ []));
      taken = ap (λ (told : Looked). (transacted_by told m source command).machine.taken) looked ∙ taken_by kind setup m source command executed one takes k.taken
          ∙ ap (λ (x : Kind). fold with_taken (nothing_taken setup) (flat_map (taken_with setup) (added_by x executed one))) (sym same_kind)
          ∙ ap (λ (x : List Reached). fold with_taken (nothing_taken setup) (flat_map (taken_with setup) x)) (sym (executed_more ones one));
    }

same_machine : (setup : AgentSetup) (m n : AgentMachine) (ones : List Reached) → n.history ≡ m.history → n.taken ≡ m.taken → KeepsSo setup m ones → KeepsSo setup n ones
same_machine setup m n ones history taken k = record { earlier = k.earlier; keeps = history ∙ k.keeps; same = k.same; taken = taken ∙ k.taken }

none_more : (setup : AgentSetup) (m : AgentMachine) (ones : List Reached) → KeepsSo setup m ones → KeepsSo setup m (ones ++ [])
none_more setup m ones k = subst (KeepsSo setup m) (sym (append-nil ones)) k

replied_taken : (reply : Reply) (m : AgentMachine) (heard : InFlight) (code : ℕ) (text : List ℕ) → (replied reply m heard code text).taken ≡ m.taken
replied_taken Answered m heard code text = refl
replied_taken Provisional m heard code text = refl
replied_taken Stranger m heard code text = refl

-- what a response leaves
record Leaves (m n : AgentMachine) : Type 0 where
  history : n.history ≡ m.history
  taken : n.taken ≡ m.taken
  time : n.now ≡ m.now

responded_leaves : (m : AgentMachine) (source : SocketAddrV4) (code id : ℕ) (params : List Param) (text : List ℕ) → Leaves m (responded m source code id params text).machine
unfolding responded
responded_leaves m source code id params text = by_found (find (has_id id) m.flights) where
  by_found : (found : Option InFlight) → Leaves m (responded_to found m code id text)
  by_found None = record { history = refl; taken = refl; time = refl }
  by_found (Some flight) = record {
    history = replied_history (reply_of flight id code) m (heard flight id code m.now) code text;
    taken = replied_taken (reply_of flight id code) m (heard flight id code m.now) code text;
    time = replied_time (reply_of flight id code) m (heard flight id code m.now) code text;
  }

transacted_time : (looked : Looked) (m : AgentMachine) (source : SocketAddrV4) (command : GatewayCommand) → (transacted_by looked m source command).machine.now ≡ m.now
transacted_time new m source command = refl
transacted_time (repeat text) m source command = refl
transacted_time confirmed m source command = refl
transacted_time full m source command = refl

-- a text
record TextKeeps (setup : AgentSetup) (m n : AgentMachine) (ones more : List Reached) : Type 0 where
  so : KeepsSo setup n (ones ++ more)
  time : n.now ≡ m.now

text_on : (setup : AgentSetup) (m : AgentMachine) (source : SocketAddrV4) (text : List ℕ) (ones : List Reached) (outcome : Outcome) → KeepsSo setup m ones
    → TextKeeps setup m (handled_as (command_of setup outcome) outcome m source text).machine ones (map (reached_as outcome) (asked_as source m.now outcome))
text_on setup m source text ones no_header k = record { so = none_more setup m ones k; time = refl }
text_on setup m source text ones (bad_version id) k = record { so = command_on setup m source _ ones _ k refl refl; time = transacted_time (look_of most_firsts m.history id m.now) m source (faulty_command id 528) }
text_on setup m source text ones (bad_body id) k = record { so = command_on setup m source _ ones _ k refl refl; time = transacted_time (look_of most_firsts m.history id m.now) m source (faulty_command id 510) }
text_on setup m source text ones (message (messages.Command verb id name params body)) k =
    record { so = command_on setup m source _ ones _ k refl refl; time = transacted_time (look_of most_firsts m.history id m.now) m source (read_command setup verb id name params) }
text_on setup m source text ones (message (messages.Response code id params body)) k =
    let leaves = responded_leaves m source code id params text in
    record { so = none_more setup _ ones (same_machine setup m _ ones leaves.history leaves.taken k); time = leaves.time }

texts_on : (setup : AgentSetup) (m : AgentMachine) (source : SocketAddrV4) (texts : List (List ℕ)) (ones : List Reached) → KeepsSo setup m ones
    → KeepsSo setup (took_all setup m source texts).machine (ones ++ flat_map reached (map (arrival m.now source) texts))
unfolding took_all handled
texts_on setup m source [] ones k = none_more setup m ones k
texts_on setup m source (text ∷ texts) ones k =
    let one = text_on setup m source text ones (read_text text) k in
    let here = reached (arrival m.now source text) in
    let next = (handled setup m source text).machine in
    let rest = texts_on setup next source texts (ones ++ here) one.so in
    subst (KeepsSo setup (took_all setup next source texts).machine)
    (ap (λ (now : ℕ). (ones ++ here) ++ flat_map reached (map (arrival now source) texts)) one.time ∙ append_assoc ones here (flat_map reached (map (arrival m.now source) texts))) rest

pub keeps_on : (setup : AgentSetup) (m : AgentMachine) (event : AgentEvent) (ones : List Reached) → KeepsSo setup m ones
    → KeepsSo setup (agent_effect setup m event).machine (ones ++ flat_map reached (arrives_with m.now event))
unfolding agent_effect
keeps_on setup m (issues verb name rest) ones k = none_more setup _ ones (same_machine setup m _ ones refl refl k)
keeps_on setup m (hears (datagram source bytes)) ones k = texts_on setup m source (texts_of bytes) ones k
keeps_on setup m (hears (phone line act)) ones k = none_more setup m ones k
keeps_on setup m (hears (tick moment)) ones k = none_more setup _ ones (same_machine setup m _ ones refl refl k)

-- Which arrivals are firsts follows from their ids and moments; so the commands that are executed are the firsts that the
-- machine keeps.

abbrev pub asked_bare : Asked → Arrival
asked_bare one = record { id = one.id; moment = one.moment; confirms = one.confirms; answer = [] }

pub reached_bare : (arrivals : List TextArrival) → map as_arrival (flat_map reached arrivals) ≡ map asked_bare (flat_map asked arrivals)
reached_bare [] = refl
reached_bare (a ∷ arrivals) =
    map-append as_arrival (reached a) (flat_map reached arrivals)
    ∙ ap (λ (x : List Arrival). map as_arrival (reached a) ++ x) (reached_bare arrivals)
    ∙ ap (λ (x : List Arrival). x ++ map asked_bare (flat_map asked arrivals)) (one_by_one (asked a))
    ∙ sym (map-append asked_bare (asked a) (flat_map asked arrivals)) where
      one_by_one : (ones : List Asked) → map as_arrival (map (λ (one : Asked). let r : Reached = record { asked = one; outcome = a.outcome } in r) ones) ≡ map asked_bare ones
      one_by_one [] = refl
      one_by_one (one ∷ ones) = ap (λ (x : List Arrival). asked_bare one ∷ x) (one_by_one ones)

-- the commands that a gateway executes are the firsts of all commands that arrived
pub executed_firsts : (setup : Setup) (events : List GatewayEvent) → map as_arrival (executed_of (arrivals_of events)) ≡ map unanswered (firsts_of most_firsts (commands_of setup events))
executed_firsts setup events =
    executed_is (flat_map reached (arrivals_of events))
    ∙ ap (firsts_of most_firsts) (reached_bare (arrivals_of events) ∙ sym (events_match unanswered asked_bare (λ m source t. refl) setup (opening setup) events))
    ∙ firsts_bare most_firsts (commands_of setup events)

abbrev key_of : Arrival → ℕ × ℕ
key_of a = (a.id, a.moment)

kept_keys : (firsts : List Arrival) → map key_kept (firsts_in (entries_of firsts)) ≡ map key_of firsts
kept_keys [] = refl
kept_keys (first ∷ firsts) = ap (λ (x : List (ℕ × ℕ)). key_of first ∷ x) (kept_keys firsts)

bare_keys : (firsts : List Arrival) → map key_of (map unanswered firsts) ≡ map key_of firsts
bare_keys [] = refl
bare_keys (first ∷ firsts) = ap (λ (x : List (ℕ × ℕ)). key_of first ∷ x) (bare_keys firsts)

reached_keys : (ones : List Reached) → map key_of (map as_arrival ones) ≡ map key_reached ones
reached_keys [] = refl
reached_keys (one ∷ ones) = ap (λ (x : List (ℕ × ℕ)). key_reached one ∷ x) (reached_keys ones)

-- from the firsts that are kept to the commands that were executed
pub keys_from : (history : List Entry) (firsts : List Arrival) (ones : List Reached) → history ≡ entries_of firsts → map as_arrival ones ≡ map unanswered firsts
    → map key_kept (firsts_in history) ≡ map key_reached ones
keys_from history firsts ones keeps same =
    ap (λ (x : List Entry). map key_kept (firsts_in x)) keeps ∙ kept_keys firsts ∙ sym (bare_keys firsts) ∙ ap (map key_of) (sym same) ∙ reached_keys ones

pub kept_are_executed : (setup : Setup) (events : List GatewayEvent) → map key_kept (firsts_in (plain setup events).history) ≡ map key_reached (executed_of (arrivals_of events))
kept_are_executed setup events =
    keys_from (plain setup events).history (firsts_of most_firsts (commands_of setup events)) (executed_of (arrivals_of events)) (history_is setup events) (executed_firsts setup events)
