-- What the agent of a world took of a line's commands are those that the line began, in their order, but for the last at most.
use Rattle.std.proofs.Common.{◌≡◌, ℕ, ◌≤◌, Bool, true, false, ◌==◌, ◌&&◌, if◌then◌else◌, List, [], ◌∷◌, ◌++◌, map, Option, Some, None, inl, inr, refl, sym, ap, ◌∙◌, subst, append-nil, append_assoc, ◌<◌, length, arith}
use Rattle.std.specs.Prelude.{Any, is_none, filter, nat_lt}
use Rattle.std.proofs.lemmas.Bool.{eq-eqb, eqb-true, ltb-false, ltb-true}
use Rattle.std.proofs.lemmas.Grind.{flat_map-append}
use Rattle.std.proofs.lemmas.List.{map-append}
use Rattle.std.proofs.lemmas.List.Elements.{filter-append}
use Rattle.std.proofs.lemmas.Option.{none-some}
use Rattle.mgcp_text.specs.declared.message.Message.TheVariants as messages
use Rattle.mgcp_text.specs.declared.message.Param.{Param}
use Rattle.mgcp_text.specs.Reading.{Outcome, message, no_header, bad_version, bad_body, read_text}
use Rattle.retransmission.specs.Flight.{InFlight}
use Rattle.plain_machine.specs.declared.response.Response.{Response}
use Rattle.plain_machine.specs.declared.setup.Setup.{Setup}
use Rattle.plain_machine.specs.declared.endpoint.Endpoint.{Endpoint}
use Rattle.plain_machine.specs.Arriving.{TextArrival, arrivals_from, arrivals_of}
use Rattle.plain_machine.specs.Event.{GatewayEvent}
use Rattle.plain_machine.specs.Lists.{machine_after, plain, sent_from, sent_of}
use Rattle.plain_machine.specs.Machine.{Machine, opening, opening_endpoint, endpoint_at}
use Rattle.plain_machine.specs.Message.{Begun, Sent}
use Rattle.plain_machine.specs.Posting.{line_of_id}
use Rattle.plain_machine.specs.Setup.{IsSetUp}
use Rattle.plain_machine.proofs.ListLaws.{machine_on}
use Rattle.machine_laws.proofs.TurnLemmas.{on_made, of_line as of_its_line}
use Rattle.machine_laws.specs.Saying.{HasNumbersLeft, OneOf, begun_at, begun_in}
use Rattle.machine_laws.proofs.EachLemmas.{Each, each_back, each_front, each_from_all, each_weaker, one_from_any, one_weaker}
use Rattle.machine_laws.proofs.PostLogs.{few_before}
use Rattle.machine_laws.proofs.WaitLaws.{opening_waits, events_wait}
use Rattle.machine_laws.specs.Belonging.{of_line}
use Rattle.machine_laws.proofs.OwningLemmas.{of_both}
use Rattle.agent_core.specs.World.{World, WorldStep, gateway_in, plain_world, steps_are_taken, step_refusal, went, world_after, world_opening}
use Rattle.world_laws.specs.Reached.{Reached, own_in, taken_in}
use Rattle.world_laws.proofs.LinkLaws.{taken_once, taken_as_sent, world_linked}
use Rattle.world_laws.proofs.TakenLaws.{heard_was_taken, Move, gateway_took, agent_took, step_moves}
use Rattle.world_laws.specs.Course.{CourseStep}
use Rattle.world_laws.specs.GivenUp.{has_given_up}
use Rattle.world_laws.proofs.CourseLemmas.{AllHear, AnyResponse, Hears, Stands, EndpointTurns, events_stand, hear_all}
use Rattle.world_laws.proofs.DialledFlightLemmas.{Fine, Flies, FliesBeside, flight_turns, flying, gave_nothing_up, opening_flies, starts_gone, stays_gone}
use Rattle.world_laws.proofs.WellLemmas.{IsWell, sent_well}
use Rattle.world_laws.proofs.ToldLemmas.{is_mine, mine_is}
use Rattle.world_laws.proofs.MatchLemmas.{Apart, In, Matches, apart_filtered, apart_from, begun_free, begun_one, in_mapped, taken_matches}
use Rattle.world_laws.proofs.DialledTakenLemmas.{IsAsSent, is_of_line}
use Rattle.world_laws.proofs.OnTurns.{begun_both}
use Rattle.machine_laws.proofs.EventLemmas.{sent_on}

-- All that a line sent, the commands that it began, and those of them that the agent took

abbrev pub line_sent : Setup → ℕ → List GatewayEvent → List Sent
line_sent setup line events = of_line line (sent_of setup events)

abbrev pub line_begun : Setup → ℕ → List GatewayEvent → List Begun
line_begun setup line events = begun_in (line_sent setup line events)

abbrev pub line_taken : ℕ → List Reached → List Reached
line_taken line taken = filter (is_of_line line) taken

abbrev pub begun_ids : List Begun → List ℕ
begun_ids begun = map (λ (b : Begun). b.id) begun

abbrev pub taken_ids : List Reached → List ℕ
taken_ids taken = map (λ (one : Reached). one.asked.id) taken

-- a command with this id was taken
abbrev pub WasTaken : List Reached → ℕ → Type 0
WasTaken taken id = OneOf (λ (one : Reached). one.asked.id ≡ id) taken

pub sent_more : (setup : Setup) (line : ℕ) (took : List GatewayEvent) (event : GatewayEvent)
    → line_sent setup line (took ++ event ∷ []) ≡ line_sent setup line took ++ of_line line (sent_from setup (plain setup took) (event ∷ []))
sent_more setup line took event =
    ap (of_line line) (sent_on setup (opening setup) took (event ∷ [])) ∙ of_both line (sent_of setup took) (sent_from setup (plain setup took) (event ∷ []))

-- What is known of a line in each world

pub record Known (setup : Setup) (line : ℕ) (w : World) : Type 0 where
  pub apart : Apart (begun_ids (line_begun setup line w.gateway_took))
  pub once : Apart (taken_ids (line_taken line (taken_in w)))
  pub mine : Each (λ (b : Begun). line_of_id b.id ≡ line) (line_begun setup line w.gateway_took)
  pub as_sent : Each (λ (one : Reached). OneOf (IsAsSent one) (line_begun setup line w.gateway_took)) (line_taken line (taken_in w))
  pub flies : (s : Endpoint) → endpoint_at (gateway_in setup w).endpoints line ≡ Some s → Flies (WasTaken (taken_in w)) (Unit {0}) (line_sent setup line w.gateway_took) s

-- filtered by their ids

pub mine_each : (line : ℕ) (begun : List Begun) → Each (λ (b : Begun). line_of_id b.id ≡ line) (filter (is_mine line) begun)
mine_each line [] = tt
mine_each line (b ∷ begun) = by_test (is_mine line b) refl (mine_each line begun) where
  by_test : (t : Bool) → is_mine line b ≡ t → Each (λ (b : Begun). line_of_id b.id ≡ line) (filter (is_mine line) begun)
      → Each (λ (b : Begun). line_of_id b.id ≡ line) (if t then b ∷ filter (is_mine line) begun else filter (is_mine line) begun)
  by_test true is rest = (eqb-true (line_of_id b.id) line is, rest)
  by_test false is rest = rest

one_mine : (line : ℕ) (one : Reached) (begun : List Begun) → line_of_id one.asked.id ≡ line → OneOf (IsAsSent one) begun → OneOf (IsAsSent one) (filter (is_mine line) begun)
one_mine line one [] is none = none
one_mine line one (b ∷ begun) is found = by_test (is_mine line b) refl found (one_mine line one begun is) where
  by_test : (t : Bool) → is_mine line b ≡ t → OneOf (IsAsSent one) (b ∷ begun) → (OneOf (IsAsSent one) begun → OneOf (IsAsSent one) (filter (is_mine line) begun))
      → OneOf (IsAsSent one) (if t then b ∷ filter (is_mine line) begun else filter (is_mine line) begun)
  by_test true e (inl here) rest = inl here
  by_test true e (inr behind) rest = inr (rest behind)
  by_test false e (inl here) rest = absurd (let same : (line_of_id b.id == line) ≡ true = eq-eqb (line_of_id b.id) line (ap (λ (id : ℕ). line_of_id id) here.0 ∙ is) in cc)
  by_test false e (inr behind) rest = rest behind

taken_each : (line : ℕ) (own : List Begun) (taken : List Reached) → Each (λ (one : Reached). OneOf (IsAsSent one) own) taken
    → Each (λ (one : Reached). OneOf (IsAsSent one) (filter (is_mine line) own)) (filter (is_of_line line) taken)
taken_each line own [] each = tt
taken_each line own (one ∷ taken) each = by_test (is_of_line line one) refl (taken_each line own taken each.1) where
  by_test : (t : Bool) → is_of_line line one ≡ t → Each (λ (one : Reached). OneOf (IsAsSent one) (filter (is_mine line) own)) (filter (is_of_line line) taken)
      → Each (λ (one : Reached). OneOf (IsAsSent one) (filter (is_mine line) own)) (if t then one ∷ filter (is_of_line line) taken else filter (is_of_line line) taken)
  by_test true is rest = (one_mine line one own (eqb-true (line_of_id one.asked.id) line is) each.0, rest)
  by_test false is rest = rest

-- of the line, by its id
pub taken_mine : (line id : ℕ) (taken : List Reached) → line_of_id id ≡ line → WasTaken taken id → In id (taken_ids (line_taken line taken))
taken_mine line id [] is none = none
taken_mine line id (one ∷ taken) is found = by_test (is_of_line line one) refl found (taken_mine line id taken is) where
  by_test : (t : Bool) → is_of_line line one ≡ t → WasTaken (one ∷ taken) id → (WasTaken taken id → In id (taken_ids (line_taken line taken)))
      → In id (taken_ids (if t then one ∷ filter (is_of_line line) taken else filter (is_of_line line) taken))
  by_test true e (inl here) rest = inl here
  by_test true e (inr behind) rest = inr (rest behind)
  by_test false e (inl here) rest = absurd (let same : (line_of_id one.asked.id == line) ≡ true = eq-eqb (line_of_id one.asked.id) line (ap (λ (i : ℕ). line_of_id i) here ∙ is) in cc)
  by_test false e (inr behind) rest = rest behind

pub settled_taken : (line : ℕ) (taken : List Reached) (begun : List Begun) → Each (λ (b : Begun). WasTaken taken b.id) begun → Each (λ (b : Begun). line_of_id b.id ≡ line) begun
    → Each (λ (id : ℕ). In id (taken_ids (line_taken line taken))) (begun_ids begun)
settled_taken line taken [] was of = tt
settled_taken line taken (b ∷ begun) was of = (taken_mine line b.id taken of.0 was.0, settled_taken line taken begun was.1 of.1)

-- each of the line's that was taken began
pub taken_began : (begun : List Begun) (taken : List Reached) → Each (λ (one : Reached). OneOf (IsAsSent one) begun) taken → Each (λ (id : ℕ). In id (begun_ids begun)) (taken_ids taken)
taken_began begun [] each = tt
taken_began begun (one ∷ taken) each =
    (in_mapped (λ (b : Begun). b.id) one.asked.id begun (one_weaker (IsAsSent one) (λ (b : Begun). b.id ≡ one.asked.id) (λ b is. is.0) begun each.0), taken_began begun taken each.1)

abbrev pub IsFinal : (ℕ → Type 0) → Response → Type 0
IsFinal A response = 200 ≤ response.code → A response.id

pub hear_finals : (setup : Setup) (A : ℕ → Type 0) (arrivals : List TextArrival)
    → Each (λ (a : TextArrival). (code id : ℕ) (params : List Param) (body : List ℕ) → a.outcome ≡ message (messages.Response code id params body) → 200 ≤ code → A id) arrivals
    → AllHear setup (IsFinal A) arrivals
hear_finals setup A [] each = tt
hear_finals setup A (a ∷ arrivals) each = (by_outcome a.outcome each.0, hear_finals setup A arrivals each.1) where
  by_outcome : (outcome : Outcome) → ((code id : ℕ) (params : List Param) (body : List ℕ) → outcome ≡ message (messages.Response code id params body) → 200 ≤ code → A id)
      → Hears setup (IsFinal A) outcome
  by_outcome no_header all = tt
  by_outcome (bad_version id) all = tt
  by_outcome (bad_body id) all = tt
  by_outcome (message (messages.Command verb id name params body)) all = tt
  by_outcome (message (messages.Response code id params body)) all = λ high. all code id params body refl high

opening_stands : (setup : Setup) (A : ℕ → Type 0) (line : ℕ) (some : 1 ≤ line) → Stands setup (IsFinal A) (FliesBeside A (Unit {0})) (flight_turns A (Unit {0}) setup) line some [] [] (opening setup)
opening_stands setup A line some = record {
  order = opening_waits setup;
  holds = λ s at.
      of_its_line (λ n endpoint. Flies A (Unit {0}) [] endpoint) (opening setup).endpoints line s
      (on_made (λ n endpoint. Flies A (Unit {0}) [] endpoint) (opening_endpoint setup) 1 setup.names.lines (λ i low high. opening_flies A (Unit {0}) (opening_endpoint setup i) tt refl refl)) at;
}

pub line_flies : (setup : Setup) (line : ℕ) → 1 ≤ line → (steps : List WorldStep) → IsSetUp setup → steps_are_taken setup world_opening steps ≡ true → (s : Endpoint)
    → endpoint_at (gateway_in setup (plain_world setup steps)).endpoints line ≡ Some s
    → Flies (WasTaken (taken_in (plain_world setup steps))) (Unit {0}) (line_sent setup line (plain_world setup steps).gateway_took) s
line_flies setup line some steps set_up taken =
    let w = plain_world setup steps in
    let A : ℕ → Type 0 = WasTaken (taken_in w) in
    let P : TextArrival → Type 0 = λ a. (code id : ℕ) (params : List Param) (body : List ℕ) → a.outcome ≡ message (messages.Response code id params body) → 200 ≤ code → Any (λ (one : Reached). one.asked.id ≡ id) (taken_in w) in
    let finals : AllHear setup (IsFinal A) (arrivals_of w.gateway_took) =
    hear_finals setup A (arrivals_of w.gateway_took)
    (each_weaker P (λ (a : TextArrival). (code id : ℕ) (params : List Param) (body : List ℕ) → a.outcome ≡ message (messages.Response code id params body) → 200 ≤ code → A id)
    (λ a all. λ code id params body is high. one_from_any (λ (one : Reached). one.asked.id ≡ id) (taken_in w) (all code id params body is high)) (arrivals_of w.gateway_took)
    (each_from_all P (arrivals_of w.gateway_took) (heard_was_taken setup steps set_up taken))) in
    (events_stand setup (IsFinal A) (FliesBeside A (Unit {0})) (flight_turns A (Unit {0}) setup) line some (opening setup) [] [] 0 w.gateway_took finals (opening_stands setup A line some)).holds

pub known : (setup : Setup) (line : ℕ) (some : 1 ≤ line) (steps : List WorldStep) → IsSetUp setup → steps_are_taken setup world_opening steps ≡ true
    → HasNumbersLeft (own_in setup (plain_world setup steps)) → Known setup line (plain_world setup steps)
known setup line some steps set_up taken few =
    let w = plain_world setup steps in
    let well = each_from_all (IsWell setup) (sent_of setup w.gateway_took) (sent_well setup set_up w.gateway_took) in
    let mine : filter (is_mine line) (own_in setup w) ≡ line_begun setup line w.gateway_took = mine_is setup line (sent_of setup w.gateway_took) well in
    let Q : Reached → Type 0 = λ one. Any (λ (b : Begun). (b.id ≡ one.asked.id) × (one.outcome ≡ read_text b.text)) (own_in setup w) in
    let sent : Each (λ (one : Reached). OneOf (IsAsSent one) (own_in setup w)) (taken_in w) =
    each_weaker Q (λ (one : Reached). OneOf (IsAsSent one) (own_in setup w)) (λ one any. one_from_any (IsAsSent one) (own_in setup w) any) (taken_in w)
    (each_from_all Q (taken_in w) (taken_as_sent setup steps set_up taken)) in
    record {
      apart = subst (λ (x : List Begun). Apart (begun_ids x)) mine
          (apart_filtered (λ (b : Begun). b.id) (is_mine line) (own_in setup w)
          (apart_from (λ (b : Begun). b.id) (own_in setup w) ((world_linked setup steps set_up taken).links.gateway.stands.logged.apart few)));
      once = apart_filtered (λ (one : Reached). one.asked.id) (is_of_line line) (taken_in w)
          (apart_from (λ (one : Reached). one.asked.id) (taken_in w) (taken_once setup steps set_up taken few));
      mine = subst (Each (λ (b : Begun). line_of_id b.id ≡ line)) mine (mine_each line (own_in setup w));
      as_sent = subst (λ (x : List Begun). Each (λ (one : Reached). OneOf (IsAsSent one) x) (line_taken line (taken_in w))) mine (taken_each line (own_in setup w) (taken_in w) sent);
      flies = line_flies setup line some steps set_up taken;
    }

-- What the line began beside what was taken

abbrev pub MatchesIn : Setup → ℕ → World → Type 0
MatchesIn setup line w = (s : Endpoint) → endpoint_at (gateway_in setup w).endpoints line ≡ Some s → has_given_up (line_sent setup line w.gateway_took) s.post ≡ false
    → Matches (begun_ids (line_begun setup line w.gateway_took)) (taken_ids (line_taken line (taken_in w)))

-- the same, by what the gateway took and what was taken
abbrev MatchesBy : Setup → ℕ → List GatewayEvent → List Reached → Type 0
MatchesBy setup line took taken = (s : Endpoint) → endpoint_at (plain setup took).endpoints line ≡ Some s → has_given_up (line_sent setup line took) s.post ≡ false
    → Matches (begun_ids (line_begun setup line took)) (taken_ids (line_taken line taken))

-- no line comes from nowhere
abbrev NoEndpoint : Bool → List CourseStep → List Sent → Endpoint → Type 0
NoEndpoint serving course sent endpoint = ⊥

none_turns : (setup : Setup) → EndpointTurns setup AnyResponse NoEndpoint
none_turns setup = record {
  act = λ serving course sent line moment act endpoint none. absurd none;
  deed = λ course sent deed moment line endpoint none. absurd none;
  response = λ serving course sent line moment response endpoint any none. absurd none;
  happening = λ serving course sent line item endpoint is none. absurd none;
  redirecting = λ serving course sent agent line endpoint none. absurd none;
  opening = λ course sent agent moment line endpoint closed none. absurd none;
  answering = λ serving course sent one endpoint is none. absurd none;
}

module _ (setup : Setup) (line : ℕ) (some : 1 ≤ line) where
  pub none_comes : (took : List GatewayEvent) (event : GatewayEvent) (s : Endpoint) → endpoint_at (plain setup took).endpoints line ≡ None
      → endpoint_at (machine_after setup (plain setup took) (event ∷ [])).endpoints line ≡ Some s → ⊥
  none_comes took event s none at =
      (events_stand setup AnyResponse NoEndpoint (none_turns setup) line some (plain setup took) [] [] 0 (event ∷ [])
      (hear_all setup AnyResponse (λ response. tt) (arrivals_from 0 (event ∷ [])))
      (record { order = events_wait setup took; holds = λ x here. absurd (none-some x (sym none ∙ here)) })).holds s at

  abbrev AnyId : ℕ → Type 0
  AnyId id = Unit {0}

  -- what gave something up has done so after one event more
  pub stays_up : (took : List GatewayEvent) (event : GatewayEvent) (s s' : Endpoint) → endpoint_at (plain setup took).endpoints line ≡ Some s
      → endpoint_at (machine_after setup (plain setup took) (event ∷ [])).endpoints line ≡ Some s' → Flies AnyId ⊥ (line_sent setup line took) s
      → has_given_up (line_sent setup line took ++ of_line line (sent_from setup (plain setup took) (event ∷ []))) s'.post ≡ true
  stays_up took event s s' here there gone =
      stays_gone _ s'
      ((events_stand setup (IsFinal AnyId) (FliesBeside AnyId ⊥) (flight_turns AnyId ⊥ setup) line some (plain setup took) [] (line_sent setup line took) 0 (event ∷ [])
      (hear_all setup (IsFinal AnyId) (λ response. λ high. tt) (arrivals_from 0 (event ∷ [])))
      (record {
        order = events_wait setup took;
        holds = λ x at. subst (Flies AnyId ⊥ (line_sent setup line took)) (let both : Some s ≡ Some x = sym here ∙ at in (let same : s ≡ x = cc in same)) gone;
      })).holds s' there)

  -- the gateway takes an event
  gateway_matches : (took : List GatewayEvent) (event : GatewayEvent) (taken : List Reached)
      → ((s : Endpoint) → endpoint_at (plain setup took).endpoints line ≡ Some s → Flies (WasTaken taken) (Unit {0}) (line_sent setup line took) s)
      → Apart (begun_ids (line_begun setup line (took ++ event ∷ [])))
      → Each (λ (b : Begun). line_of_id b.id ≡ line) (line_begun setup line (took ++ event ∷ []))
      → Each (λ (one : Reached). OneOf (IsAsSent one) (line_begun setup line took)) (line_taken line taken)
      → ((s : Endpoint) → endpoint_at (plain setup (took ++ event ∷ [])).endpoints line ≡ Some s → Flies (WasTaken taken) (Unit {0}) (line_sent setup line (took ++ event ∷ [])) s)
      → MatchesBy setup line took taken → MatchesBy setup line (took ++ event ∷ []) taken
  gateway_matches took event taken flew apart mine as_sent flies before s' at' none = by_endpoint (endpoint_at (plain setup took).endpoints line) refl where
    there : endpoint_at (machine_after setup (plain setup took) (event ∷ [])).endpoints line ≡ Some s'
    there = ap (λ (m : Machine). endpoint_at m.endpoints line) (sym (machine_on setup (opening setup) took (event ∷ []))) ∙ at'

    new : List Begun
    new = begun_in (of_line line (sent_from setup (plain setup took) (event ∷ [])))

    sent_is : line_sent setup line (took ++ event ∷ []) ≡ line_sent setup line took ++ of_line line (sent_from setup (plain setup took) (event ∷ []))
    sent_is = sent_more setup line took event

    begun_is : line_begun setup line (took ++ event ∷ []) ≡ line_begun setup line took ++ new
    begun_is = ap begun_in sent_is ∙ flat_map-append begun_at (line_sent setup line took) (of_line line (sent_from setup (plain setup took) (event ∷ [])))

    ids_are : begun_ids (line_begun setup line (took ++ event ∷ [])) ≡ begun_ids (line_begun setup line took) ++ begun_ids new
    ids_are = ap begun_ids begun_is ∙ map-append (λ (b : Begun). b.id) (line_begun setup line took) new

    fine : Fine (WasTaken taken) (Unit {0}) (line_sent setup line (took ++ event ∷ [])) s'.post.restart s'.post.pending
    fine = gave_nothing_up (WasTaken taken) (Unit {0}) (line_sent setup line (took ++ event ∷ [])) s' (flies s' at') none

    settled_in : Each (λ (id : ℕ). In id (taken_ids (line_taken line taken))) (begun_ids fine.settled)
    settled_in =
        settled_taken line taken fine.settled fine.answered
        (each_front (λ (b : Begun). line_of_id b.id ≡ line) fine.settled (flying s'.post.pending) (subst (Each (λ (b : Begun). line_of_id b.id ≡ line)) fine.split mine))

    whole : (pending : Option InFlight) → s'.post.pending ≡ pending
        → begun_ids (line_begun setup line took) ++ begun_ids new ≡ begun_ids fine.settled ++ begun_ids (flying pending)
    whole pending is =
        sym ids_are ∙ ap begun_ids fine.split ∙ map-append (λ (b : Begun). b.id) fine.settled (flying s'.post.pending)
        ∙ ap (λ (p : Option InFlight). begun_ids fine.settled ++ begun_ids (flying p)) is

    by_pending : (pending : Option InFlight) → s'.post.pending ≡ pending → Matches (begun_ids (line_begun setup line took)) (taken_ids (line_taken line taken))
        → Matches (begun_ids (line_begun setup line took) ++ begun_ids new) (taken_ids (line_taken line taken))
    by_pending None is matches =
        begun_free (begun_ids (line_begun setup line took)) (begun_ids new) (taken_ids (line_taken line taken)) (begun_ids fine.settled) matches (subst Apart ids_are apart)
        (taken_began (line_begun setup line took) (line_taken line taken) as_sent) (whole None is ∙ append-nil (begun_ids fine.settled)) settled_in
    by_pending (Some flight) is matches =
        begun_one (begun_ids (line_begun setup line took)) (begun_ids new) (taken_ids (line_taken line taken)) (begun_ids fine.settled) flight.id matches (subst Apart ids_are apart)
        (taken_began (line_begun setup line took) (line_taken line taken) as_sent) (whole (Some flight) is) settled_in

    by_given : (s : Endpoint) → endpoint_at (plain setup took).endpoints line ≡ Some s → (b : Bool) → has_given_up (line_sent setup line took) s.post ≡ b
        → Matches (begun_ids (line_begun setup line took)) (taken_ids (line_taken line taken))
    by_given s here false is = before s here is
    by_given s here true is =
        absurd (let up = stays_up took event s s' here there (starts_gone (WasTaken taken) (Unit {0}) (line_sent setup line took) s (flew s here) is) in
        let clash : true ≡ false = sym up ∙ ap (λ (x : List Sent). has_given_up x s'.post) (sym sent_is) ∙ none in cc)

    by_endpoint : (found : Option Endpoint) → endpoint_at (plain setup took).endpoints line ≡ found
        → Matches (begun_ids (line_begun setup line (took ++ event ∷ []))) (taken_ids (line_taken line taken))
    by_endpoint None is = absurd (none_comes took event s' is there)
    by_endpoint (Some s) is =
        subst (λ (x : List ℕ). Matches x (taken_ids (line_taken line taken))) (sym ids_are)
        (by_pending s'.post.pending refl (by_given s is (has_given_up (line_sent setup line took) s.post) refl))

  -- the agent takes more
  agent_matches : (took : List GatewayEvent) (taken more : List Reached) → Apart (taken_ids (line_taken line (taken ++ more)))
      → Each (λ (one : Reached). OneOf (IsAsSent one) (line_begun setup line took)) (line_taken line (taken ++ more)) → MatchesBy setup line took taken → MatchesBy setup line took (taken ++ more)
  agent_matches took taken more once as_sent before s at none =
      subst (λ (x : List ℕ). Matches (begun_ids (line_begun setup line took)) x) (sym ids_are)
      (taken_matches (begun_ids (line_begun setup line took)) (taken_ids (line_taken line taken)) (taken_ids (line_taken line more)) (before s at none) (subst Apart ids_are once)
      (taken_began (line_begun setup line took) (line_taken line more)
      (each_back (λ (one : Reached). OneOf (IsAsSent one) (line_begun setup line took)) (line_taken line taken) (line_taken line more)
      (subst (Each (λ (one : Reached). OneOf (IsAsSent one) (line_begun setup line took))) (filter-append (is_of_line line) taken more) as_sent)))) where
        ids_are : taken_ids (line_taken line (taken ++ more)) ≡ taken_ids (line_taken line taken) ++ taken_ids (line_taken line more)
        ids_are = ap taken_ids (filter-append (is_of_line line) taken more) ∙ map-append (λ (one : Reached). one.asked.id) (line_taken line taken) (line_taken line more)

  one_matches : (w w' : World) → Move w w' → Known setup line w → Known setup line w' → MatchesIn setup line w → MatchesIn setup line w'
  one_matches w w' (agent_took more took taken) k k' before =
      subst (λ (events : List GatewayEvent). MatchesBy setup line events (taken_in w')) (sym took)
      (subst (MatchesBy setup line w.gateway_took) (sym taken)
      (agent_matches w.gateway_took (taken_in w) more (subst (λ (x : List Reached). Apart (taken_ids (line_taken line x))) taken k'.once)
      (subst (λ (x : List Reached). Each (λ (one : Reached). OneOf (IsAsSent one) (line_begun setup line w.gateway_took)) (line_taken line x)) taken
      (subst (λ (events : List GatewayEvent). Each (λ (one : Reached). OneOf (IsAsSent one) (line_begun setup line events)) (line_taken line (taken_in w'))) took k'.as_sent)) before))
  one_matches w w' (gateway_took event took taken) k k' before =
      subst (λ (events : List GatewayEvent). MatchesBy setup line events (taken_in w')) (sym took)
      (subst (MatchesBy setup line (w.gateway_took ++ event ∷ [])) (sym taken)
      (gateway_matches w.gateway_took event (taken_in w) k.flies (subst (λ (events : List GatewayEvent). Apart (begun_ids (line_begun setup line events))) took k'.apart)
      (subst (λ (events : List GatewayEvent). Each (λ (b : Begun). line_of_id b.id ≡ line) (line_begun setup line events)) took k'.mine) k.as_sent
      (subst (λ (x : List Reached). (s : Endpoint) → endpoint_at (plain setup (w.gateway_took ++ event ∷ [])).endpoints line ≡ Some s
      → Flies (WasTaken x) (Unit {0}) (line_sent setup line (w.gateway_took ++ event ∷ [])) s) taken
      (subst (λ (events : List GatewayEvent). (s : Endpoint) → endpoint_at (plain setup events).endpoints line ≡ Some s
      → Flies (WasTaken (taken_in w')) (Unit {0}) (line_sent setup line events) s) took k'.flies)) before))

-- Whole lists of steps

pub world_more : (setup : Setup) (w : World) (some more : List WorldStep) → world_after setup w (some ++ more) ≡ world_after setup (world_after setup w some) more
unfolding world_after
world_more setup w [] more = refl
world_more setup w (step ∷ some) more = world_more setup (went setup w step) some more

pub world_one : (setup : Setup) (before : List WorldStep) (step : WorldStep) → plain_world setup (before ++ step ∷ []) ≡ went setup (plain_world setup before) step
unfolding world_after
world_one setup before step = world_more setup world_opening before (step ∷ [])

pub taken_front : (setup : Setup) (w : World) (some more : List WorldStep) → steps_are_taken setup w (some ++ more) ≡ true → steps_are_taken setup w some ≡ true
unfolding steps_are_taken
taken_front setup w [] more taken = refl
taken_front setup w (step ∷ some) more taken = by_first (is_none (step_refusal setup w step)) taken (taken_front setup (went setup w step) some more) where
  by_first : (b : Bool) → (b && steps_are_taken setup (went setup w step) (some ++ more)) ≡ true
      → (steps_are_taken setup (went setup w step) (some ++ more) ≡ true → steps_are_taken setup (went setup w step) some ≡ true) → (b && steps_are_taken setup (went setup w step) some) ≡ true
  by_first true is rest = rest is
  by_first false is rest = is

-- numbers were left before

own_more : (setup : Setup) (w w' : World) → Move w w' → HasNumbersLeft (own_in setup w') → HasNumbersLeft (own_in setup w)
own_more setup w w' (agent_took more took taken) few = subst (λ (events : List GatewayEvent). HasNumbersLeft (begun_in (sent_of setup events))) took few
own_more setup w w' (gateway_took event took taken) few =
    let new : List Sent = sent_from setup (plain setup w.gateway_took) (event ∷ []) in
    let is : begun_in (sent_of setup (w.gateway_took ++ event ∷ [])) ≡ own_in setup w ++ begun_in new =
    ap begun_in (sent_on setup (opening setup) w.gateway_took (event ∷ [])) ∙ flat_map-append begun_at (sent_of setup w.gateway_took) new in
    λ line. few_before line (own_in setup w) (begun_in new)
    (subst HasNumbersLeft is (subst (λ (events : List GatewayEvent). HasNumbersLeft (begun_in (sent_of setup events))) took few) line)

own_before : (setup : Setup) (w : World) (steps : List WorldStep) → HasNumbersLeft (own_in setup (world_after setup w steps)) → HasNumbersLeft (own_in setup w)
unfolding world_after
own_before setup w [] few = few
own_before setup w (step ∷ steps) few = own_more setup w (went setup w step) (step_moves setup w step) (own_before setup (went setup w step) steps few)

own_front : (setup : Setup) (some more : List WorldStep) → HasNumbersLeft (own_in setup (plain_world setup (some ++ more))) → HasNumbersLeft (own_in setup (plain_world setup some))
own_front setup some more few =
    own_before setup (plain_world setup some) more (subst (λ (w : World). HasNumbersLeft (own_in setup w)) (world_more setup world_opening some more) few)

module _ (setup : Setup) (line : ℕ) (some : 1 ≤ line) (set_up : IsSetUp setup) where
  steps_match : (before after : List WorldStep) → steps_are_taken setup world_opening (before ++ after) ≡ true → HasNumbersLeft (own_in setup (plain_world setup (before ++ after)))
      → MatchesIn setup line (plain_world setup before) → MatchesIn setup line (plain_world setup (before ++ after))
  steps_match before [] taken few matches = subst (λ (steps : List WorldStep). MatchesIn setup line (plain_world setup steps)) (sym (append-nil before)) matches
  steps_match before (step ∷ after) taken few matches =
      let is : (before ++ step ∷ []) ++ after ≡ before ++ step ∷ after = append_assoc before (step ∷ []) after in
      let taken' : steps_are_taken setup world_opening ((before ++ step ∷ []) ++ after) ≡ true = ap (steps_are_taken setup world_opening) is ∙ taken in
      let few' : HasNumbersLeft (own_in setup (plain_world setup ((before ++ step ∷ []) ++ after))) = subst (λ (steps : List WorldStep). HasNumbersLeft (own_in setup (plain_world setup steps))) (sym is) few in
      let next_taken = taken_front setup world_opening (before ++ step ∷ []) after taken' in
      let next_few = own_front setup (before ++ step ∷ []) after few' in
      let here = known setup line some before set_up (taken_front setup world_opening before (step ∷ []) next_taken) (own_front setup before (step ∷ []) next_few) in
      let next = known setup line some (before ++ step ∷ []) set_up next_taken next_few in
      let move : Move (plain_world setup before) (plain_world setup (before ++ step ∷ [])) =
      subst (Move (plain_world setup before)) (sym (world_one setup before step)) (step_moves setup (plain_world setup before) step) in
      subst (λ (steps : List WorldStep). MatchesIn setup line (plain_world setup steps)) is
      (steps_match (before ++ step ∷ []) after taken' few' (one_matches setup line some (plain_world setup before) (plain_world setup (before ++ step ∷ [])) move here next matches))

  opening_matches : MatchesIn setup line (plain_world setup [])
  unfolding world_after sent_from arrivals_from
  opening_matches s at none = inl refl

  pub world_matches : (steps : List WorldStep) → steps_are_taken setup world_opening steps ≡ true → HasNumbersLeft (own_in setup (plain_world setup steps)) → MatchesIn setup line (plain_world setup steps)
  world_matches steps taken few = steps_match [] steps taken few opening_matches

-- The step at which the last command of a line began.

-- What a line began is the first of what it begins

abbrev TookMore : World → World → Type 0
TookMore w w' = (more : List GatewayEvent) × (w'.gateway_took ≡ w.gateway_took ++ more)

took_on : (w w' : World) → Move w w' → TookMore w w'
took_on w w' (agent_took more took taken) = ([], took ∙ sym (append-nil w.gateway_took))
took_on w w' (gateway_took event took taken) = (event ∷ [], took)

steps_took : (setup : Setup) (w : World) (steps : List WorldStep) → TookMore w (world_after setup w steps)
unfolding world_after
steps_took setup w [] = ([], sym (append-nil w.gateway_took))
steps_took setup w (step ∷ steps) =
    let one = took_on w (went setup w step) (step_moves setup w step) in
    let rest = steps_took setup (went setup w step) steps in
    (one.0 ++ rest.0, rest.1 ∙ ap (λ (x : List GatewayEvent). x ++ rest.0) one.1 ∙ append_assoc w.gateway_took one.0 rest.0)

abbrev pub line_began : Setup → ℕ → List WorldStep → List Begun
line_began setup line steps = line_begun setup line (plain_world setup steps).gateway_took

pub began_more : (setup : Setup) (line : ℕ) (some more : List WorldStep) → (begun : List Begun) × (line_began setup line (some ++ more) ≡ line_began setup line some ++ begun)
began_more setup line some more =
    let w = plain_world setup some in
    let t = steps_took setup w more in
    let since = sent_from setup (plain setup w.gateway_took) t.0 in (
      begun_in (of_line line since),
      ap (λ (x : World). line_begun setup line x.gateway_took) (world_more setup world_opening some more) ∙ ap (line_begun setup line) t.1
          ∙ ap begun_in (ap (of_line line) (sent_on setup (opening setup) w.gateway_took t.0) ∙ of_both line (sent_of setup w.gateway_took) since)
          ∙ begun_both (of_line line (sent_of setup w.gateway_took)) (of_line line since),
    )

-- The step

pub record BeganAt (setup : Setup) (line : ℕ) (steps : List WorldStep) : Type 0 where
  pub some : List WorldStep
  pub step : WorldStep
  pub later : List WorldStep
  pub order : steps ≡ (some ++ step ∷ []) ++ later
  pub fewer : length (line_began setup line some) < length (line_began setup line steps)
  pub all : line_began setup line (some ++ step ∷ []) ≡ line_began setup line steps

-- a beginning that is no shorter is the whole
pub whole_front : (some more whole : List Begun) → whole ≡ some ++ more → length whole ≤ length some → some ≡ whole
whole_front some [] whole is long = sym (is ∙ append-nil some)
whole_front some (b ∷ more) whole is long = absurd (longer some b more (subst (λ (x : List Begun). length x ≤ length some) is long)) where
  longer : (some : List Begun) (b : Begun) (more : List Begun) → length (some ++ b ∷ more) ≤ length some → ⊥
  longer [] b more few = absurd (omega (arith, few))
  longer (x ∷ some) b more few = longer some b more (omega (arith, few))

began_from : (setup : Setup) (line : ℕ) (some later : List WorldStep) → length (line_began setup line some) < length (line_began setup line (some ++ later)) → BeganAt setup line (some ++ later)
began_from setup line some [] fewer =
    absurd (let less : length (line_began setup line some) < length (line_began setup line some) = subst (λ (x : List WorldStep). length (line_began setup line some) < length (line_began setup line x)) (append-nil some) fewer in
    omega (arith, less))
began_from setup line some (step ∷ later) fewer =
    by_length (nat_lt (length (line_began setup line (some ++ step ∷ []))) (length (line_began setup line (some ++ step ∷ later)))) refl
    (λ less. subst (BeganAt setup line) is (began_from setup line (some ++ step ∷ []) later (subst (λ (x : List WorldStep). length (line_began setup line (some ++ step ∷ [])) < length (line_began setup line x)) (sym is) less))) where
      is : (some ++ step ∷ []) ++ later ≡ some ++ step ∷ later
      is = append_assoc some (step ∷ []) later

      by_length : (b : Bool) → nat_lt (length (line_began setup line (some ++ step ∷ []))) (length (line_began setup line (some ++ step ∷ later))) ≡ b
          → (length (line_began setup line (some ++ step ∷ [])) < length (line_began setup line (some ++ step ∷ later)) → BeganAt setup line (some ++ step ∷ later)) → BeganAt setup line (some ++ step ∷ later)
      by_length true less on = on (ltb-true _ _ less)
      by_length false long on =
          let more = began_more setup line (some ++ step ∷ []) later in
          record {
            some = some;
            step = step;
            later = later;
            order = sym is;
            fewer = fewer;
            all = whole_front (line_began setup line (some ++ step ∷ [])) more.0 (line_began setup line (some ++ step ∷ later)) (ap (line_began setup line) (sym is) ∙ more.1) (ltb-false _ _ long);
          }

pub began_at : (setup : Setup) (line : ℕ) (steps : List WorldStep) (front : List Begun) (b : Begun) → line_began setup line steps ≡ front ++ b ∷ [] → BeganAt setup line steps
unfolding world_after sent_from
began_at setup line steps front b is = began_from setup line [] steps (subst (λ (x : List Begun). 0 < length x) (sym is) (some_more front b)) where
  some_more : (front : List Begun) (b : Begun) → 0 < length (front ++ b ∷ [])
  some_more [] b = omega arith
  some_more (x ∷ front) b = omega arith
