-- The steps of a world keep what a line began in pairs with what the agent took of it.
use Rattle.std.proofs.Common.{◌≡◌, ℕ, ◌+◌, ◌<◌, ◌≤◌, Bool, true, false, List, [], ◌∷◌, ◌++◌, map, Option, Some, None, inl, inr, refl, sym, ap, ◌∙◌, subst, append-nil, append_assoc}
use Rattle.std.specs.Prelude.{◌⊎◌, Any, filter, flat_map}
use Rattle.std.proofs.lemmas.Grind.{flat_map-append}
use Rattle.std.proofs.lemmas.List.Elements.{filter-append}
use Rattle.mgcp_text.specs.declared.message.Message.TheVariants as messages
use Rattle.mgcp_text.specs.declared.message.Param.{Param}
use Rattle.mgcp_text.specs.Reading.{message}
use Rattle.plain_machine.specs.declared.endpoint.Endpoint.{Endpoint}
use Rattle.plain_machine.specs.declared.setup.Setup.{Setup}
use Rattle.std.specs.declared.net.socket_addr.SocketAddrV4.{SocketAddrV4}
use Rattle.transmission.specs.Texts.{texts_of}
use Rattle.plain_machine.specs.Arriving.{TextArrival, arrival, arrivals_at, arrivals_from, arrivals_of}
use Rattle.plain_machine.specs.Event.{GatewayEvent, datagram, phone, tick}
use Rattle.plain_machine.specs.Lists.{machine_after, plain, sent_from, sent_of}
use Rattle.plain_machine.specs.Machine.{Machine, endpoint_at, opening}
use Rattle.plain_machine.specs.Message.{Begun, Sent}
use Rattle.plain_machine.specs.Posting.{line_of_id}
use Rattle.plain_machine.specs.Setup.{IsSetUp}
use Rattle.plain_machine.proofs.EffectLaws.{effect_now}
use Rattle.plain_machine.proofs.ListLaws.{arrivals_on, machine_on}
use Rattle.machine_laws.specs.Belonging.{of_line}
use Rattle.machine_laws.specs.Saying.{OneOf, begun_at, begun_in}
use Rattle.machine_laws.proofs.EachLemmas.{Each, each_back, each_from_all, each_front, each_weaker, one_from_any}
use Rattle.machine_laws.proofs.WaitLaws.{events_wait}
use Rattle.agent_core.specs.World.{World, WorldStep, gateway_in, now_in, plain_world, steps_are_taken, world_after, world_opening}
use Rattle.world_laws.specs.Reached.{Reached, heard_in, own_in, reached, taken_in}
use Rattle.world_laws.proofs.LinkLaws.{Rises, world_linked}
use Rattle.world_laws.proofs.ReachedLaws.{executed_apart, executed_each}
use Rattle.world_laws.proofs.TakenLaws.{heard_lately, Move, agent_took, gateway_took, step_moves}
use Rattle.world_laws.proofs.WorldLaws.{Came, gateway_alone}
use Rattle.world_laws.proofs.CourseLemmas.{AllHear, events_stand}
use Rattle.world_laws.specs.GivenUp.{has_given_up}
use Rattle.world_laws.proofs.DialledFlightLemmas.{Fine, Flies, Gone, FliesBeside, flight_turns, flying, gave_nothing_up, starts_gone}
use Rattle.world_laws.proofs.DialledTakenLemmas.{Numbered, is_of_line}
use Rattle.world_laws.proofs.NumberTurns.{line_counted}
use Rattle.world_laws.proofs.PairLemmas.{Paired, Spaced, StandsLate, begun_pairs, taken_pairs}
use Rattle.world_laws.proofs.PairedWorlds.{Cut, came_each, cut, given_back, line_spaced, stands_late}
use Rattle.world_laws.proofs.ToldLemmas.{is_mine, mine_is}
use Rattle.world_laws.proofs.WellLemmas.{IsWell, sent_well}
use Rattle.world_laws.proofs.WorldLemmas.{IsFinal, WasTaken, hear_finals, line_begun, line_flies, line_sent, line_taken, mine_each, none_comes, sent_more, stays_up, taken_front, world_one}

-- What is known of a line in each world

-- a response with an id of the line is the answer to a command that was taken lately
abbrev IsLateOf : ℕ → List Reached → ℕ → Type 0
IsLateOf line of id = line_of_id id ≡ line → StandsLate of id

-- of what arrives at this moment
abbrev IsLateAt : (ℕ → Type 0) → ℕ → TextArrival → Type 0
IsLateAt A now a =
    (code id : ℕ) (params : List Param) (body : List ℕ) → a.outcome ≡ message (messages.Response code id params body) → 200 ≤ code → a.moment ≡ now → A id

now_given : (A : ℕ → Type 0) (now is : ℕ) (source : SocketAddrV4) (texts : List (List ℕ)) → now ≡ is → Each (IsLateAt A is) (map (arrival now source) texts)
    → Each (λ (a : TextArrival). (code id : ℕ) (params : List Param) (body : List ℕ) → a.outcome ≡ message (messages.Response code id params body) → 200 ≤ code → A id) (map (arrival now source) texts)
now_given A now is source [] same each = tt
now_given A now is source (text ∷ texts) same each = (λ code id params body reads high. each.0 code id params body reads high same, now_given A now is source texts same each.1)

pub record Stood (setup : Setup) (line : ℕ) (w : World) : Type 0 where
  pub spaced : Spaced (line_taken line (taken_in w))
  pub mine : Each (λ (b : Begun). line_of_id b.id ≡ line) (line_begun setup line w.gateway_took)
  pub came : Each (Came (line_begun setup line w.gateway_took)) (line_taken line (taken_in w))
  pub flies : (s : Endpoint) → endpoint_at (gateway_in setup w).endpoints line ≡ Some s → Flies (WasTaken (taken_in w)) (Unit {0}) (line_sent setup line w.gateway_took) s
  pub lately : Each (IsLateAt (IsLateOf line (line_taken line (taken_in w))) (now_in setup w)) (arrivals_of w.gateway_took)

pub stood : (setup : Setup) (line : ℕ) → 1 ≤ line → (steps : List WorldStep) → IsSetUp setup → steps_are_taken setup world_opening steps ≡ true → Stood setup line (plain_world setup steps)
stood setup line some steps set_up taken =
    let w = plain_world setup steps in
    let l = world_linked setup steps set_up taken in
    let well = each_from_all (IsWell setup) (sent_of setup w.gateway_took) (sent_well setup set_up w.gateway_took) in
    let mine : filter (is_mine line) (own_in setup w) ≡ line_begun setup line w.gateway_took = mine_is setup line (sent_of setup w.gateway_took) well in
    let arrived = flat_map reached (arrivals_of (heard_in w)) in
    let P : TextArrival → Type 0 = λ a. (code id : ℕ) (params : List Param) (body : List ℕ) → a.outcome ≡ message (messages.Response code id params body) → 200 ≤ code → Any (λ (one : Reached). (one.asked.id ≡ id) × (a.moment < one.asked.moment + 40000)) (taken_in w) in
    record {
      spaced = line_spaced line (taken_in w) (executed_apart arrived);
      mine = subst (Each (λ (b : Begun). line_of_id b.id ≡ line)) mine (mine_each line (own_in setup w));
      came = subst (λ (x : List Begun). Each (Came x) (line_taken line (taken_in w))) mine (came_each line (own_in setup w) (taken_in w) (executed_each (Came (own_in setup w)) arrived l.links.came));
      flies = line_flies setup line some steps set_up taken;
      lately = each_weaker P (IsLateAt (IsLateOf line (line_taken line (taken_in w))) (now_in setup w))
          (λ a late. λ code id params body is high same mine. stands_late line (now_in setup w) id arrived (subst (λ (n : ℕ). Rises n arrived) l.sound.clock l.links.rises) mine
          (subst (λ (n : ℕ). OneOf (λ (one : Reached). (one.asked.id ≡ id) × (n < one.asked.moment + 40000)) (taken_in w)) same
          (one_from_any (λ (one : Reached). (one.asked.id ≡ id) × (a.moment < one.asked.moment + 40000)) (taken_in w) (late code id params body is high)))) (arrivals_of w.gateway_took)
          (each_from_all P (arrivals_of w.gateway_took) (heard_lately setup steps set_up taken));
    }

-- One event of the gateway

abbrev PairedBy : Setup → ℕ → List GatewayEvent → List Reached → Type 0
PairedBy setup line took taken = (s : Endpoint) → endpoint_at (plain setup took).endpoints line ≡ Some s → has_given_up (line_sent setup line took) s.post ≡ false
    → Paired (line_begun setup line took) (line_taken line taken) s.post.pending

module _ (setup : Setup) (line : ℕ) (some : 1 ≤ line) where
  -- where nothing was given up, what was in flight and what began are what was answered and what is in flight
  event_fine : (A : ℕ → Type 0) (took : List GatewayEvent) (event : GatewayEvent) (now : ℕ) (s s' : Endpoint) → AllHear setup (IsFinal A) (arrivals_at now event)
      → endpoint_at (plain setup took).endpoints line ≡ Some s → endpoint_at (machine_after setup (plain setup took) (event ∷ [])).endpoints line ≡ Some s'
      → (before : List Begun) → begun_in (line_sent setup line took) ≡ before ++ flying s.post.pending → Flies (λ (id : ℕ). Unit {0}) (Unit {0}) (line_sent setup line took) s → has_given_up (line_sent setup line took) s.post ≡ false
      → has_given_up (line_sent setup line took ++ of_line line (sent_from setup (plain setup took) (event ∷ []))) s'.post ≡ false
      → (settled : List Begun) × ((flying s.post.pending ++ begun_in (of_line line (sent_from setup (plain setup took) (event ∷ []))) ≡ settled ++ flying s'.post.pending) × Each (λ (b : Begun). A b.id) settled)
  unfolding arrivals_from
  event_fine A took event now s s' hears here there before split flew was none = (fine.settled, (sym parts ∙ fine.split, fine.answered)) where
    c : Cut (line_sent setup line took) before (flying s.post.pending)
    c = cut (line_sent setup line took) before (flying s.post.pending) split

    new : List Sent
    new = of_line line (sent_from setup (plain setup took) (event ∷ []))

    parts : begun_in (c.back ++ new) ≡ flying s.post.pending ++ begun_in new
    parts = flat_map-append begun_at c.back new ∙ ap (λ (x : List Begun). x ++ begun_in new) c.behind

    old : Fine (λ (id : ℕ). Unit {0}) (Unit {0}) (line_sent setup line took) s.post.restart s.post.pending
    old = gave_nothing_up (λ (id : ℕ). Unit {0}) (Unit {0}) (line_sent setup line took) s flew was

    start : Flies A (Unit {0}) c.back s
    start = record { rests = flew.rests; either = inl (record { still = tt; serving = old.serving; settled = []; split = c.behind; answered = tt }) }

    flies : Flies A (Unit {0}) (c.back ++ new) s'
    flies =
        (events_stand setup (IsFinal A) (FliesBeside A (Unit {0})) (flight_turns A (Unit {0}) setup) line some (plain setup took) [] c.back now (event ∷ [])
        (subst (AllHear setup (IsFinal A)) (sym (append-nil (arrivals_at now event))) hears)
        (record {
          order = events_wait setup took;
          holds = λ x at. subst (Flies A (Unit {0}) c.back) (let both : Some s ≡ Some x = sym here ∙ at in (let same : s ≡ x = cc in same)) start;
        })).holds s' there

    fine : Fine A (Unit {0}) (c.back ++ new) s'.post.restart s'.post.pending
    fine =
        gave_nothing_up A (Unit {0}) (c.back ++ new) s' flies
        (given_back c.front (c.back ++ new) s'.post (subst (λ (x : List Sent). has_given_up x s'.post ≡ false) (ap (λ (x : List Sent). x ++ new) c.is ∙ append_assoc c.front c.back new) none))

  any_flies : (A : ℕ → Type 0) (sent : List Sent) (s : Endpoint) → Flies A (Unit {0}) sent s → Flies (λ (id : ℕ). Unit {0}) (Unit {0}) sent s
  any_flies A sent s flies = record { rests = flies.rests; either = by_either flies.either } where
    by_either : Fine A (Unit {0}) sent s.post.restart s.post.pending ⊎ Gone sent s.post.restart
        → Fine (λ (id : ℕ). Unit {0}) (Unit {0}) sent s.post.restart s.post.pending ⊎ Gone sent s.post.restart
    by_either (inl fine) = inl (record { still = tt; serving = fine.serving; settled = fine.settled; split = fine.split; answered = each_weaker (λ (b : Begun). A b.id) (λ (b : Begun). Unit {0}) (λ b is. tt) fine.settled fine.answered })
    by_either (inr gone) = inr gone

  -- the gateway takes an event
  gateway_pairs : (took : List GatewayEvent) (event : GatewayEvent) (taken : List Reached)
      → ((s : Endpoint) → endpoint_at (plain setup took).endpoints line ≡ Some s → Flies (WasTaken taken) (Unit {0}) (line_sent setup line took) s)
      → AllHear setup (IsFinal (IsLateOf line (line_taken line taken))) (arrivals_at (plain setup took).now event)
      → Each (λ (b : Begun). line_of_id b.id ≡ line) (line_begun setup line (took ++ event ∷ [])) → PairedBy setup line took taken → PairedBy setup line (took ++ event ∷ []) taken
  gateway_pairs took event taken flew hears mine before s' at' none = by_endpoint (endpoint_at (plain setup took).endpoints line) refl where
    there : endpoint_at (machine_after setup (plain setup took) (event ∷ [])).endpoints line ≡ Some s'
    there = ap (λ (m : Machine). endpoint_at m.endpoints line) (sym (machine_on setup (opening setup) took (event ∷ []))) ∙ at'

    new : List Sent
    new = of_line line (sent_from setup (plain setup took) (event ∷ []))

    sent_is : line_sent setup line (took ++ event ∷ []) ≡ line_sent setup line took ++ new
    sent_is = sent_more setup line took event

    begun_is : line_begun setup line (took ++ event ∷ []) ≡ line_begun setup line took ++ begun_in new
    begun_is = ap begun_in sent_is ∙ flat_map-append begun_at (line_sent setup line took) new

    none_new : has_given_up (line_sent setup line took ++ new) s'.post ≡ false
    none_new = subst (λ (x : List Sent). has_given_up x s'.post ≡ false) sent_is none

    Late : ℕ → Type 0
    Late = IsLateOf line (line_taken line taken)

    still_late : (settled : List Begun) → Each (λ (b : Begun). line_of_id b.id ≡ line) settled → Each (λ (b : Begun). Late b.id) settled → Each (λ (b : Begun). StandsLate (line_taken line taken) b.id) settled
    still_late [] of late = tt
    still_late (b ∷ settled) of late = (late.0 of.0, still_late settled of.1 late.1)

    from_fine : (s : Endpoint) → endpoint_at (plain setup took).endpoints line ≡ Some s → has_given_up (line_sent setup line took) s.post ≡ false
        → Fine (WasTaken taken) (Unit {0}) (line_sent setup line took) s.post.restart s.post.pending → Paired (line_begun setup line (took ++ event ∷ [])) (line_taken line taken) s'.post.pending
    from_fine s here is fine =
        let all : line_begun setup line (took ++ event ∷ []) ≡ (fine.settled ++ flying s.post.pending) ++ begun_in new = begun_is ∙ ap (λ (x : List Begun). x ++ begun_in new) fine.split in
        let done = event_fine Late took event (plain setup took).now s s' hears here there fine.settled fine.split (any_flies (WasTaken taken) (line_sent setup line took) s (flew s here)) is none_new in
        let counted = (line_counted setup line some (took ++ event ∷ []) s' at').1 in
        let of : Each (λ (b : Begun). line_of_id b.id ≡ line) (done.0 ++ flying s'.post.pending) =
        subst (Each (λ (b : Begun). line_of_id b.id ≡ line)) done.1.0
        (each_back (λ (b : Begun). line_of_id b.id ≡ line) fine.settled (flying s.post.pending ++ begun_in new)
        (subst (Each (λ (b : Begun). line_of_id b.id ≡ line)) (all ∙ append_assoc fine.settled (flying s.post.pending) (begun_in new)) mine)) in
        subst (λ (x : List Begun). Paired x (line_taken line taken) s'.post.pending) (sym all)
        (begun_pairs counted.0 s'.post.number (line_taken line taken) fine.settled (begun_in new) done.0 s.post.pending s'.post.pending
        (subst (λ (x : List Begun). Numbered counted.0 x s'.post.number) all counted.1) done.1.0
        (still_late done.0 (each_front (λ (b : Begun). line_of_id b.id ≡ line) done.0 (flying s'.post.pending) of) done.1.1)
        (subst (λ (x : List Begun). Paired x (line_taken line taken) s.post.pending) fine.split (before s here is)))

    by_given : (s : Endpoint) → endpoint_at (plain setup took).endpoints line ≡ Some s → (b : Bool) → has_given_up (line_sent setup line took) s.post ≡ b
        → Paired (line_begun setup line (took ++ event ∷ [])) (line_taken line taken) s'.post.pending
    by_given s here false is = from_fine s here is (gave_nothing_up (WasTaken taken) (Unit {0}) (line_sent setup line took) s (flew s here) is)
    by_given s here true is =
        absurd (let up = stays_up setup line some took event s s' here there (starts_gone (WasTaken taken) (Unit {0}) (line_sent setup line took) s (flew s here) is) in
        let clash : true ≡ false = sym up ∙ none_new in cc)

    by_endpoint : (found : Option Endpoint) → endpoint_at (plain setup took).endpoints line ≡ found → Paired (line_begun setup line (took ++ event ∷ [])) (line_taken line taken) s'.post.pending
    by_endpoint None is = absurd (none_comes setup line some took event s' is there)
    by_endpoint (Some s) is = by_given s is (has_given_up (line_sent setup line took) s.post) refl

  -- the agent takes more
  agent_pairs : (took : List GatewayEvent) (taken more : List Reached) → Spaced (line_taken line (taken ++ more)) → Each (Came (line_begun setup line took)) (line_taken line (taken ++ more))
      → PairedBy setup line took taken → PairedBy setup line took (taken ++ more)
  agent_pairs took taken more spaced came before s at none =
      subst (λ (x : List Reached). Paired (line_begun setup line took) x s.post.pending) (sym both)
      (taken_pairs (line_begun setup line took) (line_taken line taken) (line_taken line more) s.post.pending (before s at none) (subst Spaced both spaced)
      (each_back (Came (line_begun setup line took)) (line_taken line taken) (line_taken line more) (subst (Each (Came (line_begun setup line took))) both came))) where
        both : line_taken line (taken ++ more) ≡ line_taken line taken ++ line_taken line more
        both = filter-append (is_of_line line) taken more

  -- what arrives with an event answers what was taken lately
  event_hears : (w w' : World) (event : GatewayEvent) → w'.gateway_took ≡ w.gateway_took ++ event ∷ [] → taken_in w' ≡ taken_in w → Stood setup line w'
      → AllHear setup (IsFinal (IsLateOf line (line_taken line (taken_in w)))) (arrivals_at (gateway_in setup w).now event)
  event_hears w w' (phone other act) took taken k = tt
  event_hears w w' (tick moment) took taken k = tt
  event_hears w w' (datagram source bytes) took taken k =
      hear_finals setup (IsLateOf line (line_taken line (taken_in w))) (arrivals_at (gateway_in setup w).now (datagram source bytes))
      (now_given (IsLateOf line (line_taken line (taken_in w))) (gateway_in setup w).now (now_in setup w') source (texts_of bytes) same
      (each_back (IsLateAt (IsLateOf line (line_taken line (taken_in w))) (now_in setup w')) (arrivals_of w.gateway_took) (arrivals_at (gateway_in setup w).now (datagram source bytes))
      (subst (Each (IsLateAt (IsLateOf line (line_taken line (taken_in w))) (now_in setup w')))
      (ap arrivals_of took ∙ arrivals_on setup (opening setup) w.gateway_took (datagram source bytes))
      (subst (λ (x : List Reached). Each (IsLateAt (IsLateOf line (line_taken line x)) (now_in setup w')) (arrivals_of w'.gateway_took)) taken k.lately)))) where
        same : (gateway_in setup w).now ≡ now_in setup w'
        same =
            sym (ap (λ (x : List GatewayEvent). (plain setup x).now) took
            ∙ ap (λ (m : Machine). m.now) (machine_on setup (opening setup) w.gateway_took (datagram source bytes ∷ []) ∙ gateway_alone setup (gateway_in setup w) (datagram source bytes))
            ∙ effect_now setup (gateway_in setup w) (datagram source bytes))

  one_pairs : (w w' : World) → Move w w' → Stood setup line w → Stood setup line w' → PairedBy setup line w.gateway_took (taken_in w) → PairedBy setup line w'.gateway_took (taken_in w')
  one_pairs w w' (agent_took more took taken) k k' before =
      subst (λ (events : List GatewayEvent). PairedBy setup line events (taken_in w')) (sym took)
      (subst (PairedBy setup line w.gateway_took) (sym taken)
      (agent_pairs w.gateway_took (taken_in w) more (subst (λ (x : List Reached). Spaced (line_taken line x)) taken k'.spaced)
      (subst (λ (x : List Reached). Each (Came (line_begun setup line w.gateway_took)) (line_taken line x)) taken
      (subst (λ (events : List GatewayEvent). Each (Came (line_begun setup line events)) (line_taken line (taken_in w'))) took k'.came)) before))
  one_pairs w w' (gateway_took event took taken) k k' before =
      subst (λ (events : List GatewayEvent). PairedBy setup line events (taken_in w')) (sym took)
      (subst (PairedBy setup line (w.gateway_took ++ event ∷ [])) (sym taken)
      (gateway_pairs w.gateway_took event (taken_in w) k.flies (event_hears w w' event took taken k')
      (subst (λ (events : List GatewayEvent). Each (λ (b : Begun). line_of_id b.id ≡ line) (line_begun setup line events)) took k'.mine) before))

  steps_pair : (set_up : IsSetUp setup) (before after : List WorldStep) → steps_are_taken setup world_opening (before ++ after) ≡ true
      → PairedBy setup line (plain_world setup before).gateway_took (taken_in (plain_world setup before))
      → PairedBy setup line (plain_world setup (before ++ after)).gateway_took (taken_in (plain_world setup (before ++ after)))
  steps_pair set_up before [] taken pairs = subst (λ (steps : List WorldStep). PairedBy setup line (plain_world setup steps).gateway_took (taken_in (plain_world setup steps))) (sym (append-nil before)) pairs
  steps_pair set_up before (step ∷ after) taken pairs =
      let is : (before ++ step ∷ []) ++ after ≡ before ++ step ∷ after = append_assoc before (step ∷ []) after in
      let taken' : steps_are_taken setup world_opening ((before ++ step ∷ []) ++ after) ≡ true = ap (steps_are_taken setup world_opening) is ∙ taken in
      let next_taken = taken_front setup world_opening (before ++ step ∷ []) after taken' in
      let here = stood setup line some before set_up (taken_front setup world_opening before (step ∷ []) next_taken) in
      let next = stood setup line some (before ++ step ∷ []) set_up next_taken in
      let move : Move (plain_world setup before) (plain_world setup (before ++ step ∷ [])) =
      subst (Move (plain_world setup before)) (sym (world_one setup before step)) (step_moves setup (plain_world setup before) step) in
      subst (λ (steps : List WorldStep). PairedBy setup line (plain_world setup steps).gateway_took (taken_in (plain_world setup steps))) is
      (steps_pair set_up (before ++ step ∷ []) after taken' (one_pairs (plain_world setup before) (plain_world setup (before ++ step ∷ [])) move here next pairs))

  opening_pairs : PairedBy setup line (plain_world setup []).gateway_took (taken_in (plain_world setup []))
  unfolding world_after sent_from arrivals_from
  opening_pairs s at none = inl tt

  pub world_paired : IsSetUp setup → (steps : List WorldStep) → steps_are_taken setup world_opening steps ≡ true → (s : Endpoint) → let w = plain_world setup steps in
      endpoint_at (gateway_in setup w).endpoints line ≡ Some s → has_given_up (line_sent setup line w.gateway_took) s.post ≡ false
      → Paired (line_begun setup line w.gateway_took) (line_taken line (taken_in w)) s.post.pending
  world_paired set_up steps taken s at none = steps_pair set_up [] steps taken opening_pairs s at none
