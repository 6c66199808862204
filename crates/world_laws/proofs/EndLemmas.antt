-- What is dialled at a line is what the agent took of it, what is on its way, and what is quarantined.
use Rattle.std.proofs.Common.{◌≡◌, ℕ, Bool, true, false, ◌==◌, ◌||◌, if◌then◌else◌, List, [], ◌∷◌, ◌++◌, Option, Some, None, inl, inr, refl, sym, ap, ◌∙◌, subst, append-nil, append_assoc}
use Rattle.std.specs.Prelude.{Any, flat_map}
use Rattle.std.proofs.lemmas.Bool.{eq-eqb, eqb-true}
use Rattle.std.proofs.lemmas.Grind.{flat_map-append}
use Rattle.std.proofs.lemmas.List.{map-append}
use Rattle.mgcp_text.specs.Reading.{read_text}
use Rattle.packages.specs.declared.observed.Observed.{Observed}
use Rattle.retransmission.specs.Flight.{InFlight}
use Rattle.plain_machine.specs.declared.setup.Setup.{Setup}
use Rattle.plain_machine.specs.declared.endpoint.Endpoint.{Endpoint}
use Rattle.plain_machine.specs.Event.{GatewayEvent}
use Rattle.plain_machine.specs.Lists.{plain, sent_of}
use Rattle.plain_machine.specs.Machine.{endpoint_at}
use Rattle.plain_machine.specs.Posting.{line_of_id}
use Rattle.plain_machine.specs.Setup.{IsSetUp}
use Rattle.plain_machine.specs.Message.{Begun}
use Rattle.machine_laws.specs.Saying.{HasNumbersLeft, OneOf}
use Rattle.machine_laws.proofs.EachLemmas.{Each, each_back, each_front, each_from_all, each_weaker, one_from_any, one_weaker}
use Rattle.machine_laws.proofs.OwningLemmas.{place_of}
use Rattle.world_laws.specs.Course.{course_from, course_of}
use Rattle.world_laws.specs.GivenUp.{has_given_up}
use Rattle.world_laws.specs.Dialled.{done_in, told_along, IsAskedForAll, IsToldOnce}
use Rattle.world_laws.specs.Keeping.{happened_in}
use Rattle.world_laws.proofs.KeepingLemmas.{happened_both}
use Rattle.world_laws.proofs.OverLists.{course_told}
use Rattle.call_agent.specs.Agent.{observed_on}
use Rattle.agent_core.specs.World.{World, WorldStep, agent_in, gateway_in, plain_world, steps_are_taken, world_opening}
use Rattle.world_laws.specs.Reached.{Reached, own_in, taken_in}
use Rattle.world_laws.proofs.LinkLaws.{taken_as_sent}
use Rattle.world_laws.proofs.ToldLaws.{told_is}
use Rattle.world_laws.specs.Untaken.{told_as, has_taken, untaken}
use Rattle.world_laws.proofs.DialledFlightLemmas.{flying, gave_nothing_up}
use Rattle.world_laws.proofs.WellLemmas.{IsWell, sent_well}
use Rattle.world_laws.proofs.ToldLemmas.{begun_tell, course_tells, told_by}
use Rattle.world_laws.proofs.PairLemmas.{Paired, pairs_tell}
use Rattle.world_laws.proofs.PairedSteps.{world_paired}
use Rattle.world_laws.proofs.MatchLemmas.{Apart, In, Last, Matches, TellsAs, apart_clash, apart_front, each_in, ends_same, in_of_each, last_in, last_of, one_with, tell_same}
use Rattle.world_laws.proofs.LookLemmas.{each_two}
use Rattle.world_laws.proofs.DialledTakenLemmas.{IsAsSent, is_of_line, taken_tells, told_taken}
use Rattle.world_laws.proofs.WorldLemmas.{WasTaken, begun_ids, known, line_begun, line_sent, line_taken, settled_taken, taken_ids, taken_mine, world_matches}

-- Whether a command was taken

taken_true : (id : ℕ) (taken : List Reached) → WasTaken taken id → has_taken id taken ≡ true
taken_true id [] none = absurd none
taken_true id (one ∷ taken) (inl same) = ap (λ (b : Bool). b || has_taken id taken) (eq-eqb one.asked.id id same)
taken_true id (one ∷ taken) (inr behind) = by_test (one.asked.id == id) (taken_true id taken behind) where
  by_test : (b : Bool) → has_taken id taken ≡ true → (b || has_taken id taken) ≡ true
  by_test true rest = refl
  by_test false rest = rest

taken_one : (id : ℕ) (taken : List Reached) → has_taken id taken ≡ true → WasTaken taken id
taken_one id [] is = absurd cc
taken_one id (one ∷ taken) is = by_test (one.asked.id == id) refl is (taken_one id taken) where
  by_test : (b : Bool) → (one.asked.id == id) ≡ b → (b || has_taken id taken) ≡ true → (has_taken id taken ≡ true → WasTaken taken id) → WasTaken (one ∷ taken) id
  by_test true same is rest = inl (eqb-true one.asked.id id same)
  by_test false other is rest = inr (rest is)

taken_whole : (line id : ℕ) (taken : List Reached) → WasTaken (line_taken line taken) id → WasTaken taken id
taken_whole line id [] none = none
taken_whole line id (one ∷ taken) found = by_test (is_of_line line one) found (taken_whole line id taken) where
  by_test : (b : Bool) → WasTaken (if b then one ∷ line_taken line taken else line_taken line taken) id → (WasTaken (line_taken line taken) id → WasTaken taken id) → WasTaken (one ∷ taken) id
  by_test true (inl here) rest = inl here
  by_test true (inr behind) rest = inr (rest behind)
  by_test false found rest = inr (rest found)

-- What the commands of a line tell

abbrev Tells : Reached → Begun → Type 0
Tells one b = TellsAs (λ (x : Begun). x.id) (λ (x : Reached). x.asked.id) told_by told_taken one b

sent_tells : (one : Reached) (b : Begun) → IsAsSent one b → Tells one b
sent_tells one b is = (is.0, ap told_as (sym is.1))

not_last : (P : Begun → Type 0) (front : List Begun) (last : Begun) → OneOf P (front ++ last ∷ []) → (P last → ⊥) → OneOf P front
not_last P [] last (inl is) never = never is
not_last P [] last (inr none) never = none
not_last P (b ∷ front) last (inl is) never = inl is
not_last P (b ∷ front) last (inr behind) never = inr (not_last P front last behind never)

module _ (line : ℕ) (begun settled : List Begun) (taken : List Reached) (apart : Apart (begun_ids begun)) (mine : Each (λ (b : Begun). line_of_id b.id ≡ line) begun)
    (as_sent : Each (λ (one : Reached). OneOf (IsAsSent one) begun) (line_taken line taken)) (answered : Each (λ (b : Begun). WasTaken taken b.id) settled) where
  abbrev of : List Reached
  of = line_taken line taken

  tells_each : Each (λ (one : Reached). OneOf (Tells one) begun) of
  tells_each =
      each_weaker (λ (one : Reached). OneOf (IsAsSent one) begun) (λ (one : Reached). OneOf (Tells one) begun)
      (λ one is. one_weaker (IsAsSent one) (Tells one) (sent_tells one) begun is) of as_sent

  -- all that began was taken
  all_told : begun_ids begun ≡ taken_ids of → flat_map told_by begun ≡ flat_map told_taken of
  all_told same = tell_same (λ (b : Begun). b.id) (λ (one : Reached). one.asked.id) told_by told_taken begun of same apart tells_each

  none_untaken : (pending : Option InFlight) → begun ≡ settled ++ flying pending → begun_ids begun ≡ taken_ids of → untaken taken pending ≡ []
  none_untaken None is same = refl
  none_untaken (Some flight) is same =
      let inside : In flight.id (begun_ids begun) =
      subst (In flight.id) (sym (ap begun_ids is ∙ map-append (λ (b : Begun). b.id) settled (flying (Some flight)))) (last_in (begun_ids settled) flight.id) in
      ap (λ (b : Bool). if b then [] else told_as (read_text flight.text))
      (taken_true flight.id taken (taken_whole line flight.id taken (one_with (λ (one : Reached). one.asked.id) flight.id of (subst (In flight.id) same inside))))

  -- all but the last
  but_last : (pending : Option InFlight) → begun ≡ settled ++ flying pending → (id : ℕ) → begun_ids begun ≡ taken_ids of ++ id ∷ []
      → flat_map told_by begun ≡ flat_map told_taken of ++ untaken taken pending
  but_last pending is id more = by_pending pending is where
    clash : In id (taken_ids of) → ⊥
    clash inside = apart_clash (taken_ids of) (id ∷ []) id (subst Apart more apart) inside (inl refl)

    settled_in : Each (λ (i : ℕ). In i (taken_ids of)) (begun_ids settled)
    settled_in = settled_taken line taken settled answered (each_front (λ (b : Begun). line_of_id b.id ≡ line) settled (flying pending) (subst (Each (λ (b : Begun). line_of_id b.id ≡ line)) is mine))

    last : Last (λ (b : Begun). b.id) begun (taken_ids of) id
    last = last_of (λ (b : Begun). b.id) begun (taken_ids of) id more

    fronts : Each (λ (one : Reached). OneOf (Tells one) last.front) of
    fronts =
        each_weaker (λ (one : Reached). OneOf (Tells one) begun × In one.asked.id (taken_ids of)) (λ (one : Reached). OneOf (Tells one) last.front)
        (λ one both. not_last (Tells one) last.front last.last (subst (OneOf (Tells one)) last.is both.0)
        (λ tells. clash (subst (λ (i : ℕ). In i (taken_ids of)) (sym tells.0 ∙ last.id_is) both.1)))
        of (each_two (λ (one : Reached). OneOf (Tells one) begun) (λ (one : Reached). In one.asked.id (taken_ids of)) of tells_each (each_in (λ (one : Reached). one.asked.id) of))

    front_told : flat_map told_by last.front ≡ flat_map told_taken of
    front_told =
        tell_same (λ (b : Begun). b.id) (λ (one : Reached). one.asked.id) told_by told_taken last.front of last.ids_are
        (apart_front (begun_ids last.front) (last.last.id ∷ []) (subst Apart (ap begun_ids last.is ∙ map-append (λ (b : Begun). b.id) last.front (last.last ∷ [])) apart)) fronts

    by_taken : (flight : InFlight) → begun ≡ settled ++ flying (Some flight) → last.last ≡ record { id = flight.id; moment = flight.first; text = flight.text } → (b : Bool) → has_taken flight.id taken ≡ b
        → told_by last.last ++ [] ≡ (if b then [] else told_as (read_text flight.text))
    by_taken flight is same true was =
        absurd (let here : flight.id ≡ id = sym (ap (λ (b : Begun). b.id) same) ∙ last.id_is in
        let of_it = each_back (λ (b : Begun). line_of_id b.id ≡ line) settled (flying (Some flight)) (subst (Each (λ (b : Begun). line_of_id b.id ≡ line)) is mine) in
        clash (subst (λ (i : ℕ). In i (taken_ids of)) here (taken_mine line flight.id taken of_it.0 (taken_one flight.id taken was))))
    by_taken flight is same false was = append-nil (told_by last.last) ∙ ap told_by same

    by_pending : (pending : Option InFlight) → begun ≡ settled ++ flying pending → flat_map told_by begun ≡ flat_map told_taken of ++ untaken taken pending
    by_pending None is =
        absurd (clash (in_of_each (λ (i : ℕ). In i (taken_ids of)) id (begun_ids settled) settled_in
        (subst (In id) (sym more ∙ ap begun_ids (is ∙ append-nil settled)) (last_in (taken_ids of) id))))
    by_pending (Some flight) is =
        let same = (ends_same last.front settled last.last _ (sym last.is ∙ is)).1 in
        ap (flat_map told_by) last.is ∙ flat_map-append told_by last.front (last.last ∷ [])
        ∙ ap (λ (x : List Observed). x ++ (told_by last.last ++ [])) front_told
        ∙ ap (λ (x : List Observed). flat_map told_taken of ++ x) (by_taken flight is same (has_taken flight.id taken) refl)

  told_so : (pending : Option InFlight) → begun ≡ settled ++ flying pending → Matches (begun_ids begun) (taken_ids of) → flat_map told_by begun ≡ flat_map told_taken of ++ untaken taken pending
  told_so pending is (inl same) =
      all_told same ∙ sym (append-nil (flat_map told_taken of)) ∙ ap (λ (x : List Observed). flat_map told_taken of ++ x) (sym (none_untaken pending is same))
  told_so pending is (inr one) = but_last pending is one.last one.is

-- The whole

module _ (setup : Setup) (steps : List WorldStep) (line : ℕ) (set_up : IsSetUp setup) (taken : steps_are_taken setup world_opening steps ≡ true) where
  abbrev pub w : World
  w = plain_world setup steps

  observed_is : observed_on line (agent_in setup w) ≡ flat_map told_taken (line_taken line (taken_in w))
  observed_is =
      told_is setup steps line set_up taken
      ∙ taken_tells setup set_up line (sent_of setup w.gateway_took) (taken_in w) (each_from_all (IsWell setup) (sent_of setup w.gateway_took) (sent_well setup set_up w.gateway_took))
      (each_weaker (λ (one : Reached). Any (λ (b : Begun). (b.id ≡ one.asked.id) × (one.outcome ≡ read_text b.text)) (own_in setup w)) (λ (one : Reached). OneOf (IsAsSent one) (own_in setup w))
      (λ one any. one_from_any (IsAsSent one) (own_in setup w) any) (taken_in w)
      (each_from_all (λ (one : Reached). Any (λ (b : Begun). (b.id ≡ one.asked.id) × (one.outcome ≡ read_text b.text)) (own_in setup w)) (taken_in w) (taken_as_sent setup steps set_up taken)))

  course_is : (endpoint : Endpoint) → endpoint_at (gateway_in setup w).endpoints line ≡ Some endpoint
      → told_along (course_of setup line w.gateway_took) ≡ flat_map told_by (line_begun setup line w.gateway_took)
  course_is endpoint at =
      course_tells setup line (place_of (gateway_in setup w).endpoints line endpoint at).0 w.gateway_took endpoint at
      ∙ begun_tell setup line (sent_of setup w.gateway_took) (each_from_all (IsWell setup) (sent_of setup w.gateway_took) (sent_well setup set_up w.gateway_took))

module _ (setup : Setup) (steps : List WorldStep) (line : ℕ) (set_up : IsSetUp setup) (taken : steps_are_taken setup world_opening steps ≡ true)
    (few : HasNumbersLeft (own_in setup (plain_world setup steps))) where
  abbrev pub w' : World
  w' = plain_world setup steps

  told_through : (endpoint : Endpoint) → endpoint_at (gateway_in setup w').endpoints line ≡ Some endpoint → has_given_up (line_sent setup line w'.gateway_took) endpoint.post ≡ false
      → told_along (course_of setup line w'.gateway_took) ≡ observed_on line (agent_in setup w') ++ untaken (taken_in w') endpoint.post.pending
  told_through endpoint at none =
      let some = (place_of (gateway_in setup w').endpoints line endpoint at).0 in
      let k = known setup line some steps set_up taken few in
      let fine = gave_nothing_up (WasTaken (taken_in w')) (Unit {0}) (line_sent setup line w'.gateway_took) endpoint (k.flies endpoint at) none in
      course_is setup steps line set_up taken endpoint at
      ∙ told_so line (line_begun setup line w'.gateway_took) fine.settled (taken_in w') k.apart k.mine k.as_sent fine.answered endpoint.post.pending fine.split
      (world_matches setup line some set_up steps taken few endpoint at none)
      ∙ ap (λ (x : List Observed). x ++ untaken (taken_in w') endpoint.post.pending) (sym (observed_is setup steps line set_up taken))

  pub dialled_through : (before after : List GatewayEvent) (endpoint : Endpoint) → w'.gateway_took ≡ before ++ after → endpoint_at (gateway_in setup w').endpoints line ≡ Some endpoint
      → IsAskedForAll (course_of setup line before) (course_from setup (plain setup before) line after) endpoint.line → has_given_up (line_sent setup line w'.gateway_took) endpoint.post ≡ false
      → done_in (course_of setup line w'.gateway_took)
      ≡ happened_in (observed_on line (agent_in setup w')) ++ (happened_in (untaken (taken_in w') endpoint.post.pending) ++ happened_in endpoint.line.quarantined.events)
  dialled_through before after endpoint took at asked none =
      let once : IsToldOnce (course_of setup line w'.gateway_took) endpoint.line =
      subst (λ (events : List GatewayEvent). IsToldOnce (course_of setup line events) endpoint.line) (sym took)
      (course_told setup line before after endpoint (subst (λ (events : List GatewayEvent). endpoint_at (plain setup events).endpoints line ≡ Some endpoint) took at) asked) in
      once
      ∙ ap (λ (x : List Observed). happened_in x ++ happened_in endpoint.line.quarantined.events) (told_through endpoint at none)
      ∙ ap (λ (x : List Observed). x ++ happened_in endpoint.line.quarantined.events) (happened_both (observed_on line (agent_in setup w')) (untaken (taken_in w') endpoint.post.pending))
      ∙ append_assoc (happened_in (observed_on line (agent_in setup w'))) (happened_in (untaken (taken_in w') endpoint.post.pending)) (happened_in endpoint.line.quarantined.events)

-- By pairs: what was told, whatever numbers are left

module _ (setup : Setup) (steps : List WorldStep) (line : ℕ) (set_up : IsSetUp setup) (taken : steps_are_taken setup world_opening steps ≡ true) (endpoint : Endpoint)
    (at : endpoint_at (gateway_in setup (plain_world setup steps)).endpoints line ≡ Some endpoint)
    (none : has_given_up (line_sent setup line (plain_world setup steps).gateway_took) endpoint.post ≡ false) where
  abbrev v : World
  v = plain_world setup steps

  pub paired : Paired (line_begun setup line v.gateway_took) (line_taken line (taken_in v)) endpoint.post.pending
  paired = world_paired setup line (place_of (gateway_in setup v).endpoints line endpoint at).0 set_up steps taken endpoint at none

  -- what the command in flight tells, if it wasn't taken
  abbrev pub left_in : Paired (line_begun setup line v.gateway_took) (line_taken line (taken_in v)) endpoint.post.pending → List Observed
  left_in (inl pairs) = []
  left_in (inr last) = told_as (read_text last.flight.text)

  told_parts : (is : Paired (line_begun setup line v.gateway_took) (line_taken line (taken_in v)) endpoint.post.pending)
      → flat_map told_by (line_begun setup line v.gateway_took) ≡ flat_map told_taken (line_taken line (taken_in v)) ++ left_in is
  told_parts (inl pairs) = pairs_tell (line_begun setup line v.gateway_took) (line_taken line (taken_in v)) pairs ∙ sym (append-nil (flat_map told_taken (line_taken line (taken_in v))))
  told_parts (inr last) =
      ap (flat_map told_by) last.is ∙ flat_map-append told_by last.front (flying (Some last.flight))
      ∙ ap (λ (x : List Observed). x ++ flat_map told_by (flying (Some last.flight))) (pairs_tell last.front (line_taken line (taken_in v)) last.pairs)
      ∙ ap (λ (x : List Observed). flat_map told_taken (line_taken line (taken_in v)) ++ x) (append-nil (told_as (read_text last.flight.text)))

  pub told_on : told_along (course_of setup line v.gateway_took) ≡ observed_on line (agent_in setup v) ++ left_in paired
  told_on =
      course_is setup steps line set_up taken endpoint at ∙ told_parts paired
      ∙ ap (λ (x : List Observed). x ++ left_in paired) (sym (observed_is setup steps line set_up taken))

  -- so the agent was told a beginning
  pub dialled_on : (before after : List GatewayEvent) → v.gateway_took ≡ before ++ after → IsAskedForAll (course_of setup line before) (course_from setup (plain setup before) line after) endpoint.line
      → done_in (course_of setup line v.gateway_took)
      ≡ happened_in (observed_on line (agent_in setup v)) ++ (happened_in (left_in paired) ++ happened_in endpoint.line.quarantined.events)
  dialled_on before after took asked =
      let once : IsToldOnce (course_of setup line v.gateway_took) endpoint.line =
      subst (λ (events : List GatewayEvent). IsToldOnce (course_of setup line events) endpoint.line) (sym took)
      (course_told setup line before after endpoint (subst (λ (events : List GatewayEvent). endpoint_at (plain setup events).endpoints line ≡ Some endpoint) took at) asked) in
      once
      ∙ ap (λ (x : List Observed). happened_in x ++ happened_in endpoint.line.quarantined.events) told_on
      ∙ ap (λ (x : List Observed). x ++ happened_in endpoint.line.quarantined.events) (happened_both (observed_on line (agent_in setup v)) (left_in paired))
      ∙ append_assoc (happened_in (observed_on line (agent_in setup v))) (happened_in (left_in paired)) (happened_in endpoint.line.quarantined.events)
