-- Until a gateway serves its agent has room: what it is told of then are announcements, of which a few alone are young at a time.
use Rattle.std.proofs.Common.{◌≡◌, ℕ, ◌+◌, ◌<◌, ◌≤◌, Bool, true, false, List, [], ◌∷◌, inl, inr, refl, arith, ◌≢◌, zero, suc, ◌-◌, ◌==◌, if◌then◌else◌, map, length, filter, sym, ap, ◌∙◌, subst}
use Rattle.std.specs.Prelude.{◌⊎◌, nat_le, AllPairs, flat_map}
use Rattle.std.proofs.lemmas.Bool.{leb-true, leb-false, eqb-false, eqb-true, ltb-true}
use Rattle.machine_laws.proofs.EachLemmas.{Each, each_from_all, each_weaker, one_of_each, one_to}
use Rattle.world_laws.specs.Chances.{chances, last_chance}
use Rattle.outage_laws.specs.AfterOutage.{longest_pause, AgentHasRoomFrom}
use Rattle.transmission.specs.declared.entry.Entry.{Entry}
use Rattle.transmission.specs.declared.entry.Entry.TheVariants.{Confirmation, First}
use Rattle.transmission.specs.Kept.{firsts_in, young_firsts}
use Rattle.transmission.specs.Memory.{is_young, memory_time}
use Rattle.plain_machine.specs.declared.setup.Setup.{Setup}
use Rattle.plain_machine.specs.Arriving.{arrivals_of}
use Rattle.plain_machine.specs.Machine.{serves}
use Rattle.plain_machine.specs.Setup.{IsSetUp}
use Rattle.plain_machine.specs.Message.{Begun}
use Rattle.machine_laws.specs.Saying.{OneOf}
use Rattle.agent_core.specs.World.{World, WorldStep, agent_in, gateway_in, now_in, plain_world, steps_are_taken, world_opening}
use Rattle.world_laws.specs.Reached.{Reached, heard_in, key_kept, key_reached, own_in, reached, taken_in}
use Rattle.world_laws.proofs.LinkLaws.{Linked, Rises, world_linked}
use Rattle.world_laws.proofs.ReachedLaws.{executed_apart, executed_each}
use Rattle.world_laws.proofs.TakenLaws.{agent_keys}
use Rattle.world_laws.proofs.WorldLaws.{Came, Comes, world_sound}
use Rattle.world_laws.specs.Taking.{AgentHasRoom, agent_history}
use Rattle.world_laws.proofs.PostedFinal.{taken_front}
use Rattle.outage_laws.proofs.TrackLaws.{Closed, closed_front}
use Rattle.outage_laws.proofs.TrackLemmas.{IsAnnounced, announcement_at, start_of, start_rises}
use Rattle.outage_laws.proofs.UnservedSends.{all_announced}

-- Of the moments of a command's sends the first that isn't before a moment is 3,999 ms behind that at the latest, or the very first.

-- of these waits
pub record IsNext (P : ℕ → Type 0) (since first : ℕ) : Type 0 where
  pub wait : ℕ
  pub has : P wait
  pub late : since ≤ first + wait
  pub soon : (wait ≡ 0) ⊎ (first + wait + 1 ≤ since + longest_pause)

-- each so long behind the one before at the latest
abbrev RiseBy : ℕ → List ℕ → Type 0
RiseBy was [] = Unit {0}
RiseBy was (wait ∷ waits) = (wait ≤ was + longest_pause) × RiseBy wait waits

abbrev last_of : ℕ → List ℕ → ℕ
last_of was [] = was
last_of was (wait ∷ waits) = last_of wait waits

behind : (P : ℕ → Type 0) (since first was : ℕ) (waits : List ℕ) → first + was < since → RiseBy was waits → since ≤ first + last_of was waits → Each P waits → IsNext P since first
behind P since first was [] before rises late all = absurd (omega (arith, before, late))
behind P since first was (wait ∷ waits) before rises late all = by_test (nat_le since (first + wait)) refl (λ past. behind P since first wait waits past rises.1 late all.1) where
  by_test : (b : Bool) → nat_le since (first + wait) ≡ b → (first + wait < since → IsNext P since first) → IsNext P since first
  by_test true is on = record {
    wait = wait;
    has = all.0;
    late = leb-true since (first + wait) is;
    soon = inr (let rise : wait ≤ was + longest_pause = rises.0 in omega (arith, before, rise));
  }
  by_test false is on = on (leb-false since (first + wait) is)

rise : RiseBy 0 (500 ∷ 1500 ∷ 3500 ∷ 7500 ∷ 11500 ∷ 15500 ∷ last_chance ∷ [])
rise = (omega arith, (omega arith, (omega arith, (omega arith, (omega arith, (omega arith, (omega arith, tt)))))))

pub next_send : (P : ℕ → Type 0) (since first : ℕ) → since ≤ first + last_chance → Each P chances → IsNext P since first
next_send P since first late all = by_test (nat_le since (first + 0)) refl where
  by_test : (b : Bool) → nat_le since (first + 0) ≡ b → IsNext P since first
  by_test true is = record { wait = 0; has = all.0; late = leb-true since (first + 0) is; soon = inl refl }
  by_test false is =
      behind P since first 0 (500 ∷ 1500 ∷ 3500 ∷ 7500 ∷ 11500 ∷ 15500 ∷ last_chance ∷ []) (leb-false since (first + 0) is) rise late all.1

-- Lists of ids

-- all but the first that is this one
abbrev without : ℕ → List ℕ → List ℕ
without id [] = []
without id (x ∷ xs) = if x == id then xs else x ∷ without id xs

abbrev HasId : ℕ → List ℕ → Type 0
HasId id xs = OneOf (λ (x : ℕ). x ≡ id) xs

fewer : (id : ℕ) (xs : List ℕ) → HasId id xs → length (without id xs) < length xs
fewer id [] one = absurd one
fewer id (x ∷ xs) one = by_test (x == id) refl one (λ there. fewer id xs there) where
  by_test : (b : Bool) → (x == id) ≡ b → (x ≡ id) ⊎ HasId id xs → (HasId id xs → length (without id xs) < length xs)
      → length (if b then xs else x ∷ without id xs) < suc (length xs)
  by_test true is one on = omega arith
  by_test false is (inl here) on = absurd (eqb-false x id is here)
  by_test false is (inr there) on = let less = on there in omega (arith, less)

still : (id other : ℕ) (xs : List ℕ) → other ≢ id → HasId other xs → HasId other (without id xs)
still id other [] apart one = absurd one
still id other (x ∷ xs) apart one = by_test (x == id) refl one (λ there. still id other xs apart there) where
  by_test : (b : Bool) → (x == id) ≡ b → (x ≡ other) ⊎ HasId other xs → (HasId other xs → HasId other (without id xs)) → HasId other (if b then xs else x ∷ without id xs)
  by_test true is (inl here) on = absurd (apart (sym here ∙ eqb-true x id is))
  by_test true is (inr there) on = there
  by_test false is (inl here) on = inl here
  by_test false is (inr there) on = inr (on there)

-- Firsts that are young at a moment have ids of their own

abbrev IsFar : Reached → Reached → Type 0
IsFar first later = first.asked.id ≡ later.asked.id → memory_time ≤ later.asked.moment - first.asked.moment

abbrev AllFar : List Reached → Type 0
AllFar [] = Unit {0}
AllFar (one ∷ ones) = Each (IsFar one) ones × AllFar ones

all_far : (ones : List Reached) → AllPairs IsFar ones → AllFar ones
all_far [] pairs = tt
all_far (one ∷ ones) pairs = (
  each_from_all (IsFar one) ones (λ k d within. pairs 0 (suc k) d (omega arith) (omega (arith, within))),
  all_far ones (λ i j d less within. pairs (suc i) (suc j) d (omega (arith, less)) (omega (arith, within))),
)

too_near : (now first later : ℕ) → now - first < memory_time → memory_time ≤ later - first → later ≤ now → ⊥
too_near now first later young far past = absurd (omega (arith, young, far, past))

module _ (now : ℕ) where
  abbrev IsPast : Reached → Type 0
  IsPast one = one.asked.moment ≤ now

  abbrev IsYoung : Reached → Type 0
  IsYoung one = is_young now one.asked.moment ≡ true

  abbrev young_in : List Reached → List Reached
  young_in ones = filter (λ (one : Reached). is_young now one.asked.moment) ones

  -- where it is young its id is among these
  abbrev IsAmong : List ℕ → Reached → Type 0
  IsAmong ids one = IsYoung one → HasId one.asked.id ids

  young_so : (moment : ℕ) → is_young now moment ≡ true → now - moment < memory_time
  young_so moment young = ltb-true (now - moment) memory_time young

  others_among : (first : Reached) (ones : List Reached) (ids : List ℕ) → IsYoung first → Each (IsFar first) ones → Each IsPast ones → Each (IsAmong ids) ones
      → Each (IsAmong (without first.asked.id ids)) ones
  others_among first [] ids young far past among = tt
  others_among first (one ∷ ones) ids young far past among =
      (still_there, others_among first ones ids young far.1 past.1 among.1) where
        apart : one.asked.id ≢ first.asked.id
        apart same = too_near now first.asked.moment one.asked.moment (young_so first.asked.moment young) (far.0 (sym same)) past.0

        still_there : IsAmong (without first.asked.id ids) one
        still_there is = still first.asked.id one.asked.id ids apart (among.0 is)

  few_young : (ones : List Reached) (ids : List ℕ) → AllFar ones → Each IsPast ones → Each (IsAmong ids) ones → length (young_in ones) ≤ length ids
  few_young [] ids far past among = omega arith
  few_young (one ∷ ones) ids far past among = by_test (is_young now one.asked.moment) refl (λ some all. few_young ones some far.1 past.1 all) where
    by_test : (b : Bool) → is_young now one.asked.moment ≡ b → ((some : List ℕ) → Each (IsAmong some) ones → length (young_in ones) ≤ length some)
        → length (if b then one ∷ young_in ones else young_in ones) ≤ length ids
    by_test true young on =
        let less : length (without one.asked.id ids) < length ids = fewer one.asked.id ids (among.0 young) in
        let rest : length (young_in ones) ≤ length (without one.asked.id ids) =
        on (without one.asked.id ids) (others_among one ones ids young far.0 past.1 among.1) in
        omega (arith, less, rest)
    by_test false old on = on ids among.1

  -- as many as are kept

  abbrev young_keys : List (ℕ × ℕ) → List (ℕ × ℕ)
  young_keys keys = filter (λ (key : ℕ × ℕ). is_young now key.1) keys

  kept_many : (entries : List Entry) → length (young_firsts now entries) ≡ length (young_keys (map key_kept (firsts_in entries)))
  kept_many [] = refl
  kept_many (First first ∷ entries) = by_test (is_young now first.moment) (kept_many entries) where
    by_test : (b : Bool) → length (young_firsts now entries) ≡ length (young_keys (map key_kept (firsts_in entries)))
        → length (if b then First first ∷ young_firsts now entries else young_firsts now entries)
        ≡ length (if b then key_kept first ∷ young_keys (map key_kept (firsts_in entries)) else young_keys (map key_kept (firsts_in entries)))
    by_test true same = ap suc same
    by_test false same = same
  kept_many (Confirmation spans ∷ entries) = kept_many entries

  reached_many : (ones : List Reached) → length (young_keys (map key_reached ones)) ≡ length (young_in ones)
  reached_many [] = refl
  reached_many (one ∷ ones) = by_test (is_young now one.asked.moment) (reached_many ones) where
    by_test : (b : Bool) → length (young_keys (map key_reached ones)) ≡ length (young_in ones)
        → length (if b then key_reached one ∷ young_keys (map key_reached ones) else young_keys (map key_reached ones)) ≡ length (if b then one ∷ young_in ones else young_in ones)
    by_test true same = ap suc same
    by_test false same = same

rises_past : (now : ℕ) (ones : List Reached) → Rises now ones → Each (IsPast now) ones
rises_past now [] rises = tt
rises_past now (one ∷ ones) rises = (rises.0, rises_past now ones rises.1.1)

-- Announcements that are young at a moment are near each other

three_on : (setup : Setup) (i j : ℕ) → i + 3 ≤ j → start_of setup i + 70500 ≤ start_of setup j
three_on setup i j far =
    let one = start_rises setup i (i + 1) (omega arith) in
    let two = start_rises setup (i + 1) (i + 2) (omega arith) in
    let three = start_rises setup (i + 2) j (omega (arith, far)) in
    omega (arith, one, two, three)

not_both : (first later moment now : ℕ) → first + 70500 ≤ later → later ≤ now → moment < first + memory_time → now - moment < memory_time → ⊥
not_both first later moment now far past soon young = absurd (omega (arith, far, past, soon, young))

no_later : (start moment now : ℕ) → start ≤ moment → moment ≤ now → start ≤ now
no_later start moment now since past = omega (arith, since, past)

module _ (setup : Setup) (now : ℕ) where
  -- it is an announcement that began less than 30,000 ms before it came
  abbrev IsNear : Reached → Type 0
  IsNear one = (j : ℕ) × ((announcement_at setup j).id ≡ one.asked.id) × (start_of setup j ≤ one.asked.moment) × (one.asked.moment < start_of setup j + memory_time)

  near_by : (first later : Reached) (a : IsNear first) (b : IsNear later) → IsYoung now first → IsPast now later → a.0 + 3 ≤ b.0 → ⊥
  near_by first later a b young past far =
      not_both (start_of setup a.0) (start_of setup b.0) first.asked.moment now (three_on setup a.0 b.0 far)
      (no_later (start_of setup b.0) later.asked.moment now b.2 past) a.3 (young_so now first.asked.moment young)

  abbrev near_id : ℕ → ℕ → ℕ
  near_id j d = (announcement_at setup (j + d - 2)).id

  abbrev near_ids : ℕ → List ℕ
  near_ids j = near_id j 0 ∷ near_id j 1 ∷ near_id j 2 ∷ near_id j 3 ∷ near_id j 4 ∷ []

  id_at : (i j d id : ℕ) → i + 2 ≡ j + d → (announcement_at setup i).id ≡ id → near_id j d ≡ id
  id_at i j d id same is =
      let at : j + d - 2 ≡ i = omega (arith, same) in
      ap (λ (n : ℕ). (announcement_at setup n).id) at ∙ is

  is_near : (i j id : ℕ) → (announcement_at setup i).id ≡ id → (i + 3 ≤ j → ⊥) → (j + 3 ≤ i → ⊥) → HasId id (near_ids j)
  is_near i j id is sooner later = by_tests (nat_le (i + 3) j) (nat_le (j + 3) i) refl refl where
    by_place : (d : ℕ) → d ≤ 4 → i + 2 ≡ j + d → HasId id (near_ids j)
    by_place zero few same = inl (id_at i j 0 id same is)
    by_place (suc zero) few same = inr (inl (id_at i j 1 id same is))
    by_place (suc (suc zero)) few same = inr (inr (inl (id_at i j 2 id same is)))
    by_place (suc (suc (suc zero))) few same = inr (inr (inr (inl (id_at i j 3 id same is))))
    by_place (suc (suc (suc (suc zero)))) few same = inr (inr (inr (inr (inl (id_at i j 4 id same is)))))
    by_place (suc (suc (suc (suc (suc d))))) few same = absurd (omega (arith, few))

    by_tests : (a b : Bool) → nat_le (i + 3) j ≡ a → nat_le (j + 3) i ≡ b → HasId id (near_ids j)
    by_tests true b one two = absurd (sooner (leb-true (i + 3) j one))
    by_tests false true one two = absurd (later (leb-true (j + 3) i two))
    by_tests false false one two =
        let low : j < i + 3 = leb-false (i + 3) j one in
        let high : i < j + 3 = leb-false (j + 3) i two in
        by_place (i + 2 - j) (omega (arith, low, high)) (omega (arith, low, high))

  -- so six at most are
  six_young : (ones : List Reached) → AllFar ones → Each (IsPast now) ones → Each IsNear ones → length (young_in now ones) ≤ 6
  six_young [] far past near = omega arith
  six_young (one ∷ ones) far past near = by_test (is_young now one.asked.moment) refl (six_young ones far.1 past.1 near.1) where
    among : IsYoung now one → (x : Reached) → IsPast now x × IsNear x → IsAmong now (near_ids near.0.0) x
    among young x is young_too =
        is_near is.1.0 near.0.0 x.asked.id is.1.1 (λ sooner. near_by x one is.1 near.0 young_too past.0 sooner) (λ later. near_by one x near.0 is.1 young is.0 later)

    both : (xs : List Reached) → Each (IsPast now) xs → Each IsNear xs → Each (λ (x : Reached). IsPast now x × IsNear x) xs
    both [] ps ns = tt
    both (x ∷ xs) ps ns = ((ps.0, ns.0), both xs ps.1 ns.1)

    by_test : (b : Bool) → is_young now one.asked.moment ≡ b → length (young_in now ones) ≤ 6 → length (if b then one ∷ young_in now ones else young_in now ones) ≤ 6
    by_test true young rest =
        let few : length (young_in now ones) ≤ 5 =
        few_young now ones (near_ids near.0.0) far.1 past.1
        (each_weaker (λ (x : Reached). IsPast now x × IsNear x) (IsAmong now (near_ids near.0.0)) (among young) ones (both ones past.1 near.1)) in
        omega (arith, few)
    by_test false old rest = rest

-- A world whose gateway doesn't serve yet
module _ (setup : Setup) (steps : List WorldStep) (set_up : IsSetUp setup) (taken : steps_are_taken setup world_opening steps ≡ true) (closed : Closed setup (plain_world setup steps)) where
  abbrev w : World
  w = plain_world setup steps

  abbrev arrived : List Reached
  arrived = flat_map reached (arrivals_of (heard_in w))

  links : Linked setup w
  links = world_linked setup steps set_up taken

  came_near : (one : Reached) → Came (own_in setup w) one → IsNear setup (now_in setup w) one
  came_near one came =
      one_to (λ (b : Begun). IsAnnounced setup b × Comes one b) (IsNear setup (now_in setup w) one)
      (λ b both. (
        both.0.0,
        ap (λ (x : Begun). x.id) (sym both.0.1) ∙ both.1.id,
        subst (λ (x : Begun). x.moment ≤ one.asked.moment) both.0.1 both.1.since,
        subst (λ (x : Begun). one.asked.moment < x.moment + memory_time) both.0.1 both.1.within,
      )) (own_in setup w)
      (one_of_each (IsAnnounced setup) (Comes one) (own_in setup w) (all_announced setup set_up steps taken closed) came)

  all_near : Each (IsNear setup (now_in setup w)) (taken_in w)
  all_near = each_weaker (Came (own_in setup w)) (IsNear setup (now_in setup w)) came_near (taken_in w) (executed_each (Came (own_in setup w)) arrived links.links.came)

  all_past : Each (IsPast (now_in setup w)) (taken_in w)
  all_past =
      subst (λ (now : ℕ). Each (IsPast now) (taken_in w)) (world_sound setup steps taken).clock
      (executed_each (IsPast (agent_in setup w).now) arrived (rises_past (agent_in setup w).now arrived links.links.rises))

  many : length (young_firsts (now_in setup w) (agent_history setup w)) ≡ length (young_in (now_in setup w) (taken_in w))
  many =
      kept_many (now_in setup w) (agent_history setup w)
      ∙ ap (λ (keys : List (ℕ × ℕ)). length (young_keys (now_in setup w) keys)) (agent_keys setup steps set_up taken)
      ∙ reached_many (now_in setup w) (taken_in w)

  pub has_room : AgentHasRoom setup w
  has_room =
      let few : length (young_in (now_in setup w) (taken_in w)) ≤ 6 = six_young setup (now_in setup w) (taken_in w) (all_far (taken_in w) (executed_apart arrived)) all_past all_near in
      let same = many in
      omega (arith, few, same)

-- at no time of it had the agent none
pub unserved_room : (setup : Setup) (steps : List WorldStep) (since : ℕ) → IsSetUp setup → steps_are_taken setup world_opening steps ≡ true → Closed setup (plain_world setup steps)
    → AgentHasRoomFrom setup steps since
unserved_room setup steps since set_up taken closed = λ before later order past.
    has_room setup before set_up (taken_front setup world_opening before later (subst (λ (s : List WorldStep). steps_are_taken setup world_opening s ≡ true) order taken))
    (closed_front setup set_up before later (subst (λ (s : List WorldStep). Closed setup (plain_world setup s)) order closed))

-- so what serves where the agent has room serves
pub serves_with_room : (setup : Setup) (steps : List WorldStep) (since : ℕ) → IsSetUp setup → steps_are_taken setup world_opening steps ≡ true
    → (AgentHasRoomFrom setup steps since → serves (gateway_in setup (plain_world setup steps)).endpoints ≡ true) → serves (gateway_in setup (plain_world setup steps)).endpoints ≡ true
serves_with_room setup steps since set_up taken so = by_test (serves (gateway_in setup (plain_world setup steps)).endpoints) refl where
  by_test : (b : Bool) → serves (gateway_in setup (plain_world setup steps)).endpoints ≡ b → serves (gateway_in setup (plain_world setup steps)).endpoints ≡ true
  by_test true serving = serving
  by_test false closed = so (unserved_room setup steps since set_up taken closed)
