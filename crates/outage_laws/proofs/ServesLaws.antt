-- Over a network that is fair from a moment on a gateway serves as soon as one of its announcements that goes out since is answered in time.
use Rattle.std.proofs.Common.{◌≡◌, ℕ, zero, suc, ◌+◌, ◌-◌, ◌*◌, ◌<◌, ◌≤◌, Bool, true, false, if◌then◌else◌, List, [], ◌∷◌, ◌++◌, Some, inl, inr, refl, sym, ap, ◌∙◌, subst, arith, append_assoc}
use Rattle.std.specs.Prelude.{◌⊎◌, All, Any, nat_le, nat_lt}
use Rattle.std.proofs.lemmas.Bool.{leb-true, leb-false, ltb-true}
use Rattle.retransmission.specs.Sends.{most_repeats}
use Rattle.retransmission.specs.Flight.{InFlight}
use Rattle.transmission.specs.Texts.{texts_of}
use Rattle.plain_machine.specs.declared.setup.Setup.{Setup}
use Rattle.plain_machine.specs.Lists.{sent_of}
use Rattle.plain_machine.specs.Machine.{serves}
use Rattle.plain_machine.specs.Message.{Begun, Sent}
use Rattle.plain_machine.specs.Setup.{IsSetUp}
use Rattle.machine_laws.specs.Belonging.{is_of, of_line}
use Rattle.machine_laws.specs.Saying.{OneOf, begun_in}
use Rattle.machine_laws.proofs.EachLemmas.{Each, all_from_each, any_from_one, each_weaker, one_from_any, one_of_each, one_to}
use Rattle.agent_core.specs.World.{World, WorldStep, delivering, gateway_in, now_in, oldest_packet, plain_world, steps_are_taken, world_opening}
use Rattle.world_laws.specs.Chances.{chances, last_chance}
use Rattle.world_laws.specs.Copies.{answer_wait, IsPlainAnswer}
use Rattle.world_laws.specs.Fairness.{GoesToAgent}
use Rattle.world_laws.specs.OwnChances.{IsOfLine, IsToldAfter}
use Rattle.world_laws.proofs.TakeLaws.{chances_low}
use Rattle.world_laws.proofs.ChanceLaws.{eight}
use Rattle.world_laws.proofs.OnTurns.{IsOn}
use Rattle.world_laws.proofs.OwnChanceLaws.{flying_said, one_unfiltered, told_after}
use Rattle.world_laws.proofs.PostedLemmas.{SaysAt, said_posted}
use Rattle.world_laws.proofs.ServingLaws.{gateway_goes_on_amid}
use Rattle.world_laws.proofs.PostedFinal.{taken_front}
use Rattle.world_laws.proofs.PassLaws.{offset, offset_last, offset_rises}
use Rattle.outage_laws.specs.AfterOutage.{AgentHasRoomFrom, IsFairFrom, last_in_time, longest_pause}
use Rattle.outage_laws.proofs.UnservedRoom.{IsNext, next_send}
use Rattle.outage_laws.proofs.PlainArrivals.{packet_plain}
use Rattle.outage_laws.proofs.SinceLaws.{IsBack, comes_in_time}
use Rattle.outage_laws.proofs.TrackLaws.{Behind, Closed, IsTracked, closed_front, world_tracked}
use Rattle.outage_laws.proofs.TrackLemmas.{IsFlying, IsWaiting, Tracked, Went, announcement_at, start_first, start_next, start_of, start_rises}

-- Numbers

pub compare : (j k : ℕ) → (j < k) ⊎ ((k < j) ⊎ (k ≡ j))
compare j k = by_test (nat_le (suc j) k) (nat_le (suc k) j) refl refl where
  by_test : (a b : Bool) → nat_le (suc j) k ≡ a → nat_le (suc k) j ≡ b → (j < k) ⊎ ((k < j) ⊎ (k ≡ j))
  by_test true b one two = inl (let low : suc j ≤ k = leb-true (suc j) k one in omega (arith, low))
  by_test false true one two = inr (inl (let low : suc k ≤ j = leb-true (suc k) j two in omega (arith, low)))
  by_test false false one two =
      inr (inr (let high : k < suc j = leb-false (suc j) k one in let low : j < suc k = leb-false (suc k) j two in omega (arith, high, low)))

pub not_zero : (since first wait now : ℕ) → 1 ≤ since → since ≤ first + wait → first + wait ≤ now → now ≡ 0 → ⊥
not_zero since first wait now some late past none = absurd (omega (arith, some, late, past, none))

pub over_soon : (first wait within now : ℕ) → wait + 2 * within < answer_wait → now ≤ first + wait + 2 * within → first + answer_wait ≤ now → ⊥
over_soon first wait within now few by late = absurd (omega (arith, few, by, late))

pub ends_by : (first wait within now next : ℕ) → wait + 2 * within < answer_wait → now ≤ first + wait + 2 * within → first + answer_wait ≤ next → next ≤ now → ⊥
ends_by first wait within now next few by rise past = absurd (omega (arith, few, by, rise, past))

pub begins_by : (first other wait now : ℕ) → other + answer_wait ≤ first → first + wait ≤ now → now < other + answer_wait → ⊥
begins_by first other wait now rise past soon = absurd (omega (arith, rise, past, soon))

-- a command that is on its way is due 23,500 ms behind its first send at the latest
pub due_by : (sent : List Sent) (flight : InFlight) → IsOn sent flight → flight.due ≤ flight.first + answer_wait
due_by sent flight on =
    let few : flight.repeats ≤ most_repeats = on.few in
    let low : offset (flight.repeats + 1) ≤ offset (most_repeats + 1) = offset_rises (flight.repeats + 1) (most_repeats + 1) (omega (arith, few)) in
    let last : offset (most_repeats + 1) ≡ answer_wait = offset_last in
    let next : flight.due ≡ flight.first + offset (flight.repeats + 1) = on.next in
    omega (arith, low, last, next)

pub flies_soon : (now due first start : ℕ) → now < due → due ≤ first + answer_wait → first ≡ start → now < start + answer_wait
flies_soon now due first start soon by is = omega (arith, soon, by, is)

pub waits_by : (first other wait now : ℕ) → other + answer_wait ≤ first → first + wait ≤ now → now < other → ⊥
waits_by first other wait now rise past soon = absurd (omega (arith, rise, past, soon))

pub waits_same : (first other wait now : ℕ) → other ≡ first → first + wait ≤ now → now < other → ⊥
waits_same first other wait now same past soon = absurd (omega (arith, same, past, soon))

pub over_twice : (first wait within slack now : ℕ) → slack ≤ 1 → wait + 2 * within < answer_wait → first + answer_wait ≤ now → first + wait + 2 * within + slack ≤ now
over_twice first wait within slack now small few over = omega (arith, small, few, over)

pub twice_past : (first wait within slack now : ℕ) → first + wait + 2 * within + slack ≤ now → first + wait ≤ now
twice_past first wait within slack now twice = omega (arith, twice)

pub flies_few : (first wait within slack now : ℕ) → first + wait + 2 * within + slack ≤ now → now < first + answer_wait → wait + 2 * within < answer_wait
flies_few first wait within slack now twice soon = omega (arith, twice, soon)

pub first_late : (since wait within slack now restart first : ℕ) → first ≡ 0 + restart → now < first → wait ≤ last_chance
    → since + answer_wait + restart + 2 * within + slack ≤ now + 1 + wait → ⊥
first_late since wait within slack now restart first is soon low late = absurd (omega (arith, is, soon, low, late))

pub next_past : (since wait within slack now restart first next : ℕ) → next ≡ first + answer_wait + restart → now < next
    → since + answer_wait + restart + 2 * within + slack ≤ now + 1 + wait → since ≤ first + wait
next_past since wait within slack now restart first next is soon late = omega (arith, is, soon, late)

pub first_sent : (since wait within slack now restart first : ℕ) → first ≡ 0 + restart → now < first + 2 * within + slack → wait ≤ last_chance
    → since + answer_wait + restart + 2 * within + slack ≤ now + 1 + wait → ⊥
first_sent since wait within slack now restart first is soon low late = absurd (omega (arith, is, soon, low, late))

pub next_sent : (since wait within slack now restart first next : ℕ) → next ≡ first + answer_wait + restart → now < next + 2 * within + slack
    → since + answer_wait + restart + 2 * within + slack ≤ now + 1 + wait → since ≤ first + wait
next_sent since wait within slack now restart first next is soon late = omega (arith, is, soon, late)

pub at_first : (since first one : ℕ) → one ≡ 0 → since ≤ first + one → since ≤ first
at_first since first one none past = omega (arith, none, past)

pub before_twice : (first one within slack now : ℕ) → one ≡ 0 → now < first + one + 2 * within + slack → now < first + 2 * within + slack
before_twice first one within slack now none soon = omega (arith, none, soon)

pub next_twice : (since first one wait within slack now restart : ℕ) → first + one + 1 ≤ since + longest_pause → wait ≤ last_chance
    → since + answer_wait + restart + 2 * within + slack ≤ now + 1 + wait → first + one + 2 * within + slack ≤ now
next_twice since first one wait within slack now restart next low late = omega (arith, next, low, late)

pub last_past : (since first wait : ℕ) → since ≤ first + wait → wait ≤ last_chance → since ≤ first + last_chance
last_past since first wait past low = omega (arith, past, low)

pub too_late : (since first wait within slack now restart : ℕ) → now < first + answer_wait → first + wait < since
    → since + answer_wait + restart + 2 * within + slack ≤ now + 1 + wait → ⊥
too_late since first wait within slack now restart soon before late = absurd (omega (arith, soon, before, late))

-- where each announcement of the gateway is answered so, as long behind its sends as twice the network's time, and one ms more at most
module _ (setup : Setup) (steps : List WorldStep) (since within slack : ℕ) (set_up : IsSetUp setup) (taken : steps_are_taken setup world_opening steps ≡ true) (some : 1 ≤ since)
    (back : (b : Begun) (wait : ℕ) → IsOfLine setup (plain_world setup steps) 0 b → since ≤ b.moment + wait → b.moment + wait + 2 * within + slack ≤ now_in setup (plain_world setup steps)
    → IsToldAfter setup (plain_world setup steps) b wait → IsBack setup steps within b wait) (closed : Closed setup (plain_world setup steps)) where
  abbrev w : World
  w = plain_world setup steps

  abbrev sent : List Sent
  sent = of_line 0 (sent_of setup w.gateway_took)

  abbrev now : ℕ
  now = now_in setup w

  -- An announcement one of whose sends was since, and could be answered while it was in flight, was answered then, and the gateway served

  module _ (j wait : ℕ) (late : since ≤ start_of setup j + wait) (few : wait + 2 * within < answer_wait) (is : IsBack setup steps within (announcement_at setup j) wait) where
    abbrev then_now : ℕ
    then_now = now_in setup (plain_world setup is.before)

    order : steps ≡ is.before ++ delivering is.number ∷ is.later
    order = is.order ∙ append_assoc is.before (delivering is.number ∷ []) is.later

    back_taken : steps_are_taken setup world_opening (is.before ++ delivering is.number ∷ []) ≡ true
    back_taken = taken_front setup world_opening (is.before ++ delivering is.number ∷ []) is.later (subst (λ (s : List WorldStep). steps_are_taken setup world_opening s ≡ true) is.order taken)

    before_taken : steps_are_taken setup world_opening is.before ≡ true
    before_taken = taken_front setup world_opening is.before (delivering is.number ∷ []) back_taken

    closed_before : Closed setup (plain_world setup is.before)
    closed_before = closed_front setup set_up is.before (delivering is.number ∷ is.later) (subst (λ (s : List WorldStep). Closed setup (plain_world setup s)) order closed)

    closed_behind : Closed setup (plain_world setup (is.before ++ delivering is.number ∷ []))
    closed_behind = closed_front setup set_up (is.before ++ delivering is.number ∷ []) is.later (subst (λ (s : List WorldStep). Closed setup (plain_world setup s)) is.order closed)

    moved : then_now ≡ 0 → ⊥
    moved none = not_zero since (start_of setup j) wait then_now some late is.no_sooner none

    -- while it waits for another nothing is answered
    by_waiting : IsWaiting setup (Behind then_now) (of_line 0 (sent_of setup (plain_world setup is.before).gateway_took)) then_now (gateway_in setup (plain_world setup is.before)).endpoints.own → ⊥
    by_waiting v = by_up v.up (compare j v.k) where
      by_up : Behind then_now (start_of setup v.k) → (j < v.k) ⊎ ((v.k < j) ⊎ (v.k ≡ j)) → ⊥
      by_up (inr none) which = moved none
      by_up (inl soon) (inl less) = over_soon (start_of setup j) wait within then_now few is.no_later (v.over j less)
      by_up (inl soon) (inr (inl more)) = waits_by (start_of setup j) (start_of setup v.k) wait then_now (start_rises setup v.k j more) is.no_sooner soon
      by_up (inl soon) (inr (inr same)) = waits_same (start_of setup j) (start_of setup v.k) wait then_now (ap (start_of setup) same) is.no_sooner soon

    -- the answer to what is in flight makes it serve
    answers : (flight : InFlight) → (gateway_in setup (plain_world setup is.before)).endpoints.own.pending ≡ Some flight → flight.id ≡ (announcement_at setup j).id → ⊥
    answers flight flies same =
        absurd (
        let texts = texts_of is.copy.post.packet.bytes in
        let plain : All (IsPlainAnswer (announcement_at setup j).id) texts =
        all_from_each (IsPlainAnswer (announcement_at setup j).id) texts
        (each_weaker (λ (text : List ℕ). (id : ℕ) → IsPlainAnswer id text) (IsPlainAnswer (announcement_at setup j).id) (λ text plain. plain (announcement_at setup j).id) texts
        (packet_plain setup set_up is.before is.number is.copy.post before_taken is.copy.found is.copy.sender)) in
        let serving : serves (gateway_in setup (plain_world setup (is.before ++ delivering is.number ∷ []))).endpoints ≡ true =
        gateway_goes_on_amid setup is.before is.number is.text (announcement_at setup j).id flight is.copy (is.reads.code, is.reads.params, is.reads.body, is.reads.reads) plain flies same in
        let clash : true ≡ false = sym serving ∙ closed_behind in cc)

    by_flying : IsFlying setup (Behind then_now) (of_line 0 (sent_of setup (plain_world setup is.before).gateway_took)) then_now (gateway_in setup (plain_world setup is.before)).endpoints.own → ⊥
    by_flying f = by_up f.up (compare j f.k) where
      soon_so : then_now < f.flight.due → then_now < start_of setup f.k + answer_wait
      soon_so soon = flies_soon then_now f.flight.due f.flight.first (start_of setup f.k) soon (due_by (of_line 0 (sent_of setup (plain_world setup is.before).gateway_took)) f.flight f.on) f.is.first

      past : start_of setup f.k ≤ then_now
      past = subst (λ (first : ℕ). first ≤ then_now) f.is.first f.past

      by_up : Behind then_now f.flight.due → (j < f.k) ⊎ ((f.k < j) ⊎ (f.k ≡ j)) → ⊥
      by_up (inr none) which = moved none
      by_up (inl soon) (inl less) = ends_by (start_of setup j) wait within then_now (start_of setup f.k) few is.no_later (start_rises setup j f.k less) past
      by_up (inl soon) (inr (inl more)) = begins_by (start_of setup j) (start_of setup f.k) wait then_now (start_rises setup f.k j more) is.no_sooner (soon_so soon)
      by_up (inl soon) (inr (inr same)) = answers f.flight f.flies (f.is.id ∙ ap (λ (n : ℕ). (announcement_at setup n).id) same)

    by_track : Tracked setup (Behind then_now) (of_line 0 (sent_of setup (plain_world setup is.before).gateway_took)) then_now (gateway_in setup (plain_world setup is.before)).endpoints.own → ⊥
    by_track (inl v) = by_waiting v
    by_track (inr f) = by_flying f

    not_back : ⊥
    not_back = by_track (world_tracked setup set_up is.before before_taken closed_before)

  -- so none was
  pub never_back : (j wait : ℕ) → OneOf (λ (one : Begun). one ≡ announcement_at setup j) (begun_in sent) → OneOf (SaysAt (announcement_at setup j).text (start_of setup j + wait)) sent
      → since ≤ start_of setup j + wait → start_of setup j + wait + 2 * within + slack ≤ now → wait + 2 * within < answer_wait → ⊥
  never_back j wait begun said late twice few = not_back j wait late few (back (announcement_at setup j) wait of late twice told) where
    of : IsOfLine setup w 0 (announcement_at setup j)
    of = any_from_one (λ (one : Begun). one ≡ announcement_at setup j) (begun_in sent) begun

    told : IsToldAfter setup w (announcement_at setup j) wait
    told =
        told_after setup w (announcement_at setup j) wait
        (said_posted setup steps set_up taken (announcement_at setup j).text (start_of setup j + wait)
        (one_unfiltered (SaysAt (announcement_at setup j).text (start_of setup j + wait)) (λ (one : Sent). is_of 0 one.owner) (sent_of setup w.gateway_took) said))

  -- What that comes to, by one of the waits behind which an answer may come in time

  module _ (wait : ℕ) (among : OneOf (λ (one : ℕ). one ≡ wait) chances) (few : wait + 2 * within < answer_wait) (small : slack ≤ 1)
      (late : since + answer_wait + setup.restart_wait + 2 * within + slack ≤ now + 1 + wait) where
    low : wait ≤ last_chance
    low =
        one_to (λ (one : ℕ). (one ≤ last_chance) × (one ≡ wait)) (wait ≤ last_chance) (λ one both. subst (λ (n : ℕ). n ≤ last_chance) both.1 both.0) chances
        (one_of_each (λ (one : ℕ). one ≤ last_chance) (λ (one : ℕ). one ≡ wait) chances chances_low among)

    -- an announcement all of whose sends went out, and that is over, had one that long behind its first
    before_that : (j : ℕ) → Went setup sent j most_repeats → start_of setup j + answer_wait ≤ now → since ≤ start_of setup j + wait → ⊥
    before_that j went over past = never_back j wait went.begun at past (over_twice (start_of setup j) wait within slack now small few over) few where
      Says : ℕ → Type 0
      Says one = OneOf (SaysAt (announcement_at setup j).text (start_of setup j + one)) sent

      at : Says wait
      at =
          one_to (λ (one : ℕ). Says one × (one ≡ wait)) (Says wait) (λ one both. subst Says both.1 both.0) chances
          (one_of_each Says (λ (one : ℕ). one ≡ wait) chances (eight Says (λ number few. went.out number few)) among)

    by_waiting_now : IsWaiting setup (Behind now) sent now (gateway_in setup w).endpoints.own → ⊥
    by_waiting_now v = by_up v.up where
      by_k : (k : ℕ) → v.k ≡ k → now < start_of setup k → ⊥
      by_k zero same soon = first_late since wait within slack now setup.restart_wait (start_of setup 0) (start_first setup) soon low late
      by_k (suc j) same soon =
          before_that j (v.went j (subst (λ (n : ℕ). j < n) (sym same) (omega arith))) (v.over j (subst (λ (n : ℕ). j < n) (sym same) (omega arith)))
          (next_past since wait within slack now setup.restart_wait (start_of setup j) (start_of setup (suc j)) (start_next setup j) soon late)

      by_up : Behind now (start_of setup v.k) → ⊥
      by_up (inr none) = absurd (omega (arith, none, low, late))
      by_up (inl soon) = by_k v.k refl soon

    by_flying_now : IsFlying setup (Behind now) sent now (gateway_in setup w).endpoints.own → ⊥
    by_flying_now f = by_up f.up where
      Says : ℕ → Type 0
      Says one = start_of setup f.k + one ≤ now → OneOf (SaysAt (announcement_at setup f.k).text (start_of setup f.k + one)) sent

      says : now < f.flight.due → Each Says chances
      says soon = eight Says (λ number few past. flying_said sent (announcement_at setup f.k) f.flight now f.is f.on soon number past)

      answered : (one : ℕ) → Says one → since ≤ start_of setup f.k + one → start_of setup f.k + one + 2 * within + slack ≤ now → now < f.flight.due → ⊥
      answered one has past twice soon =
          never_back f.k one f.begun (has (twice_past (start_of setup f.k) one within slack now twice)) past twice
          (flies_few (start_of setup f.k) one within slack now twice
          (flies_soon now f.flight.due f.flight.first (start_of setup f.k) soon (due_by sent f.flight f.on) f.is.first))

      -- its first send was too late
      by_k : (n : ℕ) → f.k ≡ n → since ≤ start_of setup n → now < start_of setup n + 2 * within + slack → ⊥
      by_k zero same past soon = first_sent since wait within slack now setup.restart_wait (start_of setup 0) (start_first setup) soon low late
      by_k (suc j) same past soon =
          before_that j (f.went j (subst (λ (n : ℕ). j < n) (sym same) (omega arith))) (f.over j (subst (λ (n : ℕ). j < n) (sym same) (omega arith)))
          (next_sent since wait within slack now setup.restart_wait (start_of setup j) (start_of setup (suc j)) (start_next setup j) soon late)

      by_first : (one : ℕ) → Says one → now < f.flight.due → since ≤ start_of setup f.k + one → one ≡ 0 → (b : Bool) → nat_le (start_of setup f.k + one + 2 * within + slack) now ≡ b → ⊥
      by_first one has soon past none true twice = answered one has past (leb-true (start_of setup f.k + one + 2 * within + slack) now twice) soon
      by_first one has soon past none false fewer =
          by_k f.k refl (at_first since (start_of setup f.k) one none past) (before_twice (start_of setup f.k) one within slack now none
          (leb-false (start_of setup f.k + one + 2 * within + slack) now fewer))

      by_soon : (one : ℕ) → Says one → now < f.flight.due → since ≤ start_of setup f.k + one → (one ≡ 0) ⊎ (start_of setup f.k + one + 1 ≤ since + longest_pause) → ⊥
      by_soon one has soon past (inl none) = by_first one has soon past none (nat_le (start_of setup f.k + one + 2 * within + slack) now) refl
      by_soon one has soon past (inr next) = answered one has past (next_twice since (start_of setup f.k) one wait within slack now setup.restart_wait next low late) soon

      by_next : now < f.flight.due → IsNext Says since (start_of setup f.k) → ⊥
      by_next soon is = by_soon is.wait is.has soon is.late is.soon

      by_test : now < f.flight.due → (b : Bool) → nat_le since (start_of setup f.k + wait) ≡ b → ⊥
      by_test soon true past =
          by_next soon (next_send Says since (start_of setup f.k) (last_past since (start_of setup f.k) wait (leb-true since (start_of setup f.k + wait) past) low) (says soon))
      by_test soon false before =
          too_late since (start_of setup f.k) wait within slack now setup.restart_wait
          (flies_soon now f.flight.due f.flight.first (start_of setup f.k) soon (due_by sent f.flight f.on) f.is.first) (leb-false since (start_of setup f.k + wait) before) late

      by_up : Behind now f.flight.due → ⊥
      by_up (inr none) = absurd (omega (arith, none, low, late))
      by_up (inl soon) = by_test soon (nat_le since (start_of setup f.k + wait)) refl

    by_track_now : IsTracked setup w → ⊥
    by_track_now (inl v) = by_waiting_now v
    by_track_now (inr f) = by_flying_now f

    pub must_serve : ⊥
    must_serve = by_track_now (world_tracked setup set_up steps taken closed)

-- So it serves.
pub serves_so : (setup : Setup) (steps : List WorldStep) (since within slack wait : ℕ) → IsSetUp setup → steps_are_taken setup world_opening steps ≡ true → 1 ≤ since
    → ((b : Begun) (wait : ℕ) → IsOfLine setup (plain_world setup steps) 0 b → since ≤ b.moment + wait → b.moment + wait + 2 * within + slack ≤ now_in setup (plain_world setup steps)
    → IsToldAfter setup (plain_world setup steps) b wait → IsBack setup steps within b wait) → OneOf (λ (one : ℕ). one ≡ wait) chances → wait + 2 * within < answer_wait → slack ≤ 1
    → since + answer_wait + setup.restart_wait + 2 * within + slack ≤ now_in setup (plain_world setup steps) + 1 + wait → serves (gateway_in setup (plain_world setup steps)).endpoints ≡ true
serves_so setup steps since within slack wait set_up taken some back among few small late = by_test (serves (gateway_in setup (plain_world setup steps)).endpoints) refl where
  by_test : (b : Bool) → serves (gateway_in setup (plain_world setup steps)).endpoints ≡ b → serves (gateway_in setup (plain_world setup steps)).endpoints ≡ true
  by_test true serving = serving
  by_test false closed = absurd (must_serve setup steps since within slack set_up taken some back closed wait among few small late)

-- A network that is fair from a moment on

no_slack : (first wait within now : ℕ) → first + wait + 2 * within + 0 ≤ now → first + wait + 2 * within ≤ now
no_slack first wait within now late = omega (arith, late)

with_none : (since restart within now wait : ℕ) → since + answer_wait + restart + 2 * within ≤ now + 1 + wait → since + answer_wait + restart + 2 * within + 0 ≤ now + 1 + wait
with_none since restart within now wait late = omega (arith, late)

module _ (setup : Setup) (steps : List WorldStep) (since within : ℕ) (set_up : IsSetUp setup) (taken : steps_are_taken setup world_opening steps ≡ true) (some : 1 ≤ since)
    (fair : IsFairFrom setup steps since within) (roomy : AgentHasRoomFrom setup steps since)
    (reach : (b : Begun) → IsOfLine setup (plain_world setup steps) 0 b → GoesToAgent setup (plain_world setup steps) b.text) where
  pub comes : (b : Begun) (wait : ℕ) → IsOfLine setup (plain_world setup steps) 0 b → since ≤ b.moment + wait → b.moment + wait + 2 * within + 0 ≤ now_in setup (plain_world setup steps)
      → IsToldAfter setup (plain_world setup steps) b wait → IsBack setup steps within b wait
  comes b wait of late twice told =
      comes_in_time setup steps since within 0 b set_up taken fair roomy of (reach b of) wait told late (no_slack b.moment wait within (now_in setup (plain_world setup steps)) twice)

pub serves_by : (setup : Setup) (steps : List WorldStep) (since within wait : ℕ) → IsSetUp setup → steps_are_taken setup world_opening steps ≡ true → 1 ≤ since
    → IsFairFrom setup steps since within → AgentHasRoomFrom setup steps since → let w = plain_world setup steps in ((b : Begun) → IsOfLine setup w 0 b → GoesToAgent setup w b.text)
    → Any (λ (one : ℕ). one ≡ wait) chances → wait + 2 * within < answer_wait → since + answer_wait + setup.restart_wait + 2 * within ≤ now_in setup w + 1 + wait
    → serves (gateway_in setup w).endpoints ≡ true
serves_by setup steps since within wait set_up taken some fair roomy reach among few late =
    serves_so setup steps since within 0 wait set_up taken some (comes setup steps since within set_up taken some fair roomy reach)
    (one_from_any (λ (one : ℕ). one ≡ wait) chances among) few (omega arith) (with_none since setup.restart_wait within (now_in setup (plain_world setup steps)) wait late)

-- The last of them

pub record IsInTime (within was : ℕ) (waits : List ℕ) (last : ℕ) : Type 0 where
  pub few : last + 2 * within < answer_wait
  pub among : (last ≡ was) ⊎ OneOf (λ (one : ℕ). one ≡ last) waits

pub in_time : (within was : ℕ) (waits : List ℕ) → was + 2 * within < answer_wait → IsInTime within was waits (last_in_time within was waits)
in_time within was [] few = record { few = few; among = inl refl }
in_time within was (wait ∷ waits) few = by_test (nat_lt (wait + 2 * within) answer_wait) refl (λ next. in_time within wait waits next) where
  on : (last : ℕ) → (last ≡ wait) ⊎ OneOf (λ (one : ℕ). one ≡ last) waits → (last ≡ was) ⊎ ((wait ≡ last) ⊎ OneOf (λ (one : ℕ). one ≡ last) waits)
  on last (inl same) = inr (inl (sym same))
  on last (inr there) = inr (inr there)

  by_test : (b : Bool) → nat_lt (wait + 2 * within) answer_wait ≡ b → (wait + 2 * within < answer_wait → IsInTime within wait waits (last_in_time within wait waits))
      → IsInTime within was (wait ∷ waits) (if b then last_in_time within wait waits else was)
  by_test true less next =
      let is = next (ltb-true (wait + 2 * within) answer_wait less) in
      record { few = is.few; among = on (last_in_time within wait waits) is.among }
  by_test false more next = record { few = few; among = inl refl }

pub one_of_chances : (last : ℕ) → (last ≡ 0) ⊎ OneOf (λ (one : ℕ). one ≡ last) chances → OneOf (λ (one : ℕ). one ≡ last) chances
one_of_chances last (inl none) = inl (sym none)
one_of_chances last (inr there) = there

pub gap_late : (since within now restart last : ℕ) → last + 2 * within < answer_wait → since + (answer_wait - last) + restart + 2 * within ≤ now + 1 → since + answer_wait + restart + 2 * within ≤ now + 1 + last
gap_late since within now restart last few late = omega (arith, few, late)

-- An answer to the second send of a command comes in time, where the network takes that long there, and as long back; so one to the first.

abbrev pub IsQuick : ℕ → Type 0
IsQuick within = 500 + 2 * within < answer_wait

pub young_quick : (within : ℕ) → within ≤ oldest_packet → IsQuick within
young_quick within young = omega (arith, young)

pub first_few : (within : ℕ) → IsQuick within → 0 + 2 * within < answer_wait
first_few within quick = (let few : 500 + 2 * within < answer_wait = quick in omega (arith, few))
