-- Over a network that is fair from a moment on a line has nothing to announce once its answers had time to come, and waits for an answer for
-- twice the network's time at most.
use Rattle.std.proofs.Common.{◌≡◌, ℕ, ◌+◌, ◌*◌, ◌<◌, ◌≤◌, Bool, true, false, ◌==◌, if◌then◌else◌, List, ◌++◌, Option, Some, inl, inr, refl, sym, ◌∙◌, subst, arith}
use Rattle.std.specs.Prelude.{◌⊎◌, Any, IfSome, nat_le}
use Rattle.std.proofs.lemmas.Bool.{eqb-true, leb-true, leb-false}
use Rattle.retransmission.specs.Flight.{InFlight}
use Rattle.retransmission.specs.declared.restart.Restart.{Restart}
use Rattle.retransmission.specs.declared.restart.Restart.TheVariants.{Waiting, Announced, Serving}
use Rattle.plain_machine.specs.declared.endpoint.Endpoint.{Endpoint}
use Rattle.plain_machine.specs.declared.setup.Setup.{Setup}
use Rattle.plain_machine.specs.Machine.{endpoint_at}
use Rattle.plain_machine.specs.Message.{Begun, Sent}
use Rattle.plain_machine.specs.Posting.{wait_of}
use Rattle.plain_machine.specs.Setup.{IsSetUp}
use Rattle.machine_laws.specs.Saying.{OneOf, begun_in}
use Rattle.machine_laws.proofs.EachLemmas.{Each, any_from_one, one_before, one_from_any, one_of_each, one_to}
use Rattle.machine_laws.proofs.OwningLemmas.{place_of}
use Rattle.agent_core.specs.World.{World, WorldStep, gateway_in, now_in, plain_world, steps_are_taken, world_opening}
use Rattle.world_laws.specs.Chances.{chances, last_chance}
use Rattle.world_laws.specs.Copies.{answer_wait}
use Rattle.world_laws.specs.Fairness.{GoesToAgent}
use Rattle.world_laws.specs.OwnChances.{IsOfLine, IsToldAfter}
use Rattle.world_laws.specs.Rounds.{IsAwaited}
use Rattle.world_laws.proofs.TakeLaws.{chances_low}
use Rattle.world_laws.proofs.ChanceLaws.{eight}
use Rattle.world_laws.proofs.OwnChanceLaws.{flying_said}
use Rattle.world_laws.proofs.PostedLemmas.{SaysAt}
use Rattle.world_laws.proofs.OnTurns.{begun_both}
use Rattle.outage_laws.specs.AfterOutage.{AgentHasRoomFrom, IsFairFrom, gap_of, last_in_time, longest_pause}
use Rattle.outage_laws.proofs.LineBackLaws.{announced_answered, flight_answered, waiting_answered}
use Rattle.outage_laws.proofs.LineTrackLaws.{line_says, tracks_at}
use Rattle.outage_laws.proofs.LineTracks.{Announces, Behind, Flies, FliesSo, IsGivenUp, LineTracks, TracksBy}
use Rattle.outage_laws.proofs.UnservedRoom.{IsNext, next_send}
use Rattle.outage_laws.proofs.ServesLaws.{IsQuick, due_by, first_few, gap_late, in_time, one_of_chances, last_past}
use Rattle.outage_laws.proofs.SinceLaws.{IsBackBehind, comes_behind}
use Rattle.outage_laws.proofs.OldestServes.{IsLast, is_begun}

-- Numbers

-- what was given up had a send since, where the line still waits
pub wait_sent : (since first wait within now pause until slack : ℕ) → until ≡ first + answer_wait + pause → now < until → since + answer_wait + pause + 2 * within + slack ≤ now + 1 + wait
    → since ≤ first + wait
wait_sent since first wait within now pause until slack is soon late = omega (arith, is, soon, late)

-- and that was answered by now
pub over_twice : (first wait within now slack : ℕ) → slack ≤ 1 → wait + 2 * within < answer_wait → first + answer_wait ≤ now → first + wait + 2 * within + slack ≤ now
over_twice first wait within now slack small few over = omega (arith, small, few, over)

-- the same where its announcement isn't answered yet
pub next_sent : (since first wait within now pause next slack : ℕ) → next ≡ first + answer_wait + pause → now < next + 2 * within + slack
    → since + answer_wait + pause + 2 * within + slack ≤ now + 1 + wait → since ≤ first + wait
next_sent since first wait within now pause next slack is soon late = omega (arith, is, soon, late)

pub next_twice : (since first one wait within now pause slack : ℕ) → first + one + 1 ≤ since + longest_pause → wait ≤ last_chance → since + answer_wait + pause + 2 * within + slack ≤ now + 1 + wait
    → first + one + 2 * within + slack ≤ now
next_twice since first one wait within now pause slack next low late = omega (arith, next, low, late)

pub twice_past : (first wait within now slack : ℕ) → first + wait + 2 * within + slack ≤ now → first + wait ≤ now
twice_past first wait within now slack twice = omega (arith, twice)

pub not_twice : (first one within now slack : ℕ) → one ≡ 0 → now < first + one + 2 * within + slack → now < first + 2 * within + slack
not_twice first one within now slack none soon = omega (arith, none, soon)

pub too_late : (since first wait within now pause slack : ℕ) → now < first + answer_wait → first + wait < since → since + answer_wait + pause + 2 * within + slack ≤ now + 1 + wait → ⊥
too_late since first wait within now pause slack soon before late = absurd (omega (arith, soon, before, late))

pub soon_by : (now due first moment : ℕ) → now < due → due ≤ first + answer_wait → first ≡ moment → now < moment + answer_wait
soon_by now due first moment soon by is = omega (arith, soon, by, is)

pub same_first : (first moment other : ℕ) → first ≡ moment → first ≡ other → moment ≡ other
same_first first moment other is at = sym is ∙ at

-- what was sent first so long ago had a send since
old_past : (since first within now pause wait slack : ℕ) → now < first + answer_wait → wait ≤ last_chance → since + answer_wait + pause + 2 * within + slack ≤ now + 1 + wait
    → since ≤ first + last_chance
old_past since first within now pause wait slack soon low late = omega (arith, soon, low, late)

first_twice : (first one within now : ℕ) → one ≡ 0 → first + 2 * within < now → first + one + 2 * within + 1 ≤ now
first_twice first one within now none late = omega (arith, none, late)

first_is : (first moment more now : ℕ) → first ≡ moment → first + more < now → moment + more < now
first_is first moment more now is late = omega (arith, is, late)

pub began_before : (some more : List Sent) (b : Begun) → OneOf (λ (one : Begun). one ≡ b) (begun_in some) → OneOf (λ (one : Begun). one ≡ b) (begun_in (some ++ more))
began_before some more b began =
    subst (OneOf (λ (one : Begun). one ≡ b)) (sym (begun_both some more)) (one_before (λ (one : Begun). one ≡ b) (begun_in some) (begun_in more) began)

-- A line of a world at this moment, where each of its commands that was sent since, so long ago that an answer had time to come, was answered

module _ (setup : Setup) (steps : List WorldStep) (line since within slack : ℕ) (endpoint : Endpoint) (set_up : IsSetUp setup) (taken : steps_are_taken setup world_opening steps ≡ true)
    (at : endpoint_at (gateway_in setup (plain_world setup steps)).endpoints line ≡ Some endpoint)
    (back : (b : Begun) (wait : ℕ) → IsOfLine setup (plain_world setup steps) line b → since ≤ b.moment + last_chance → since ≤ b.moment + wait → b.moment + wait + 2 * within + slack ≤ now_in setup (plain_world setup steps)
    → (told : IsToldAfter setup (plain_world setup steps) b wait) → IsBackBehind setup steps within b wait told.number)
    (wait : ℕ) (among : OneOf (λ (one : ℕ). one ≡ wait) chances) (few : wait + 2 * within < answer_wait) (small : slack ≤ 1)
    (late : since + answer_wait + wait_of setup line + 2 * within + slack ≤ now_in setup (plain_world setup steps) + 1 + wait) where
  abbrev w : World
  w = plain_world setup steps

  abbrev now : ℕ
  now = now_in setup w

  abbrev sent : List Sent
  sent = line_says setup line w

  some : 1 ≤ line
  some = (place_of (gateway_in setup w).endpoints line endpoint at).0

  low : wait ≤ last_chance
  low =
      one_to (λ (one : ℕ). (one ≤ last_chance) × (one ≡ wait)) (wait ≤ last_chance) (λ one both. subst (λ (n : ℕ). n ≤ last_chance) both.1 both.0) chances
      (one_of_each (λ (one : ℕ). one ≤ last_chance) (λ (one : ℕ). one ≡ wait) chances chances_low among)

  of_last : (b : Begun) → IsLast sent b → IsOfLine setup w line b
  of_last b last = any_from_one (λ (one : Begun). one ≡ b) (begun_in sent) (is_begun sent b last)

  -- what was given up said so at that chance
  chance_said : (mine : List Sent) (b : Begun) → Each (λ (one : ℕ). OneOf (SaysAt b.text (b.moment + one)) mine) chances → OneOf (SaysAt b.text (b.moment + wait)) mine
  chance_said mine b all =
      one_to (λ (one : ℕ). OneOf (SaysAt b.text (b.moment + one)) mine × (one ≡ wait)) (OneOf (SaysAt b.text (b.moment + wait)) mine)
      (λ one both. subst (λ (n : ℕ). OneOf (SaysAt b.text (b.moment + n)) mine) both.1 both.0) chances
      (one_of_each (λ (one : ℕ). OneOf (SaysAt b.text (b.moment + one)) mine) (λ (one : ℕ). one ≡ wait) chances all among)

  given_up_said : (before : List Sent) (until : ℕ) (g : IsGivenUp setup line before now until) → OneOf (SaysAt g.b.text (g.b.moment + wait)) g.mine
  given_up_said before until g =
      chance_said g.mine g.b (eight (λ (one : ℕ). OneOf (SaysAt g.b.text (g.b.moment + one)) g.mine) (λ number most. g.went number most))

  -- It doesn't wait to announce itself

  not_waiting : (until : ℕ) → endpoint.post.restart ≡ Waiting until → IsGivenUp setup line sent now until → now < until → ⊥
  not_waiting until waits g soon =
      waiting_answered setup steps line within endpoint set_up taken at g.b wait few g.old g.mine g.order g.stretch (given_up_said sent until g) until waits
      (back g.b wait (of_last g.b (record { old = g.old; mine = g.mine; order = g.order; stretch = g.stretch }))
      (last_past since g.b.moment wait (wait_sent since g.b.moment wait within now (wait_of setup line) until slack g.begins soon late) low)
      (wait_sent since g.b.moment wait within now (wait_of setup line) until slack g.begins soon late) (over_twice g.b.moment wait within now slack small few g.over))

  -- What is in flight was sent so often as the clock is late

  abbrev SaidOf : List Sent → Begun → ℕ → Type 0
  SaidOf mine b one = b.moment + one ≤ now → OneOf (SaysAt b.text (b.moment + one)) mine

  flight_said : (old : List Sent) (flight : InFlight) (f : Flies setup line (Behind now) sent old now flight) → Each (SaidOf f.mine f.b) chances
  flight_said old flight f = eight (SaidOf f.mine f.b) (λ number most past. flying_said f.mine f.b flight now f.is f.on f.up number past)

  flight_soon : (old : List Sent) (flight : InFlight) (f : Flies setup line (Behind now) sent old now flight) → now < f.b.moment + answer_wait
  flight_soon old flight f = soon_by now flight.due flight.first f.b.moment f.up (due_by f.mine flight f.on) f.is.first

  -- and no send of it since was so long ago
  not_sent : (old : List Sent) (flight : InFlight) (f : Flies setup line (Behind now) sent old now flight) → endpoint.post.pending ≡ Some flight
      → since ≤ f.b.moment + last_chance → (one : ℕ) → SaidOf f.mine f.b one → since ≤ f.b.moment + one → f.b.moment + one + 2 * within + slack ≤ now → ⊥
  not_sent old flight f flies recent one has past twice =
      flight_answered setup steps line within endpoint set_up taken at f.b one old f.mine f.order f.stretch (has (twice_past f.b.moment one within now slack twice)) flight flies f.is
      (back f.b one (of_last f.b (record { old = old; mine = f.mine; order = f.order; stretch = f.stretch })) recent past twice)

  -- It didn't announce itself without an answer

  module _ (a : Announces setup line (Behind now) sent now endpoint.post.pending) (announces : endpoint.post.restart ≡ Announced) where
    second : a.its.b.moment ≡ a.before.b.moment + answer_wait + wait_of setup line
    second = same_first a.flight.first a.its.b.moment (a.before.b.moment + answer_wait + wait_of setup line) a.its.is.first a.before.begins

    -- the one before it had a send since
    before_it : now < a.its.b.moment + 2 * within + slack → ⊥
    before_it soon =
        announced_answered setup steps line within endpoint set_up taken at a.before.b a.its.b wait (wait_of setup line) few a.before.old a.old a.before.mine a.its.mine a.before.order
        a.before.stretch a.its.order a.its.stretch (given_up_said a.old a.flight.first a.before) announces second
        (back a.before.b wait of_it
        (last_past since a.before.b.moment wait
        (next_sent since a.before.b.moment wait within now (wait_of setup line) a.its.b.moment slack second soon late) low) (next_sent since a.before.b.moment wait within now (wait_of setup line) a.its.b.moment slack second soon late)
        (over_twice a.before.b.moment wait within now slack small few a.before.over)) where
          of_it : IsOfLine setup w line a.before.b
          of_it =
              any_from_one (λ (one : Begun). one ≡ a.before.b) (begun_in sent)
              (subst (λ (x : List Sent). OneOf (λ (one : Begun). one ≡ a.before.b) (begun_in x)) (sym a.its.order)
              (began_before a.old a.its.mine a.before.b
              (is_begun a.old a.before.b (record { old = a.before.old; mine = a.before.mine; order = a.before.order; stretch = a.before.stretch }))))

    by_first : since ≤ a.its.b.moment + last_chance → (one : ℕ) → SaidOf a.its.mine a.its.b one → since ≤ a.its.b.moment + one → one ≡ 0 → (x : Bool) → nat_le (a.its.b.moment + one + 2 * within + slack) now ≡ x → ⊥
    by_first recent one has past none true twice = not_sent a.old a.flight a.its a.flies recent one has past (leb-true (a.its.b.moment + one + 2 * within + slack) now twice)
    by_first recent one has past none false fewer =
        before_it (not_twice a.its.b.moment one within now slack none (leb-false (a.its.b.moment + one + 2 * within + slack) now fewer))

    by_soon : since ≤ a.its.b.moment + last_chance → (one : ℕ) → SaidOf a.its.mine a.its.b one → since ≤ a.its.b.moment + one → (one ≡ 0) ⊎ (a.its.b.moment + one + 1 ≤ since + longest_pause) → ⊥
    by_soon recent one has past (inl none) = by_first recent one has past none (nat_le (a.its.b.moment + one + 2 * within + slack) now) refl
    by_soon recent one has past (inr next) =
        not_sent a.old a.flight a.its a.flies recent one has past (next_twice since a.its.b.moment one wait within now (wait_of setup line) slack next low late)

    by_next : since ≤ a.its.b.moment + last_chance → IsNext (SaidOf a.its.mine a.its.b) since a.its.b.moment → ⊥
    by_next recent is = by_soon recent is.wait is.has is.late is.soon

    by_test : (x : Bool) → nat_le since (a.its.b.moment + wait) ≡ x → ⊥
    by_test true past =
        by_next (last_past since a.its.b.moment wait (leb-true since (a.its.b.moment + wait) past) low)
        (next_send (SaidOf a.its.mine a.its.b) since a.its.b.moment (last_past since a.its.b.moment wait (leb-true since (a.its.b.moment + wait) past) low)
        (flight_said a.old a.flight a.its))
    by_test false before =
        too_late since a.its.b.moment wait within now (wait_of setup line) slack (flight_soon a.old a.flight a.its) (leb-false since (a.its.b.moment + wait) before) late

    not_announced : ⊥
    not_announced = by_test (nat_le since (a.its.b.moment + wait)) refl

  by_restart : (restart : Restart) → endpoint.post.restart ≡ restart → TracksBy setup line (Behind now) sent now restart endpoint.post.pending → endpoint.post.restart ≡ Serving
  by_restart (Waiting until) waits t = absurd (not_waiting until waits t.before t.up)
  by_restart Announced announces t = absurd (not_announced t announces)
  by_restart Serving serving t = serving

  tracks : LineTracks setup line (Behind now) now sent endpoint
  tracks = tracks_at setup line some set_up steps taken endpoint at

  -- So its agent is there.
  pub has_its_agent : endpoint.post.restart ≡ Serving
  has_its_agent = by_restart endpoint.post.restart refl tracks.tracks

  -- And what it has in flight was first sent in twice the network's time.

  module _ (one_more : slack ≡ 1) where
    flight_of : (flight : InFlight) → endpoint.post.pending ≡ Some flight → FliesSo setup line (Behind now) sent now flight
    flight_of flight flies =
        subst (λ (p : Option InFlight). IfSome p (FliesSo setup line (Behind now) sent now)) flies
        (subst (λ (r : Restart). TracksBy setup line (Behind now) sent now r endpoint.post.pending) has_its_agent tracks.tracks)

    old_by_soon : (old : List Sent) (flight : InFlight) (f : Flies setup line (Behind now) sent old now flight) → endpoint.post.pending ≡ Some flight
        → since ≤ f.b.moment + last_chance → f.b.moment + 2 * within < now → (one : ℕ)
        → SaidOf f.mine f.b one → since ≤ f.b.moment + one → (one ≡ 0) ⊎ (f.b.moment + one + 1 ≤ since + longest_pause) → ⊥
    old_by_soon old flight f flies recent old_enough one has past (inl none) =
        not_sent old flight f flies recent one has past
        (subst (λ (n : ℕ). f.b.moment + one + 2 * within + n ≤ now) (sym one_more) (first_twice f.b.moment one within now none old_enough))
    old_by_soon old flight f flies recent old_enough one has past (inr next) =
        not_sent old flight f flies recent one has past (next_twice since f.b.moment one wait within now (wait_of setup line) slack next low late)

    not_old : (flight : InFlight) → endpoint.post.pending ≡ Some flight → (f : FliesSo setup line (Behind now) sent now flight) → f.1.b.moment + 2 * within < now → ⊥
    not_old flight flies f old_enough =
        by_next_one (next_send (SaidOf f.1.mine f.1.b) since f.1.b.moment
        (old_past since f.1.b.moment within now (wait_of setup line) wait slack (flight_soon f.0 flight f.1) low late) (flight_said f.0 flight f.1)) where
          by_next_one : IsNext (SaidOf f.1.mine f.1.b) since f.1.b.moment → ⊥
          by_next_one is = old_by_soon f.0 flight f.1 flies
              (old_past since f.1.b.moment within now (wait_of setup line) wait slack (flight_soon f.0 flight f.1) low late) old_enough is.wait is.has is.late is.soon

    awaited_by : (flight : InFlight) → endpoint.post.pending ≡ Some flight → (f : FliesSo setup line (Behind now) sent now flight) → (x : Bool)
        → nat_le now (flight.first + 2 * within) ≡ x → now ≤ flight.first + 2 * within
    awaited_by flight flies f true young = leb-true now (flight.first + 2 * within) young
    awaited_by flight flies f false old =
        absurd (not_old flight flies f
        (first_is flight.first f.1.b.moment (2 * within) now f.1.is.first (leb-false now (flight.first + 2 * within) old)))

    pub is_awaited : (flight : InFlight) → endpoint.post.pending ≡ Some flight → IsAwaited now (2 * within) endpoint.post.pending
    is_awaited flight flies =
        let f = flight_of flight flies in
        record { flight = flight; flies = flies; sent = f.1.past; lately = awaited_by flight flies f (nat_le now (flight.first + 2 * within)) refl }

-- In a world

-- a line isn't the gateway itself
pub wait_is : (setup : Setup) (line : ℕ) → 1 ≤ line → wait_of setup line ≡ setup.disconnected_wait
wait_is setup line some = by_zero (line == 0) refl where
  by_zero : (b : Bool) → (line == 0) ≡ b → (if b then setup.restart_wait else setup.disconnected_wait) ≡ setup.disconnected_wait
  by_zero true none = absurd (let zero : line ≡ 0 = eqb-true line 0 none in omega (arith, some, zero))
  by_zero false other = refl

none_more : (first wait within now : ℕ) → first + wait + 2 * within + 0 ≤ now → first + wait + 2 * within ≤ now
none_more first wait within now late = omega (arith, late)

pub with_none : (since pause other within now wait : ℕ) → other ≡ pause → since + answer_wait + pause + 2 * within ≤ now + 1 + wait → since + answer_wait + other + 2 * within + 0 ≤ now + 1 + wait
with_none since pause other within now wait same late = omega (arith, same, late)

pub agent_is_there_by : (setup : Setup) (steps : List WorldStep) (since within wait line : ℕ) (endpoint : Endpoint) → IsSetUp setup → steps_are_taken setup world_opening steps ≡ true
    → IsFairFrom setup steps since within → AgentHasRoomFrom setup steps since → let w = plain_world setup steps in ((b : Begun) → IsOfLine setup w line b → since ≤ b.moment + last_chance → GoesToAgent setup w b.text)
    → endpoint_at (gateway_in setup w).endpoints line ≡ Some endpoint → Any (λ (one : ℕ). one ≡ wait) chances → wait + 2 * within < answer_wait
    → since + answer_wait + setup.disconnected_wait + 2 * within ≤ now_in setup w + 1 + wait → endpoint.post.restart ≡ Serving
agent_is_there_by setup steps since within wait line endpoint set_up taken fair roomy reach at among few late =
    let now = now_in setup (plain_world setup steps) in
    has_its_agent setup steps line since within 0 endpoint set_up taken at
    (λ b one of recent past twice told. comes_behind setup steps since within line b set_up taken fair roomy of (reach b of recent) one told past (none_more b.moment one within now twice))
    wait (one_from_any (λ (one : ℕ). one ≡ wait) chances among) few (omega arith)
    (with_none since setup.disconnected_wait (wait_of setup line) within now wait
    (wait_is setup line (place_of (gateway_in setup (plain_world setup steps)).endpoints line endpoint at).0) late)

pub agent_is_there : (setup : Setup) (steps : List WorldStep) (since within line : ℕ) (endpoint : Endpoint) → IsSetUp setup → steps_are_taken setup world_opening steps ≡ true
    → IsQuick within → IsFairFrom setup steps since within → AgentHasRoomFrom setup steps since → let w = plain_world setup steps in
    ((b : Begun) → IsOfLine setup w line b → since ≤ b.moment + last_chance → GoesToAgent setup w b.text) → endpoint_at (gateway_in setup w).endpoints line ≡ Some endpoint
    → since + gap_of within + setup.disconnected_wait + 2 * within ≤ now_in setup w + 1 → endpoint.post.restart ≡ Serving
agent_is_there setup steps since within line endpoint set_up taken quick fair roomy reach at late =
    let last = last_in_time within 0 chances in
    let is = in_time within 0 chances (first_few within quick) in
    agent_is_there_by setup steps since within last line endpoint set_up taken fair roomy reach at
    (any_from_one (λ (one : ℕ). one ≡ last) chances (one_of_chances last is.among)) is.few
    (gap_late since within (now_in setup (plain_world setup steps)) setup.disconnected_wait last is.few late)
