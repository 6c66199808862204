-- No packet is handed over that is older than 10,000 ms. So a network that is fair, but takes longer than that, is quick at a beginning of the
-- world: what has to be handed over there by now, in all of it, is so by then.
use Rattle.std.proofs.Common.{◌≡◌, ℕ, ◌+◌, ◌-◌, ◌*◌, ◌<◌, ◌≤◌, Bool, true, false, if◌then◌else◌, List, [], ◌∷◌, ◌++◌, Some, inl, inr, refl, sym, ap, ◌∙◌, subst, arith, append_assoc}
use Rattle.std.specs.Prelude.{◌⊎◌, nat_lt, slice_get}
use Rattle.plain_machine.specs.declared.setup.Setup.{Setup}
use Rattle.plain_machine.specs.Event.{GatewayEvent}
use Rattle.plain_machine.specs.Lists.{plain}
use Rattle.plain_machine.specs.Message.{Begun}
use Rattle.agent_core.specs.declared.packet.Posted.{Posted}
use Rattle.agent_core.specs.World.{World, WorldStep, delivering, now_in, oldest_packet, plain_world, steps_are_taken, world_after, world_opening}
use Rattle.world_laws.specs.Chances.{chances, last_chance}
use Rattle.world_laws.specs.Copies.{answer_wait}
use Rattle.world_laws.specs.Fairness.{GoesToAgent, IsHandedOver}
use Rattle.world_laws.specs.OwnChances.{IsOfLine}
use Rattle.world_laws.specs.Rounds.{IsAskedWithin}
use Rattle.world_laws.proofs.ChanceLaws.{front_forward, handed_now}
use Rattle.world_laws.proofs.FairLaws.{IsBefore, one_first, stays_found}
use Rattle.world_laws.proofs.TakenLaws.{TookMore, TookThem, same_front, took_more, took_them}
use Rattle.world_laws.proofs.PostedFinal.{steps_more, taken_front}
use Rattle.outage_laws.specs.AfterOutage.{AgentHasRoomFrom, IsFairFrom, gap_of, last_in_time}
use Rattle.outage_laws.proofs.OldestServes.{Cut, cut_from, handed_young, of_stays, opening_now}
use Rattle.outage_laws.proofs.ServesLaws.{IsQuick}

-- Numbers

pub long_for : (within : ℕ) → answer_wait ≤ 500 + 2 * within → 11500 ≤ within
long_for within many = omega (arith, many)

limit_low : (within now : ℕ) → 11500 ≤ within → within ≤ now → now - within + 11400 ≤ now
limit_low within now long deep = omega (arith, long, deep)

short_is : (within now front : ℕ) → within ≤ now → now - within + 11400 ≤ front + 1000 → ((front + within) - now) + now ≡ front + within
short_is within now front deep near = omega (arith, deep, near)

short_high : (within now front : ℕ) → within ≤ now → front ≤ now - within + 11400 → (front + within) - now ≤ 11400
short_high within now front deep low = omega (arith, deep, low)

short_low : (within now front : ℕ) → within ≤ now → now - within + 11400 ≤ front + 1000 → 10400 ≤ (front + within) - now
short_low within now front deep near = omega (arith, deep, near)

-- a packet that is so old at the beginning is older than the network takes in all
then_late : (moment short within now front : ℕ) → short + now ≡ front + within → moment + short ≤ front → moment + within ≤ now
then_late moment short within now front is late = omega (arith, is, late)

young_so : (moment short back : ℕ) → 10400 ≤ short → back ≤ moment + oldest_packet → back ≤ moment + short
young_so moment short back low young = omega (arith, low, young)

not_behind : (moment short front back on : ℕ) → 10400 ≤ short → back ≤ moment + oldest_packet → moment + short ≤ front → front ≤ on → on ≡ back → ⊥
not_behind moment short front back on low young late past same = absurd (omega (arith, low, young, late, past, same))

shorter_than : (short within : ℕ) → short ≤ 11400 → 11500 ≤ within → short ≤ within
shorter_than short within high long = omega (arith, high, long)

is_quick_so : (short : ℕ) → short ≤ 11400 → 500 + 2 * short < answer_wait
is_quick_so short high = omega (arith, high)

not_later : (before other front : ℕ) → before < front → front ≤ other → other ≡ before → ⊥
not_later before other front early past same = absurd (omega (arith, early, past, same))

-- where an answer to the second send doesn't come in time, a command is given up 23,500 ms behind the last send whose answer does

abbrev last_behind : ℕ → ℕ
last_behind within = last_in_time within 500 (1500 ∷ 3500 ∷ 7500 ∷ 11500 ∷ 15500 ∷ last_chance ∷ [])

none_in_time : (within : ℕ) → nat_lt (500 + 2 * within) answer_wait ≡ false → last_in_time within 0 chances ≡ 0
none_in_time within many = by_test (nat_lt (0 + 2 * within) answer_wait) where
  by_test : (b : Bool) → (if b then (if nat_lt (500 + 2 * within) answer_wait then last_behind within else 0) else 0) ≡ 0
  by_test true = ap (λ (x : Bool). if x then last_behind within else 0) many
  by_test false = refl

gap_by : (short within last other : ℕ) → other ≡ 0 → answer_wait - last ≤ answer_wait - other
gap_by short within last other none = omega (arith, none)

pub gap_no_less : (short within : ℕ) → nat_lt (500 + 2 * within) answer_wait ≡ false → gap_of short ≤ gap_of within
gap_no_less short within many = gap_by short within (last_in_time short 0 chances) (last_in_time within 0 chances) (none_in_time within many)

module _ (setup : Setup) (steps : List WorldStep) (since within : ℕ) (taken : steps_are_taken setup world_opening steps ≡ true) (fair : IsFairFrom setup steps since within)
    (roomy : AgentHasRoomFrom setup steps since) (long : 11500 ≤ within) (deep : within ≤ now_in setup (plain_world setup steps)) where
  abbrev now : ℕ
  now = now_in setup (plain_world setup steps)

  abbrev limit : ℕ
  limit = now - within + 11400

  pub cut : Cut setup steps limit
  cut = cut_from setup limit [] steps taken (opening_now setup limit) (limit_low within now long deep)

  abbrev pub at_cut : ℕ
  at_cut = now_in setup (plain_world setup cut.front)

  -- so long the network takes there
  abbrev pub short : ℕ
  short = (at_cut + within) - now

  pub same_end : short + now ≡ at_cut + within
  same_end = short_is within now at_cut deep cut.near

  high : short ≤ 11400
  high = short_high within now at_cut deep cut.low

  pub low : 10400 ≤ short
  low = short_low within now at_cut deep cut.near

  pub no_longer : short ≤ within
  no_longer = shorter_than short within high long

  pub quick_there : IsQuick short
  quick_there = is_quick_so short high

  pub taken_whole : steps_are_taken setup world_opening (cut.front ++ cut.later) ≡ true
  taken_whole = subst (λ (s : List WorldStep). steps_are_taken setup world_opening s ≡ true) cut.order taken

  pub taken_there : steps_are_taken setup world_opening cut.front ≡ true
  taken_there = taken_front setup world_opening cut.front cut.later taken_whole

  pub fair_there : IsFairFrom setup cut.front since short
  fair_there = λ number post found past old. handed number post found past old where
    handed : (number : ℕ) (post : Posted) → slice_get (plain_world setup cut.front).posted number ≡ Some post → since ≤ post.packet.moment → post.packet.moment + short ≤ at_cut
        → IsHandedOver setup cut.front short number post
    handed number post found past old = by_front (one_first (t.before ++ delivering number ∷ []) cut.front t.later cut.later (sym t.order ∙ cut.order)) where
      t : IsHandedOver setup steps within number post
      t =
          fair number post
          (subst (λ (s : List WorldStep). slice_get (plain_world setup s).posted number ≡ Some post) (sym cut.order) (stays_found setup 0 cut.front cut.later number post found)) past
          (then_late post.packet.moment short within now at_cut same_end old)

      t_taken : steps_are_taken setup world_opening (t.before ++ delivering number ∷ []) ≡ true
      t_taken =
          taken_front setup world_opening (t.before ++ delivering number ∷ []) t.later (subst (λ (s : List WorldStep). steps_are_taken setup world_opening s ≡ true) t.order taken)

      young : now_in setup (plain_world setup t.before) ≤ post.packet.moment + oldest_packet
      young = handed_young setup t.before number post t_taken t.sent

      by_front : IsBefore (t.before ++ delivering number ∷ []) cut.front ⊎ IsBefore cut.front (t.before ++ delivering number ∷ []) → IsHandedOver setup cut.front short number post
      by_front (inl before) = record {
        before = t.before;
        later = before.0;
        order = before.1;
        sent = t.sent;
        soon = young_so post.packet.moment short (now_in setup (plain_world setup t.before)) low young;
      }
      by_front (inr behind) =
          absurd (not_behind post.packet.moment short at_cut (now_in setup (plain_world setup t.before)) (now_in setup (plain_world setup (cut.front ++ behind.0))) low young old
          (front_forward setup cut.front behind.0 (subst (λ (s : List WorldStep). steps_are_taken setup world_opening s ≡ true) behind.1 t_taken))
          (ap (λ (s : List WorldStep). now_in setup (plain_world setup s)) (sym behind.1) ∙ handed_now setup t.before number))

  pub roomy_there : AgentHasRoomFrom setup cut.front since
  roomy_there = λ before later order past. roomy before (later ++ cut.later) (cut.order ∙ ap (λ (s : List WorldStep). s ++ cut.later) order ∙ append_assoc before later cut.later) past

  pub goes_there : (line : ℕ) (b : Begun) → IsOfLine setup (plain_world setup cut.front) line b
      → (IsOfLine setup (plain_world setup steps) line b → GoesToAgent setup (plain_world setup steps) b.text) → GoesToAgent setup (plain_world setup cut.front) b.text
  goes_there line b of goes number post found end inside =
      goes (subst (λ (s : List WorldStep). IsOfLine setup (plain_world setup s) line b) (sym cut.order) (of_stays setup cut.front cut.later line b of)) number post
      (subst (λ (s : List WorldStep). slice_get (plain_world setup s).posted number ≡ Some post) (sym cut.order) (stays_found setup 0 cut.front cut.later number post found)) end inside

  -- What the gateway took by then begins with what it took sooner

  module _ (before after : List GatewayEvent) (took : (plain_world setup steps).gateway_took ≡ before ++ after) (early : (plain setup before).now < at_cut) where
    pub t : TookThem setup world_opening steps before
    t = took_them setup steps before after took

    then_is : now_in setup (plain_world setup t.first) ≡ (plain setup before).now
    then_is = ap (λ (x : List GatewayEvent). (plain setup x).now) t.took

    first_there : IsBefore t.first cut.front ⊎ IsBefore cut.front t.first → IsBefore t.first cut.front
    first_there (inl is) = is
    first_there (inr behind) =
        absurd (not_later (plain setup before).now (now_in setup (plain_world setup t.first)) at_cut early
        (subst (λ (s : List WorldStep). at_cut ≤ now_in setup (plain_world setup s)) (sym behind.1)
        (front_forward setup cut.front behind.0
        (subst (λ (s : List WorldStep). steps_are_taken setup world_opening s ≡ true) behind.1
        (taken_front setup world_opening t.first t.later (subst (λ (s : List WorldStep). steps_are_taken setup world_opening s ≡ true) t.order taken)))))
        then_is)

    pub is_front : IsBefore t.first cut.front
    is_front = first_there (one_first t.first cut.front t.later cut.later (sym t.order ∙ cut.order))

    pub between : TookMore (plain_world setup t.first) (world_after setup (plain_world setup t.first) is_front.0)
    between = took_more setup (plain_world setup t.first) is_front.0

    pub since_then : TookMore (plain_world setup cut.front) (world_after setup (plain_world setup cut.front) cut.later)
    since_then = took_more setup (plain_world setup cut.front) cut.later

    -- what it took since, up to there, and behind that
    abbrev pub mine : List GatewayEvent
    mine = between.0

    abbrev pub rest : List GatewayEvent
    rest = since_then.0

    pub took_there : (plain_world setup cut.front).gateway_took ≡ before ++ mine
    took_there =
        ap (λ (s : List WorldStep). (plain_world setup s).gateway_took) is_front.1 ∙ ap (λ (w : World). w.gateway_took) (steps_more setup world_opening t.first is_front.0) ∙ between.1
        ∙ ap (λ (x : List GatewayEvent). x ++ mine) t.took

    took_all : before ++ after ≡ before ++ (mine ++ rest)
    took_all =
        sym took ∙ ap (λ (s : List WorldStep). (plain_world setup s).gateway_took) cut.order
        ∙ ap (λ (w : World). w.gateway_took) (steps_more setup world_opening cut.front cut.later) ∙ since_then.1 ∙ ap (λ (x : List GatewayEvent). x ++ rest) took_there
        ∙ append_assoc before mine rest

    pub both : after ≡ mine ++ rest
    both = same_front before after (mine ++ rest) took_all

    pub asked_there : (line asking : ℕ) → IsAskedWithin setup line before after asking → IsAskedWithin setup line before mine asking
    asked_there line asking asked = λ some between later s order. asked some between (later ++ rest) s (parts some between later order) where
      parts : (some between later : List GatewayEvent) → mine ≡ (some ++ between) ++ later → after ≡ (some ++ between) ++ (later ++ rest)
      parts some between later order = both ∙ ap (λ (x : List GatewayEvent). x ++ rest) order ∙ append_assoc (some ++ between) later rest
