-- No packet is handed over that is older than 10,000 ms. So over a network that is fair, but takes longer, a gateway serves at a beginning of
-- the world, which is over then.
use Rattle.std.proofs.Common.{◌≡◌, ℕ, ◌+◌, ◌-◌, ◌*◌, ◌<◌, ◌≤◌, Bool, true, false, if◌then◌else◌, List, [], ◌∷◌, ◌++◌, Option, Some, None, inl, inr, refl, sym, ap, ◌∙◌, subst, arith, append-nil, append_assoc}
use Rattle.std.specs.Prelude.{◌⊎◌, nat_le, nat_lt, slice_get}
use Rattle.std.proofs.lemmas.Bool.{leb-true, leb-false, ltb-false}
use Rattle.std.proofs.lemmas.Option.{none-some}
use Rattle.plain_machine.specs.declared.setup.Setup.{Setup}
use Rattle.plain_machine.specs.Event.{GatewayEvent}
use Rattle.plain_machine.specs.Lists.{machine_after, plain, sent_from, sent_of}
use Rattle.plain_machine.specs.Machine.{opening, serves}
use Rattle.plain_machine.specs.Message.{Begun, Sent}
use Rattle.plain_machine.specs.Setup.{IsSetUp}
use Rattle.machine_laws.specs.Belonging.{of_line}
use Rattle.machine_laws.specs.Saying.{OneOf, begun_in, begun_at}
use Rattle.machine_laws.proofs.EachLemmas.{any_from_one, one_before, one_from_any, one_behind}
use Rattle.machine_laws.proofs.OwningLemmas.{of_both}
use Rattle.agent_core.specs.declared.packet.Posted.{Posted}
use Rattle.agent_core.specs.World.{World, WorldStep, delivering, delivery_refusal, gateway_in, now_in, oldest_packet, packet_too_old, plain_world, step_refusal, steps_are_taken, world_after, world_opening}
use Rattle.world_laws.specs.Chances.{chances}
use Rattle.world_laws.specs.Copies.{answer_wait}
use Rattle.world_laws.specs.Fairness.{GoesToAgent, IsHandedOver}
use Rattle.world_laws.specs.OwnChances.{IsOfLine}
use Rattle.world_laws.proofs.ChanceLaws.{front_forward, handed_now}
use Rattle.world_laws.proofs.FairLaws.{IsBefore, one_first, stays_found, taken_last}
use Rattle.world_laws.proofs.TakenLaws.{took_more}
use Rattle.world_laws.proofs.OnTurns.{begun_both}
use Rattle.world_laws.proofs.RoundLaws.{sent_on}
use Rattle.world_laws.proofs.PostedFinal.{steps_more, taken_front}
use Rattle.told_laws.proofs.ClockSteps.{step_soon}
use Rattle.outage_laws.specs.AfterOutage.{AgentHasRoomFrom, IsFairFrom}
use Rattle.outage_laws.proofs.ServesLaws.{serves_by}
use Rattle.outage_laws.proofs.TrackLaws.{Closed, closed_front}

-- A beginning at which the clock is at a moment, or 1,000 ms before it at most

pub record Cut (setup : Setup) (steps : List WorldStep) (limit : ℕ) : Type 0 where
  pub front : List WorldStep
  pub later : List WorldStep
  pub order : steps ≡ front ++ later
  pub low : now_in setup (plain_world setup front) ≤ limit
  pub near : limit ≤ now_in setup (plain_world setup front) + 1000

at_end : (limit now : ℕ) → limit ≤ now → limit ≤ now + 1000
at_end limit now high = omega (arith, high)

near_by : (limit now next : ℕ) → limit < next → next ≤ now + 1000 → limit ≤ now + 1000
near_by limit now next less soon = omega (arith, less, soon)

pub cut_from : (setup : Setup) (limit : ℕ) (front rest : List WorldStep) → steps_are_taken setup world_opening (front ++ rest) ≡ true → now_in setup (plain_world setup front) ≤ limit
    → limit ≤ now_in setup (plain_world setup (front ++ rest)) → Cut setup (front ++ rest) limit
cut_from setup limit front [] taken low high = record {
  front = front;
  later = [];
  order = refl;
  low = low;
  near = at_end limit (now_in setup (plain_world setup front))
      (subst (λ (s : List WorldStep). limit ≤ now_in setup (plain_world setup s)) (append-nil front) high);
}
cut_from setup limit front (step ∷ rest) taken low high =
    by_test (nat_le (now_in setup (plain_world setup (front ++ step ∷ []))) limit) refl (cut_from setup limit (front ++ step ∷ []) rest) where
      order : (front ++ step ∷ []) ++ rest ≡ front ++ step ∷ rest
      order = append_assoc front (step ∷ []) rest

      taken_on : steps_are_taken setup world_opening ((front ++ step ∷ []) ++ rest) ≡ true
      taken_on = subst (λ (s : List WorldStep). steps_are_taken setup world_opening s ≡ true) (sym order) taken

      Goes : Type 0
      Goes =
          steps_are_taken setup world_opening ((front ++ step ∷ []) ++ rest) ≡ true → now_in setup (plain_world setup (front ++ step ∷ [])) ≤ limit
          → limit ≤ now_in setup (plain_world setup ((front ++ step ∷ []) ++ rest)) → Cut setup ((front ++ step ∷ []) ++ rest) limit

      by_test : (b : Bool) → nat_le (now_in setup (plain_world setup (front ++ step ∷ []))) limit ≡ b → Goes → Cut setup (front ++ step ∷ rest) limit
      by_test true past on =
          subst (λ (s : List WorldStep). Cut setup s limit) order
          (on taken_on (leb-true (now_in setup (plain_world setup (front ++ step ∷ []))) limit past)
          (subst (λ (s : List WorldStep). limit ≤ now_in setup (plain_world setup s)) (sym order) high))
      by_test false beyond on = record {
        front = front;
        later = step ∷ rest;
        order = refl;
        low = low;
        near = near_by limit (now_in setup (plain_world setup front)) (now_in setup (plain_world setup (front ++ step ∷ [])))
            (leb-false (now_in setup (plain_world setup (front ++ step ∷ []))) limit beyond)
            (step_soon setup front step (taken_front setup world_opening (front ++ step ∷ []) rest taken_on));
      }

pub opening_now : (setup : Setup) (limit : ℕ) → now_in setup (plain_world setup []) ≤ limit
unfolding world_after machine_after
opening_now setup limit = omega arith

-- What is so of a beginning

young_by : (now moment : ℕ) → nat_lt oldest_packet (now - moment) ≡ false → now ≤ moment + oldest_packet
young_by now moment is = (let low : now - moment ≤ oldest_packet = ltb-false oldest_packet (now - moment) is in omega (arith, low))

pub handed_young : (setup : Setup) (before : List WorldStep) (number : ℕ) (post : Posted) → steps_are_taken setup world_opening (before ++ delivering number ∷ []) ≡ true
    → slice_get (plain_world setup before).posted number ≡ Some post → now_in setup (plain_world setup before) ≤ post.packet.moment + oldest_packet
unfolding step_refusal
handed_young setup before number post taken sent =
    by_test (nat_lt oldest_packet (now_in setup (plain_world setup before) - post.packet.moment)) refl
    (subst (λ (o : Option Posted). delivery_refusal o (now_in setup (plain_world setup before)) ≡ None) sent
    (taken_last setup world_opening before (delivering number) taken)) where
      by_test : (b : Bool) → nat_lt oldest_packet (now_in setup (plain_world setup before) - post.packet.moment) ≡ b → (if b then Some packet_too_old else None) ≡ None
          → now_in setup (plain_world setup before) ≤ post.packet.moment + oldest_packet
      by_test true old none = absurd (none-some packet_too_old (sym none))
      by_test false young none = young_by (now_in setup (plain_world setup before)) post.packet.moment young

pub of_stays : (setup : Setup) (some more : List WorldStep) (line : ℕ) (b : Begun) → IsOfLine setup (plain_world setup some) line b → IsOfLine setup (plain_world setup (some ++ more)) line b
of_stays setup some more line b of =
    any_from_one (λ (one : Begun). one ≡ b) (begun_in (of_line line (sent_of setup (plain_world setup (some ++ more)).gateway_took)))
    (subst (OneOf (λ (one : Begun). one ≡ b)) (sym is)
    (one_before (λ (one : Begun). one ≡ b) (begun_in old) (begun_in (of_line line since)) (one_from_any (λ (one : Begun). one ≡ b) (begun_in old) of))) where
      w : World
      w = plain_world setup some

      t : (events : List GatewayEvent) × ((world_after setup w more).gateway_took ≡ w.gateway_took ++ events)
      t = took_more setup w more

      since : List Sent
      since = sent_from setup (plain setup w.gateway_took) t.0

      old : List Sent
      old = of_line line (sent_of setup w.gateway_took)

      is : begun_in (of_line line (sent_of setup (plain_world setup (some ++ more)).gateway_took)) ≡ begun_in old ++ begun_in (of_line line since)
      is =
          ap (λ (x : World). begun_in (of_line line (sent_of setup x.gateway_took))) (steps_more setup world_opening some more)
          ∙ ap (λ (x : List GatewayEvent). begun_in (of_line line (sent_of setup x))) t.1
          ∙ ap (λ (x : List Sent). begun_in (of_line line x)) (sent_on setup (opening setup) w.gateway_took t.0)
          ∙ ap begun_in (of_both line (sent_of setup w.gateway_took) since) ∙ begun_both old (of_line line since)

-- The moments

then_late : (moment within now limit front : ℕ) → limit + within ≡ now + oldest_packet → moment + (oldest_packet + 1) ≤ front → front ≤ limit → moment + within ≤ now
then_late moment within now limit front is late low = omega (arith, is, late, low)

young_so : (moment back : ℕ) → back ≤ moment + oldest_packet → back ≤ moment + (oldest_packet + 1)
young_so moment back young = omega (arith, young)

not_behind : (moment front back on : ℕ) → back ≤ moment + oldest_packet → moment + (oldest_packet + 1) ≤ front → front ≤ on → on ≡ back → ⊥
not_behind moment front back on young late past same = absurd (omega (arith, young, late, past, same))

limit_is : (since within restart now : ℕ) → since + 22000 + restart + 2 * within ≤ now → (now - within + oldest_packet) + within ≡ now + oldest_packet
limit_is since within restart now late = omega (arith, late)

limit_low : (since within restart now : ℕ) → since + 22000 + restart + 2 * within ≤ now → 11500 ≤ within → now - within + oldest_packet ≤ now
limit_low since within restart now late long = omega (arith, late, long)

front_late : (since within restart now front : ℕ) → since + 22000 + restart + 2 * within ≤ now → 11500 ≤ within → now - within + oldest_packet ≤ front + 1000
    → since + answer_wait + restart + 2 * (oldest_packet + 1) ≤ front + 1 + 1500
front_late since within restart now front late long near = omega (arith, late, long, near)

module _ (setup : Setup) (steps : List WorldStep) (since within : ℕ) (set_up : IsSetUp setup) (taken : steps_are_taken setup world_opening steps ≡ true) (some : 1 ≤ since)
    (fair : IsFairFrom setup steps since within) (roomy : AgentHasRoomFrom setup steps since)
    (reach : (b : Begun) → IsOfLine setup (plain_world setup steps) 0 b → GoesToAgent setup (plain_world setup steps) b.text) (long : 11500 ≤ within)
    (late : since + 22000 + setup.restart_wait + 2 * within ≤ now_in setup (plain_world setup steps)) where
  abbrev now : ℕ
  now = now_in setup (plain_world setup steps)

  abbrev limit : ℕ
  limit = now - within + oldest_packet

  cut : Cut setup steps limit
  cut = cut_from setup limit [] steps taken (opening_now setup limit) (limit_low since within setup.restart_wait now late long)

  taken_so : steps_are_taken setup world_opening (cut.front ++ cut.later) ≡ true
  taken_so = subst (λ (s : List WorldStep). steps_are_taken setup world_opening s ≡ true) cut.order taken

  fair_so : IsFairFrom setup cut.front since (oldest_packet + 1)
  fair_so = λ number post found past old. handed number post found past old where
    handed : (number : ℕ) (post : Posted) → slice_get (plain_world setup cut.front).posted number ≡ Some post → since ≤ post.packet.moment
        → post.packet.moment + (oldest_packet + 1) ≤ now_in setup (plain_world setup cut.front) → IsHandedOver setup cut.front (oldest_packet + 1) number post
    handed number post found past old = by_front (one_first (t.before ++ delivering number ∷ []) cut.front t.later cut.later (sym t.order ∙ cut.order)) where
      t : IsHandedOver setup steps within number post
      t =
          fair number post
          (subst (λ (s : List WorldStep). slice_get (plain_world setup s).posted number ≡ Some post) (sym cut.order) (stays_found setup 0 cut.front cut.later number post found)) past
          (then_late post.packet.moment within now limit (now_in setup (plain_world setup cut.front)) (limit_is since within setup.restart_wait now late) old cut.low)

      t_taken : steps_are_taken setup world_opening (t.before ++ delivering number ∷ []) ≡ true
      t_taken =
          taken_front setup world_opening (t.before ++ delivering number ∷ []) t.later (subst (λ (s : List WorldStep). steps_are_taken setup world_opening s ≡ true) t.order taken)

      young : now_in setup (plain_world setup t.before) ≤ post.packet.moment + oldest_packet
      young = handed_young setup t.before number post t_taken t.sent

      by_front : IsBefore (t.before ++ delivering number ∷ []) cut.front ⊎ IsBefore cut.front (t.before ++ delivering number ∷ []) → IsHandedOver setup cut.front (oldest_packet + 1) number post
      by_front (inl before) = record {
        before = t.before;
        later = before.0;
        order = before.1;
        sent = t.sent;
        soon = young_so post.packet.moment (now_in setup (plain_world setup t.before)) young;
      }
      by_front (inr behind) =
          absurd (not_behind post.packet.moment (now_in setup (plain_world setup cut.front)) (now_in setup (plain_world setup t.before))
          (now_in setup (plain_world setup (cut.front ++ behind.0))) young old
          (front_forward setup cut.front behind.0 (subst (λ (s : List WorldStep). steps_are_taken setup world_opening s ≡ true) behind.1 t_taken))
          (ap (λ (s : List WorldStep). now_in setup (plain_world setup s)) (sym behind.1) ∙ handed_now setup t.before number))

  roomy_so : AgentHasRoomFrom setup cut.front since
  roomy_so = λ before later order past. roomy before (later ++ cut.later) (cut.order ∙ ap (λ (s : List WorldStep). s ++ cut.later) order ∙ append_assoc before later cut.later) past

  reach_so : (b : Begun) → IsOfLine setup (plain_world setup cut.front) 0 b → GoesToAgent setup (plain_world setup cut.front) b.text
  reach_so b of number post found end inside =
      reach b (subst (λ (s : List WorldStep). IsOfLine setup (plain_world setup s) 0 b) (sym cut.order) (of_stays setup cut.front cut.later 0 b of)) number post
      (subst (λ (s : List WorldStep). slice_get (plain_world setup s).posted number ≡ Some post) (sym cut.order) (stays_found setup 0 cut.front cut.later number post found)) end inside

  front_serves : serves (gateway_in setup (plain_world setup cut.front)).endpoints ≡ true
  front_serves =
      serves_by setup cut.front since (oldest_packet + 1) 1500 set_up (taken_front setup world_opening cut.front cut.later taken_so) some fair_so roomy_so reach_so (any_from_one (λ (one : ℕ). one ≡ 1500) chances (inr (inr (inl refl)))) (omega arith)
      (front_late since within setup.restart_wait now (now_in setup (plain_world setup cut.front)) late long cut.near)

  by_test : (b : Bool) → serves (gateway_in setup (plain_world setup steps)).endpoints ≡ b → serves (gateway_in setup (plain_world setup steps)).endpoints ≡ true
  by_test true serving = serving
  by_test false closed =
      absurd (
      let before : Closed setup (plain_world setup cut.front) =
      closed_front setup set_up cut.front cut.later (subst (λ (s : List WorldStep). Closed setup (plain_world setup s)) cut.order closed) in
      let clash : true ≡ false = sym front_serves ∙ before in cc)

  pub long_serves : serves (gateway_in setup (plain_world setup steps)).endpoints ≡ true
  long_serves = by_test (serves (gateway_in setup (plain_world setup steps)).endpoints) refl

-- What a line sent from the first send of its last command on: where that stands in all that it sent, and in what it sent since a moment.

-- Lists

heads : (x y : Sent) (xs ys : List Sent) → x ∷ xs ≡ y ∷ ys → x ≡ y
heads x y xs ys same = cc

tails : (x y : Sent) (xs ys : List Sent) → x ∷ xs ≡ y ∷ ys → xs ≡ ys
tails x y xs ys same = cc

pub nil_parts : (xs ys : List Begun) → xs ++ ys ≡ [] → (xs ≡ []) × (ys ≡ [])
nil_parts [] ys none = (refl, none)
nil_parts (x ∷ xs) ys none = absurd cc

none_last : (ys : List Begun) (y : Begun) → [] ≡ ys ++ y ∷ [] → ⊥
none_last [] y same = cc
none_last (z ∷ ys) y same = cc

begun_heads : (x y : Begun) (xs ys : List Begun) → x ∷ xs ≡ y ∷ ys → x ≡ y
begun_heads x y xs ys same = cc

begun_tails : (x y : Begun) (xs ys : List Begun) → x ∷ xs ≡ y ∷ ys → xs ≡ ys
begun_tails x y xs ys same = cc

-- there is one last
last_same : (xs ys : List Begun) (x y : Begun) → xs ++ x ∷ [] ≡ ys ++ y ∷ [] → x ≡ y
last_same [] [] x y same = begun_heads x y [] [] same
last_same [] (z ∷ ys) x y same = absurd (none_last ys y (begun_tails x z [] (ys ++ y ∷ []) same))
last_same (z ∷ xs) [] x y same = absurd (none_last xs x (sym (begun_tails z y (xs ++ x ∷ []) [] same)))
last_same (z ∷ xs) (t ∷ ys) x y same = last_same xs ys x y (begun_tails z t (xs ++ x ∷ []) (ys ++ y ∷ []) same)

-- two parts of what was sent, cut in two places: the second begins since the other cut
pub record StartsSince (old more front since : List Sent) : Type 0 where
  pub between : List Sent
  pub before : old ≡ front ++ between
  pub behind : since ≡ between ++ more

-- or before it
pub record StartedBefore (old more front since : List Sent) : Type 0 where
  pub head : Sent
  pub tail : List Sent
  pub before : front ≡ old ++ head ∷ tail
  pub behind : more ≡ head ∷ (tail ++ since)

cut_twice : (old more front since : List Sent) → old ++ more ≡ front ++ since → StartsSince old more front since ⊎ StartedBefore old more front since
cut_twice old more [] since same = inl (record { between = old; before = refl; behind = sym same })
cut_twice [] more (y ∷ front) since same = inr (record { head = y; tail = front; before = refl; behind = same })
cut_twice (x ∷ old) more (y ∷ front) since same = by_rest (cut_twice old more front since (tails x y (old ++ more) (front ++ since) same)) where
  first : x ≡ y
  first = heads x y (old ++ more) (front ++ since) same

  by_rest : StartsSince old more front since ⊎ StartedBefore old more front since → StartsSince (x ∷ old) more (y ∷ front) since ⊎ StartedBefore (x ∷ old) more (y ∷ front) since
  by_rest (inl s) = inl (record {
    between = s.between;
    before = ap (λ (z : Sent). z ∷ old) first ∙ ap (λ (zs : List Sent). y ∷ zs) s.before;
    behind = s.behind;
  })
  by_rest (inr s) = inr (record {
    head = s.head;
    tail = s.tail;
    before = ap (λ (zs : List Sent). y ∷ zs) s.before ∙ ap (λ (z : Sent). z ∷ (old ++ s.head ∷ s.tail)) (sym first);
    behind = s.behind;
  })

-- A command and what is sent from its first send on

-- the first of these begins it, and no other begins
pub record IsStretch (mine : List Sent) (b : Begun) : Type 0 where
  pub one : Sent
  pub rest : List Sent
  pub is : mine ≡ one ∷ rest
  pub begins : begun_at one ≡ b ∷ []
  pub no_more : begun_in rest ≡ []

pub stretch_begins : (one : Sent) (b : Begun) → begun_at one ≡ b ∷ [] → IsStretch (one ∷ []) b
stretch_begins one b begins = record { one = one; rest = []; is = refl; begins = begins; no_more = refl }

-- more is sent that begins none
pub stretch_on : (mine more : List Sent) (b : Begun) → begun_in more ≡ [] → IsStretch mine b → IsStretch (mine ++ more) b
stretch_on mine more b none s = record {
  one = s.one;
  rest = s.rest ++ more;
  is = ap (λ (x : List Sent). x ++ more) s.is;
  begins = s.begins;
  no_more = begun_both s.rest more ∙ ap (λ (x : List Begun). x ++ begun_in more) s.no_more ∙ none;
}

pub order_on : (sent old mine more : List Sent) → sent ≡ old ++ mine → sent ++ more ≡ old ++ (mine ++ more)
order_on sent old mine more order = ap (λ (x : List Sent). x ++ more) order ∙ append_assoc old mine more

pub begun_stretch : (mine : List Sent) (b : Begun) → IsStretch mine b → begun_in mine ≡ b ∷ []
begun_stretch mine b s =
    ap begun_in s.is ∙ ap (λ (x : List Begun). x ++ begun_in s.rest) s.begins ∙ ap (λ (x : List Begun). b ∷ x) s.no_more

pub begun_whole : (sent old mine : List Sent) (b : Begun) → sent ≡ old ++ mine → IsStretch mine b → begun_in sent ≡ begun_in old ++ b ∷ []
begun_whole sent old mine b order s =
    ap begun_in order ∙ begun_both old mine ∙ ap (λ (x : List Begun). begun_in old ++ x) (begun_stretch mine b s)

-- the last that began among these
pub record IsLast (sent : List Sent) (b : Begun) : Type 0 where
  pub old : List Sent
  pub mine : List Sent
  pub order : sent ≡ old ++ mine
  pub stretch : IsStretch mine b

pub begun_last : (sent : List Sent) (b : Begun) (l : IsLast sent b) → begun_in sent ≡ begun_in l.old ++ b ∷ []
begun_last sent b l = begun_whole sent l.old l.mine b l.order l.stretch

pub one_last : (sent : List Sent) (a b : Begun) → IsLast sent a → IsLast sent b → a ≡ b
one_last sent a b la lb = last_same (begun_in la.old) (begun_in lb.old) a b (sym (begun_last sent a la) ∙ begun_last sent b lb)

pub last_on : (sent more : List Sent) (b : Begun) → begun_in more ≡ [] → IsLast sent b → IsLast (sent ++ more) b
last_on sent more b none l = record {
  old = l.old;
  mine = l.mine ++ more;
  order = order_on sent l.old l.mine more l.order;
  stretch = stretch_on l.mine more b none l.stretch;
}

pub is_begun : (sent : List Sent) (b : Begun) → IsLast sent b → OneOf (λ (one : Begun). one ≡ b) (begun_in sent)
is_begun sent b l =
    subst (OneOf (λ (one : Begun). one ≡ b)) (sym (begun_last sent b l)) (one_behind (λ (one : Begun). one ≡ b) (begun_in l.old) (b ∷ []) (inl refl))

-- none began, none of either part
pub none_in : (some more : List Sent) → begun_in (some ++ more) ≡ [] → (begun_in some ≡ []) × (begun_in more ≡ [])
none_in some more none = nil_parts (begun_in some) (begun_in more) (sym (begun_both some more) ∙ none)

-- Since a moment

-- The last began since, with all that is sent of it; or it was the last before, and none began since.
pub last_since : (sent front since old mine : List Sent) (b : Begun) → sent ≡ old ++ mine → IsStretch mine b → sent ≡ front ++ since
    → StartsSince old mine front since ⊎ (IsLast front b × (begun_in since ≡ []))
last_since sent front since old mine b order s split = by_cut (cut_twice old mine front since (sym order ∙ split)) where
  by_cut : StartsSince old mine front since ⊎ StartedBefore old mine front since → StartsSince old mine front since ⊎ (IsLast front b × (begun_in since ≡ []))
  by_cut (inl starts) = inl starts
  by_cut (inr started) =
      let both : s.one ∷ s.rest ≡ started.head ∷ (started.tail ++ since) = sym s.is ∙ started.behind in
      let rest : s.rest ≡ started.tail ++ since = tails s.one started.head s.rest (started.tail ++ since) both in
      let none = none_in started.tail since (ap begun_in (sym rest) ∙ s.no_more) in
      inr (
        record {
          old = old;
          mine = started.head ∷ started.tail;
          order = started.before;
          stretch = record {
            one = started.head;
            rest = started.tail;
            is = refl;
            begins = subst (λ (x : Sent). begun_at x ≡ b ∷ []) (heads s.one started.head s.rest (started.tail ++ since) both) s.begins;
            no_more = none.0;
          };
        },
        none.1,
      )

-- The same of two commands, one behind the other: both began since, or the first was the last before and the second began since, or both
-- began before.
pub record BothSince (first second front since : List Sent) : Type 0 where
  pub between : List Sent
  pub behind : since ≡ between ++ (first ++ second)

pub record OneSince (front since : List Sent) (a b : Begun) : Type 0 where
  pub last : IsLast front a
  pub one : begun_in since ≡ b ∷ []

pub two_since : (sent front since old middle first second : List Sent) (a b : Begun) → middle ≡ old ++ first → IsStretch first a → sent ≡ middle ++ second → IsStretch second b
    → sent ≡ front ++ since → BothSince first second front since ⊎ (OneSince front since a b ⊎ IsLast front b)
two_since sent front since old middle first second a b inner one outer two split = by_second (last_since sent front since middle second b outer two split) where
  by_first : (x : StartsSince middle second front since) → StartsSince old first front x.between ⊎ (IsLast front a × (begun_in x.between ≡ []))
      → BothSince first second front since ⊎ (OneSince front since a b ⊎ IsLast front b)
  by_first x (inl starts) = inl (record {
    between = starts.between;
    behind = x.behind ∙ ap (λ (z : List Sent). z ++ second) starts.behind ∙ append_assoc starts.between first second;
  })
  by_first x (inr last) = inr (inl (record {
    last = last.0;
    one = ap begun_in x.behind ∙ begun_both x.between second ∙ ap (λ (z : List Begun). z ++ begun_in second) last.1 ∙ begun_stretch second b two;
  }))

  by_second : StartsSince middle second front since ⊎ (IsLast front b × (begun_in since ≡ [])) → BothSince first second front since ⊎ (OneSince front since a b ⊎ IsLast front b)
  by_second (inl x) = by_first x (last_since middle front x.between old first a inner one x.before)
  by_second (inr last) = inr (inr last.0)
