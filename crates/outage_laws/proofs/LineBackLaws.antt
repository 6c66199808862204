-- A line's command one of whose sends is answered isn't in flight behind that, nor was it given up.
use Rattle.std.proofs.Common.{◌≡◌, ◌≢◌, ℕ, zero, suc, ◌+◌, ◌*◌, ◌<◌, ◌≤◌, true, List, [], ◌∷◌, ◌++◌, length, Option, Some, None, inl, inr, refl, sym, ap, ◌∙◌, subst, arith, append-nil, append_assoc}
use Rattle.std.specs.Prelude.{◌⊎◌, IfSome, slice_get}
use Rattle.retransmission.specs.Flight.{InFlight}
use Rattle.retransmission.specs.declared.restart.Restart.{Restart}
use Rattle.retransmission.specs.declared.restart.Restart.TheVariants.{Waiting, Announced, Serving}
use Rattle.transmission.specs.Texts.{texts_of}
use Rattle.plain_machine.specs.declared.endpoint.Endpoint.{Endpoint}
use Rattle.plain_machine.specs.declared.setup.Setup.{Setup}
use Rattle.plain_machine.specs.Event.{GatewayEvent}
use Rattle.plain_machine.specs.Lists.{plain, sent_from, sent_of}
use Rattle.plain_machine.specs.Machine.{endpoint_at}
use Rattle.plain_machine.specs.Message.{Begun, Sent}
use Rattle.plain_machine.specs.Setup.{IsSetUp}
use Rattle.machine_laws.specs.Belonging.{is_of, of_line}
use Rattle.machine_laws.specs.Saying.{IsAnswerTo, OneOf, begun_in}
use Rattle.machine_laws.proofs.EachLemmas.{any_from_one, one_before, one_behind, one_of_each, one_to}
use Rattle.machine_laws.proofs.OwningLemmas.{place_of}
use Rattle.machine_laws.proofs.PostLogs.{WasBegun}
use Rattle.agent_core.specs.declared.packet.End.TheVariants.{AgentEnd as agent_end}
use Rattle.agent_core.specs.declared.packet.Posted.{Posted}
use Rattle.agent_core.specs.World.{World, WorldStep, delivering, gateway_in, now_in, plain_world, steps_are_taken, world_opening}
use Rattle.world_laws.specs.Landing.{is_final}
use Rattle.world_laws.specs.Reached.{own_in}
use Rattle.world_laws.proofs.LinkLaws.{world_linked}
use Rattle.world_laws.specs.Copies.{IsCopy, answer_wait}
use Rattle.world_laws.specs.OwnChances.{IsToldAfter}
use Rattle.world_laws.proofs.AnsweredLaws.{over_since}
use Rattle.world_laws.proofs.ChanceLaws.{handed_now}
use Rattle.world_laws.proofs.FairLaws.{found_within}
use Rattle.world_laws.proofs.FirstBroughtLaws.{begun_of_all}
use Rattle.world_laws.proofs.NumberTurns.{was_there}
use Rattle.world_laws.proofs.OnTurns.{IsIt, begun_both}
use Rattle.world_laws.proofs.OwnChanceLaws.{one_unfiltered, told_after}
use Rattle.world_laws.proofs.LookLemmas.{one_beyond}
use Rattle.world_laws.proofs.PostedFinal.{posted_plain, taken_front}
use Rattle.world_laws.proofs.PostedLemmas.{HasText, SaysAt, said_posted}
use Rattle.outage_laws.proofs.LineTrackLaws.{TracksSince, line_says, tracks_at, tracks_from}
use Rattle.outage_laws.proofs.LineTracks.{Announces, Behind, FliesSo, IsGivenUp, TracksBy, Waits, none_tracks}
use Rattle.outage_laws.proofs.OwnReaches.{PostsSince, line_since, posts_since}
use Rattle.outage_laws.proofs.SinceLaws.{IsBack, IsBackBehind}
use Rattle.outage_laws.proofs.OldestServes.{BothSince, IsLast, IsStretch, OneSince, StartsSince, begun_whole, is_begun, last_on, last_since, one_last, two_since, nil_parts as none_part}
use Rattle.world_laws.proofs.FrontLemmas.{rest_same as tails}

-- Lists

pub same_rest : {X : Type 0} (xs ys zs : List X) → xs ++ ys ≡ xs ++ zs → ys ≡ zs
same_rest [] ys zs same = same
same_rest (x ∷ xs) ys zs same = same_rest xs ys zs (tails x x (xs ++ ys) (xs ++ zs) same)

pub none_there : (xs : List Begun) (x : Begun) → xs ++ x ∷ [] ≡ [] → ⊥
none_there [] x none = cc
none_there (y ∷ xs) x none = cc

some_none : (y : Begun) (ys : List Begun) → y ∷ ys ≡ [] → ⊥
some_none y ys none = cc

-- two aren't one
pub two_there : (xs : List Begun) (x y z : Begun) → (xs ++ x ∷ []) ++ y ∷ [] ≡ z ∷ [] → ⊥
two_there [] x y z same = some_none y [] (tails x z (y ∷ []) [] same)
two_there (t ∷ xs) x y z same = none_there (xs ++ x ∷ []) y (tails t z ((xs ++ x ∷ []) ++ y ∷ []) [] same)

-- of two parts that are one together one is none
pub one_part : (xs ys : List Begun) (z : Begun) → xs ++ ys ≡ z ∷ [] → (xs ≡ z ∷ []) ⊎ ((xs ≡ []) × (ys ≡ z ∷ []))
one_part [] ys z same = inr (refl, same)
one_part (x ∷ []) [] z same = inl same
one_part (x ∷ []) (y ∷ ys) z same = absurd (some_none y ys (tails x z (y ∷ ys) [] same))
one_part (x ∷ t ∷ xs) ys z same = absurd (some_none t (xs ++ ys) (tails x z (t ∷ (xs ++ ys)) [] same))

-- What was answered isn't in flight, where the line began no more since

pub no_longer : (xs ys : List Begun) → xs ≡ ys → length xs ≤ length ys
no_longer xs ys same = let long : length xs ≡ length ys = ap (λ (x : List Begun). length x) same in omega (arith, long)

answered_over : (setup : Setup) (before later : List WorldStep) (number : ℕ) (text : List ℕ) (b : Begun) (line : ℕ) (endpoint : Endpoint) (flight : InFlight) → IsSetUp setup
    → steps_are_taken setup world_opening ((before ++ delivering number ∷ []) ++ later) ≡ true → IsCopy setup (plain_world setup before) agent_end text number → IsAnswerTo b.id text
    → let w = plain_world setup ((before ++ delivering number ∷ []) ++ later) in endpoint_at (gateway_in setup w).endpoints line ≡ Some endpoint → endpoint.post.pending ≡ Some flight
    → flight.id ≡ b.id → begun_in (line_says setup line w) ≡ begun_in (line_says setup line (plain_world setup before)) → ⊥
answered_over setup before later number text b line endpoint flight set_up taken copy reads at flies mine same =
    over_since setup before later number text reads.code b.id reads.params reads.body line endpoint flight set_up taken copy reads.reads plain.0 plain.1 at flies
    (no_longer (begun_in (line_says setup line (plain_world setup ((before ++ delivering number ∷ []) ++ later)))) (begun_in (line_says setup line (plain_world setup before))) same) mine where
      handed : steps_are_taken setup world_opening (before ++ delivering number ∷ []) ≡ true
      handed = taken_front setup world_opening (before ++ delivering number ∷ []) later taken

      plain : (is_final reads.code ≡ true) × (reads.code ≢ 521)
      plain =
          posted_plain setup before number copy.post text set_up (taken_front setup world_opening before (delivering number ∷ []) handed) copy.found copy.inside copy.sender b.id
          reads.code reads.params reads.body reads.reads

-- what a line began began by now
began_past : (setup : Setup) (line : ℕ) (steps : List WorldStep) → IsSetUp setup → steps_are_taken setup world_opening steps ≡ true → (b : Begun)
    → OneOf (λ (one : Begun). one ≡ b) (begun_in (line_says setup line (plain_world setup steps))) → b.moment ≤ now_in setup (plain_world setup steps)
began_past setup line steps set_up taken b began =
    let w = plain_world setup steps in
    one_to (λ (one : Begun). WasBegun (now_in setup w) one × (one ≡ b)) (b.moment ≤ now_in setup w)
    (λ one both. subst (λ (x : Begun). x.moment ≤ now_in setup w) both.1 both.0.past) (own_in setup w)
    (one_of_each (WasBegun (now_in setup w)) (λ (one : Begun). one ≡ b) (own_in setup w) (world_linked setup steps set_up taken).links.gateway.stands.logged.begun
    (begun_of_all (λ (one : Begun). one ≡ b) line (sent_of setup w.gateway_took) began))

-- What is said later and later

-- a packet that tells something is not always followed by another that does
climb : (setup : Setup) (w : World) (b : Begun) (wait : ℕ) → ((told : IsToldAfter setup w b wait) → (other : IsToldAfter setup w b wait) × (told.number < other.number)) → (fuel : ℕ)
    → (told : IsToldAfter setup w b wait) → length w.posted ≤ told.number + fuel → ⊥
climb setup w b wait next zero told few = let less : told.number < length w.posted = found_within w.posted told.number told.post told.found in absurd (omega (arith, less, few))
climb setup w b wait next (suc fuel) told few =
    let on = next told in
    climb setup w b wait next fuel on.0 (let more : told.number < on.0.number = on.1 in omega (arith, few, more))

from_first : (number count : ℕ) → count ≤ number + count
from_first number count = omega arith

past_it : (number count other : ℕ) → number < count → count ≤ other → number < other
past_it number count other less more = omega (arith, less, more)

pub too_soon : (first second now wait : ℕ) → second ≡ first + answer_wait + wait → now < first + answer_wait → second ≤ now → ⊥
too_soon first second now wait is soon past = absurd (omega (arith, is, soon, past))

pub not_over : (first now : ℕ) → now < first + answer_wait → first + answer_wait ≤ now → ⊥
not_over first now soon over = absurd (omega (arith, soon, over))

pub still_soon : (first wait within now : ℕ) → wait + 2 * within < answer_wait → now ≤ first + wait + 2 * within → now < first + answer_wait
still_soon first wait within now few by = omega (arith, few, by)

module _ (setup : Setup) (steps : List WorldStep) (line within : ℕ) (endpoint : Endpoint) (set_up : IsSetUp setup) (taken : steps_are_taken setup world_opening steps ≡ true)
    (at : endpoint_at (gateway_in setup (plain_world setup steps)).endpoints line ≡ Some endpoint) where
  abbrev w : World
  w = plain_world setup steps

  abbrev says : World → List Sent
  says x = line_says setup line x

  some : 1 ≤ line
  some = (place_of (gateway_in setup w).endpoints line endpoint at).0

  told_of : (b : Begun) (wait : ℕ) → OneOf (SaysAt b.text (b.moment + wait)) (says w) → IsToldAfter setup w b wait
  told_of b wait said =
      told_after setup w b wait
      (said_posted setup steps set_up taken b.text (b.moment + wait)
      (one_unfiltered (SaysAt b.text (b.moment + wait)) (λ (one : Sent). is_of line one.owner) (sent_of setup w.gateway_took) said))

  -- From a front on

  front_taken : (before rest : List WorldStep) → steps ≡ before ++ rest → steps_are_taken setup world_opening (before ++ rest) ≡ true
  front_taken before rest order = subst (λ (s : List WorldStep). steps_are_taken setup world_opening s ≡ true) order taken

  posts : (before rest : List WorldStep) → steps ≡ before ++ rest → PostsSince setup (plain_world setup before) w
  posts before rest order =
      subst (λ (s : List WorldStep). PostsSince setup (plain_world setup before) (plain_world setup s)) (sym order) (posts_since setup set_up before rest (front_taken before rest order))

  abbrev since_in : (x : World) → PostsSince setup x w → List Sent
  since_in x p = of_line line (sent_from setup (gateway_in setup x) p.events)

  -- what is said since is told by a packet that stands behind
  later_told : (b : Begun) (wait : ℕ) (x : World) (p : PostsSince setup x w) → OneOf (SaysAt b.text (b.moment + wait)) (since_in x p)
      → (told : IsToldAfter setup w b wait) × (length x.posted ≤ told.number)
  later_told b wait x p said =
      let one = one_beyond (HasText b.text (b.moment + wait)) x.posted p.more
      (p.all b.text (b.moment + wait) (one_unfiltered (SaysAt b.text (b.moment + wait)) (λ (s : Sent). is_of line s.owner) (sent_from setup (gateway_in setup x) p.events) said)) in (
        record {
          number = one.0;
          post = one.1;
          found = ap (λ (all : List Posted). slice_get all one.0) p.posted ∙ one.3;
          sender = one.4.0;
          moment = one.4.1;
          inside = any_from_one (λ (text : List ℕ). text ≡ b.text) (texts_of one.1.packet.bytes) one.4.2;
        },
        one.2,
      )

  behind_told : (b : Begun) (wait : ℕ) (told : IsToldAfter setup w b wait) (x : World) (p : PostsSince setup x w) → told.number < length x.posted
      → OneOf (SaysAt b.text (b.moment + wait)) (since_in x p) → (other : IsToldAfter setup w b wait) × (told.number < other.number)
  behind_told b wait told x p behind said =
      let other = later_told b wait x p said in
      (other.0, past_it told.number (length x.posted) other.0.number behind other.1)

  abbrev rest_of : (b : Begun) (wait : ℕ) → IsBack setup steps within b wait → List WorldStep
  rest_of b wait is = delivering is.number ∷ is.later

  order_of : (b : Begun) (wait : ℕ) (is : IsBack setup steps within b wait) → steps ≡ is.before ++ rest_of b wait is
  order_of b wait is = is.order ∙ append_assoc is.before (delivering is.number ∷ []) is.later

  -- What is in flight

  module _ (b : Begun) (wait : ℕ) (old mine : List Sent) (order : says w ≡ old ++ mine) (stretch : IsStretch mine b) (said : OneOf (SaysAt b.text (b.moment + wait)) mine)
      (flight : InFlight) (flies : endpoint.post.pending ≡ Some flight) (its : IsIt b flight)
      (back : (told : IsToldAfter setup w b wait) → IsBackBehind setup steps within b wait told.number) where
    -- an answer that came behind its beginning leaves it in flight no more
    not_begun_before : (is : IsBack setup steps within b wait) (p : PostsSince setup (plain_world setup is.before) w) → begun_in (since_in (plain_world setup is.before) p) ≡ [] → ⊥
    not_begun_before is p none =
        answered_over setup is.before is.later is.number is.text b line endpoint flight set_up (front_taken (is.before ++ delivering is.number ∷ []) is.later is.order) is.copy is.reads
        (subst (λ (s : List WorldStep). endpoint_at (gateway_in setup (plain_world setup s)).endpoints line ≡ Some endpoint) is.order at) flies its.id
        (subst (λ (s : List WorldStep). begun_in (says (plain_world setup s)) ≡ begun_in (says (plain_world setup is.before))) is.order same) where
          same : begun_in (says w) ≡ begun_in (says (plain_world setup is.before))
          same =
              ap begun_in (line_since setup line (plain_world setup is.before) w p)
              ∙ begun_both (says (plain_world setup is.before)) (since_in (plain_world setup is.before) p)
              ∙ ap (λ (x : List Begun). begun_in (says (plain_world setup is.before)) ++ x) none ∙ append-nil (begun_in (says (plain_world setup is.before)))

    next_by : (told : IsToldAfter setup w b wait) (is : IsBack setup steps within b wait) → told.number < length (plain_world setup is.before).posted
        → (p : PostsSince setup (plain_world setup is.before) w)
        → StartsSince old mine (says (plain_world setup is.before)) (since_in (plain_world setup is.before) p)
        ⊎ (IsLast (says (plain_world setup is.before)) b × (begun_in (since_in (plain_world setup is.before) p) ≡ []))
        → (other : IsToldAfter setup w b wait) × (told.number < other.number)
    next_by told is behind p (inl starts) =
        behind_told b wait told (plain_world setup is.before) p behind
        (subst (OneOf (SaysAt b.text (b.moment + wait))) (sym starts.behind) (one_behind (SaysAt b.text (b.moment + wait)) starts.between mine said))
    next_by told is behind p (inr last) = absurd (not_begun_before is p last.1)

    next : (told : IsToldAfter setup w b wait) → (other : IsToldAfter setup w b wait) × (told.number < other.number)
    next told =
        let from = back told in
        let p = posts from.is.before (rest_of b wait from.is) (order_of b wait from.is) in
        next_by told from.is from.behind p
        (last_since (says w) (says (plain_world setup from.is.before)) (since_in (plain_world setup from.is.before) p) old mine b order stretch
        (line_since setup line (plain_world setup from.is.before) w p))

    pub flight_answered : ⊥
    flight_answered =
        climb setup w b wait next (length w.posted) (told_of b wait (subst (OneOf (SaysAt b.text (b.moment + wait))) (sym order) (one_behind (SaysAt b.text (b.moment + wait)) old mine said)))
        (from_first _ (length w.posted))

  -- What was given up

  -- it is so behind the step at which the answer came
  module _ (a : Begun) (wait : ℕ) (few : wait + 2 * within < answer_wait) (is : IsBack setup steps within a wait) where
    abbrev here : List WorldStep
    here = is.before ++ delivering is.number ∷ []

    here_taken : steps_are_taken setup world_opening here ≡ true
    here_taken = taken_front setup world_opening here is.later (front_taken here is.later is.order)

    before_now : now_in setup (plain_world setup is.before) < a.moment + answer_wait
    before_now = still_soon a.moment wait within (now_in setup (plain_world setup is.before)) few is.no_later

    here_now : now_in setup (plain_world setup here) < a.moment + answer_wait
    here_now = subst (λ (n : ℕ). n < a.moment + answer_wait) (sym (handed_now setup is.before is.number)) before_now

    abbrev p_here : PostsSince setup (plain_world setup is.before) (plain_world setup here)
    p_here = posts_since setup set_up is.before (delivering is.number ∷ []) here_taken

    p_later : PostsSince setup (plain_world setup here) w
    p_later = posts here is.later is.order

    was : (s : Endpoint) × (endpoint_at (gateway_in setup (plain_world setup here)).endpoints line ≡ Some s)
    was =
        was_there setup line some (plain_world setup here).gateway_took p_later.events endpoint
        (subst (λ (x : List GatewayEvent). endpoint_at (plain setup x).endpoints line ≡ Some endpoint) p_later.took at)

    module _ (last : IsLast (says (plain_world setup here)) a) (same : begun_in (says (plain_world setup here)) ≡ begun_in (says (plain_world setup is.before)))
        (ends : TracksSince setup line some (says (plain_world setup here)) w → ⊥) where
      -- it isn't in flight then
      not_flying : (flight : InFlight) → was.0.post.pending ≡ Some flight → FliesSo setup line (Behind (now_in setup (plain_world setup here))) (says (plain_world setup here)) (now_in setup (plain_world setup here)) flight → ⊥
      not_flying flight flies f =
          answered_over setup is.before [] is.number is.text a line was.0 flight set_up
          (subst (λ (s : List WorldStep). steps_are_taken setup world_opening s ≡ true) (sym (append-nil here)) here_taken) is.copy is.reads
          (subst (λ (s : List WorldStep). endpoint_at (gateway_in setup (plain_world setup s)).endpoints line ≡ Some was.0) (sym (append-nil here)) was.1) flies (f.1.is.id ∙ ap (λ (x : Begun). x.id) it)
          (subst (λ (s : List WorldStep). begun_in (says (plain_world setup s)) ≡ begun_in (says (plain_world setup is.before))) (sym (append-nil here)) same) where
            it : f.1.b ≡ a
            it = one_last (says (plain_world setup here)) f.1.b a (record { old = f.0; mine = f.1.mine; order = f.1.order; stretch = f.1.stretch }) last

      not_waiting : (until : ℕ) → IsGivenUp setup line (says (plain_world setup here)) (now_in setup (plain_world setup here)) until → ⊥
      not_waiting until g =
          not_over a.moment (now_in setup (plain_world setup here)) here_now (subst (λ (x : Begun). x.moment + answer_wait ≤ now_in setup (plain_world setup here)) it g.over) where
            it : g.b ≡ a
            it = one_last (says (plain_world setup here)) g.b a (record { old = g.old; mine = g.mine; order = g.order; stretch = g.stretch }) last

      -- so the line has nothing in flight and nothing to announce, which it hasn't any more
      free : was.0.post.restart ≡ Serving → was.0.post.pending ≡ None → ⊥
      free serving none =
          ends (subst (λ (s : List WorldStep). TracksSince setup line some (says (plain_world setup here)) (plain_world setup s)) (sym is.order)
          (tracks_from setup line some set_up here is.later (front_taken here is.later is.order)
          (λ s there. none_tracks setup line (now_in setup (plain_world setup here)) s (subst (λ (x : Endpoint). x.post.restart ≡ Serving) (it s there) serving)
          (subst (λ (x : Endpoint). x.post.pending ≡ None) (it s there) none)))) where
            it : (s : Endpoint) → endpoint_at (gateway_in setup (plain_world setup here)).endpoints line ≡ Some s → was.0 ≡ s
            it s there = let both : Some was.0 ≡ Some s = sym was.1 ∙ there in (let one : was.0 ≡ s = cc in one)

      by_pending : (pending : Option InFlight) → was.0.post.pending ≡ pending → was.0.post.restart ≡ Serving
          → IfSome pending (FliesSo setup line (Behind (now_in setup (plain_world setup here))) (says (plain_world setup here)) (now_in setup (plain_world setup here))) → ⊥
      by_pending None none serving f = free serving none
      by_pending (Some flight) flies serving f = not_flying flight flies f

      by_restart : (restart : Restart) → was.0.post.restart ≡ restart
          → TracksBy setup line (Behind (now_in setup (plain_world setup here))) (says (plain_world setup here)) (now_in setup (plain_world setup here)) restart was.0.post.pending → ⊥
      by_restart (Waiting until) waits t = not_waiting until t.before
      by_restart Announced announces t = not_flying t.flight t.flies (t.old, t.its)
      by_restart Serving serving t = by_pending was.0.post.pending refl serving t

      not_so : ⊥
      not_so = by_restart was.0.post.restart refl (tracks_at setup line some set_up here here_taken was.0 was.1).tracks

    -- where the line began no more behind the answer, or one more, and that later

    begun_here : begun_in (says (plain_world setup here)) ≡ begun_in (says (plain_world setup is.before)) ++ begun_in (of_line line (sent_from setup (gateway_in setup (plain_world setup is.before)) p_here.events))
    begun_here =
        ap begun_in (line_since setup line (plain_world setup is.before) (plain_world setup here) p_here)
        ∙ begun_both (says (plain_world setup is.before)) (of_line line (sent_from setup (gateway_in setup (plain_world setup is.before)) p_here.events))

    abbrev began_then : List Sent
    began_then = of_line line (sent_from setup (gateway_in setup (plain_world setup is.before)) p_here.events)

    parts : (p : PostsSince setup (plain_world setup is.before) w)
        → begun_in began_then ++ begun_in (since_in (plain_world setup here) p_later) ≡ begun_in (since_in (plain_world setup is.before) p)
    parts p =
        same_rest (begun_in (says (plain_world setup is.before))) (begun_in began_then ++ begun_in (since_in (plain_world setup here) p_later)) (begun_in (since_in (plain_world setup is.before) p))
        (sym (append_assoc (begun_in (says (plain_world setup is.before))) (begun_in began_then) (begun_in (since_in (plain_world setup here) p_later)))
        ∙ ap (λ (x : List Begun). x ++ begun_in (since_in (plain_world setup here) p_later)) (sym begun_here)
        ∙ sym (ap begun_in (line_since setup line (plain_world setup here) w p_later) ∙ begun_both (says (plain_world setup here)) (since_in (plain_world setup here) p_later))
        ∙ ap begun_in (line_since setup line (plain_world setup is.before) w p)
        ∙ begun_both (says (plain_world setup is.before)) (since_in (plain_world setup is.before) p))

    -- what it began since then
    begun_since : (t : TracksSince setup line some (says (plain_world setup here)) w) → begun_in t.since ≡ begun_in (since_in (plain_world setup here) p_later)
    begun_since t =
        ap begun_in (same_rest (says (plain_world setup here)) t.since (since_in (plain_world setup here) p_later) (sym t.split ∙ line_since setup line (plain_world setup here) w p_later))

    last_here : begun_in began_then ≡ [] → IsLast (says (plain_world setup is.before)) a → IsLast (says (plain_world setup here)) a
    last_here none last =
        subst (λ (x : List Sent). IsLast x a) (sym (line_since setup line (plain_world setup is.before) (plain_world setup here) p_here))
        (last_on (says (plain_world setup is.before)) began_then a none last)

    same_here : begun_in began_then ≡ [] → begun_in (says (plain_world setup here)) ≡ begun_in (says (plain_world setup is.before))
    same_here none =
        begun_here ∙ ap (λ (x : List Begun). begun_in (says (plain_world setup is.before)) ++ x) none ∙ append-nil (begun_in (says (plain_world setup is.before)))

    -- where it waits at the end, and began none since
    waits_not : (until : ℕ) → endpoint.post.restart ≡ Waiting until → (t : TracksSince setup line some (says (plain_world setup here)) w) → begun_in t.since ≡ [] → ⊥
    waits_not until waits t none =
        let s : Waits setup line (Behind (now_in setup w)) t.since (now_in setup w) until endpoint.post.pending =
        subst (λ (r : Restart). TracksBy setup line (Behind (now_in setup w)) t.since (now_in setup w) r endpoint.post.pending) waits (t.tracks endpoint at).tracks in
        none_there (begun_in s.before.old) s.before.b (sym (begun_whole t.since s.before.old s.before.mine s.before.b s.before.order s.before.stretch) ∙ none)

    -- or announced itself, and began one
    announces_not : endpoint.post.restart ≡ Announced → (b : Begun) (t : TracksSince setup line some (says (plain_world setup here)) w) → begun_in t.since ≡ b ∷ [] → ⊥
    announces_not announces b t one =
        let s : Announces setup line (Behind (now_in setup w)) t.since (now_in setup w) endpoint.post.pending =
        subst (λ (r : Restart). TracksBy setup line (Behind (now_in setup w)) t.since (now_in setup w) r endpoint.post.pending) announces (t.tracks endpoint at).tracks in
        two_there (begun_in s.before.old) s.before.b s.its.b b
        (ap (λ (x : List Begun). x ++ s.its.b ∷ []) (sym (begun_whole s.old s.before.old s.before.mine s.before.b s.before.order s.before.stretch))
        ∙ sym (begun_whole t.since s.old s.its.mine s.its.b s.its.order s.its.stretch) ∙ one)

    since_waiting : (p : PostsSince setup (plain_world setup is.before) w) (until : ℕ) → endpoint.post.restart ≡ Waiting until → IsLast (says (plain_world setup is.before)) a
        → begun_in (since_in (plain_world setup is.before) p) ≡ [] → ⊥
    since_waiting p until waits last none =
        let both = none_part (begun_in began_then) (begun_in (since_in (plain_world setup here) p_later)) (parts p ∙ none) in
        not_so (last_here both.0 last) (same_here both.0) (λ t. waits_not until waits t (begun_since t ∙ both.1))

    since_announced : (p : PostsSince setup (plain_world setup is.before) w) (b : Begun) (pause : ℕ) → endpoint.post.restart ≡ Announced → b.moment ≡ a.moment + answer_wait + pause
        → OneSince (says (plain_world setup is.before)) (since_in (plain_world setup is.before) p) a b → ⊥
    since_announced p b pause announces second one =
        by_part (one_part (begun_in began_then) (begun_in (since_in (plain_world setup here) p_later)) b (parts p ∙ one.one)) where
          by_part : (begun_in began_then ≡ b ∷ []) ⊎ ((begun_in began_then ≡ []) × (begun_in (since_in (plain_world setup here) p_later) ≡ b ∷ [])) → ⊥
          by_part (inl then_began) =
              too_soon a.moment b.moment (now_in setup (plain_world setup here)) pause second here_now
              (began_past setup line here set_up here_taken b
              (subst (OneOf (λ (one : Begun). one ≡ b)) (sym begun_here)
              (one_behind (λ (one : Begun). one ≡ b) (begun_in (says (plain_world setup is.before))) (begun_in began_then)
              (subst (OneOf (λ (one : Begun). one ≡ b)) (sym then_began) (inl refl)))))
          by_part (inr later) =
              not_so (last_here later.0 one.last) (same_here later.0) (λ t. announces_not announces b t (begun_since t ∙ later.1))

    before_announced : (b : Begun) (pause : ℕ) → b.moment ≡ a.moment + answer_wait + pause → IsLast (says (plain_world setup is.before)) b → ⊥
    before_announced b pause second last =
        too_soon a.moment b.moment (now_in setup (plain_world setup is.before)) pause second before_now
        (began_past setup line is.before set_up (taken_front setup world_opening is.before (delivering is.number ∷ []) here_taken) b (is_begun (says (plain_world setup is.before)) b last))

  -- a line that waits to announce itself
  module _ (a : Begun) (wait : ℕ) (few : wait + 2 * within < answer_wait) (old mine : List Sent) (order : says w ≡ old ++ mine) (stretch : IsStretch mine a)
      (said : OneOf (SaysAt a.text (a.moment + wait)) mine) (until : ℕ) (waits : endpoint.post.restart ≡ Waiting until)
      (back : (told : IsToldAfter setup w a wait) → IsBackBehind setup steps within a wait told.number) where
    next_waiting_by : (told : IsToldAfter setup w a wait) (is : IsBack setup steps within a wait) → told.number < length (plain_world setup is.before).posted
        → (p : PostsSince setup (plain_world setup is.before) w)
        → StartsSince old mine (says (plain_world setup is.before)) (since_in (plain_world setup is.before) p)
        ⊎ (IsLast (says (plain_world setup is.before)) a × (begun_in (since_in (plain_world setup is.before) p) ≡ []))
        → (other : IsToldAfter setup w a wait) × (told.number < other.number)
    next_waiting_by told is behind p (inl starts) =
        behind_told a wait told (plain_world setup is.before) p behind
        (subst (OneOf (SaysAt a.text (a.moment + wait))) (sym starts.behind) (one_behind (SaysAt a.text (a.moment + wait)) starts.between mine said))
    next_waiting_by told is behind p (inr last) = absurd (since_waiting a wait few is p until waits last.0 last.1)

    next_waiting : (told : IsToldAfter setup w a wait) → (other : IsToldAfter setup w a wait) × (told.number < other.number)
    next_waiting told =
        let from = back told in
        let p = posts from.is.before (rest_of a wait from.is) (order_of a wait from.is) in
        next_waiting_by told from.is from.behind p
        (last_since (says w) (says (plain_world setup from.is.before)) (since_in (plain_world setup from.is.before) p) old mine a order stretch
        (line_since setup line (plain_world setup from.is.before) w p))

    pub waiting_answered : ⊥
    waiting_answered =
        climb setup w a wait next_waiting (length w.posted)
        (told_of a wait (subst (OneOf (SaysAt a.text (a.moment + wait))) (sym order) (one_behind (SaysAt a.text (a.moment + wait)) old mine said)))
        (from_first _ (length w.posted))

  -- a line that announced itself: the one before its announcement
  module _ (a b : Begun) (wait pause : ℕ) (few : wait + 2 * within < answer_wait) (old middle first second : List Sent) (inner : middle ≡ old ++ first) (one : IsStretch first a)
      (outer : says w ≡ middle ++ second) (two : IsStretch second b) (said : OneOf (SaysAt a.text (a.moment + wait)) first) (announces : endpoint.post.restart ≡ Announced)
      (behind_it : b.moment ≡ a.moment + answer_wait + pause)
      (back : (told : IsToldAfter setup w a wait) → IsBackBehind setup steps within a wait told.number) where
    next_announced_by : (told : IsToldAfter setup w a wait) (is : IsBack setup steps within a wait) → told.number < length (plain_world setup is.before).posted
        → (p : PostsSince setup (plain_world setup is.before) w)
        → BothSince first second (says (plain_world setup is.before)) (since_in (plain_world setup is.before) p)
        ⊎ (OneSince (says (plain_world setup is.before)) (since_in (plain_world setup is.before) p) a b ⊎ IsLast (says (plain_world setup is.before)) b)
        → (other : IsToldAfter setup w a wait) × (told.number < other.number)
    next_announced_by told is behind p (inl both) =
        behind_told a wait told (plain_world setup is.before) p behind
        (subst (OneOf (SaysAt a.text (a.moment + wait))) (sym both.behind)
        (one_behind (SaysAt a.text (a.moment + wait)) both.between (first ++ second) (one_before (SaysAt a.text (a.moment + wait)) first second said)))
    next_announced_by told is behind p (inr (inl since)) = absurd (since_announced a wait few is p b pause announces behind_it since)
    next_announced_by told is behind p (inr (inr last)) = absurd (before_announced a wait few is b pause behind_it last)

    next_announced : (told : IsToldAfter setup w a wait) → (other : IsToldAfter setup w a wait) × (told.number < other.number)
    next_announced told =
        let from = back told in
        let p = posts from.is.before (rest_of a wait from.is) (order_of a wait from.is) in
        next_announced_by told from.is from.behind p
        (two_since (says w) (says (plain_world setup from.is.before)) (since_in (plain_world setup from.is.before) p) old middle first second a b inner one outer two
        (line_since setup line (plain_world setup from.is.before) w p))

    whole_said : OneOf (SaysAt a.text (a.moment + wait)) (says w)
    whole_said =
        subst (OneOf (SaysAt a.text (a.moment + wait))) (sym outer)
        (one_before (SaysAt a.text (a.moment + wait)) middle second
        (subst (OneOf (SaysAt a.text (a.moment + wait))) (sym inner) (one_behind (SaysAt a.text (a.moment + wait)) old first said)))

    pub announced_answered : ⊥
    announced_answered = climb setup w a wait next_announced (length w.posted) (told_of a wait whole_said) (from_first _ (length w.posted))
