-- A line's last command goes out in a packet of the very step at which it began, and so is handed over behind that step.
use Rattle.std.proofs.Common.{◌≡◌, ℕ, ◌<◌, ◌≤◌, Bool, true, false, if◌then◌else◌, List, [], ◌∷◌, ◌++◌, length, map, Option, Some, None, inl, inr, refl, sym, ap, ◌∙◌, subst, arith, append-nil, append_assoc}
use Rattle.std.specs.Prelude.{◌⊎◌, slice_get}
use Rattle.transmission.specs.Packing.{same_address}
use Rattle.plain_machine.specs.declared.setup.Setup.{Setup}
use Rattle.plain_machine.specs.Event.{GatewayEvent, datagram, phone, tick}
use Rattle.plain_machine.specs.Happening.{effect}
use Rattle.plain_machine.specs.Lists.{sent_of}
use Rattle.plain_machine.specs.Machine.{opening}
use Rattle.plain_machine.specs.Message.{Begun, Sent}
use Rattle.plain_machine.specs.Packing.{put_out}
use Rattle.plain_machine.specs.Setup.{IsSetUp}
use Rattle.machine_laws.specs.Belonging.{is_of, of_line}
use Rattle.machine_laws.specs.Saying.{OneOf, begun_in}
use Rattle.machine_laws.proofs.EachLemmas.{one_before, one_behind}
use Rattle.machine_laws.proofs.GatewayEvents.{GatewayHolds}
use Rattle.machine_laws.proofs.MessageLaws.{event_goes}
use Rattle.machine_laws.proofs.OwningLemmas.{of_both}
use Rattle.call_agent.specs.Hearing.{AgentEvent, hears, issues}
use Rattle.agent_core.specs.declared.packet.End.{End}
use Rattle.agent_core.specs.declared.packet.End.TheVariants.{AgentEnd as agent_end, GatewayEnd as gateway_end}
use Rattle.agent_core.specs.declared.packet.Packet.{Packet}
use Rattle.agent_core.specs.declared.packet.Posted.{Posted}
use Rattle.agent_core.specs.World.{World, WorldStep, delivered, delivered_from, delivering, dialling, gateway_address, gateway_in, is_among, issuing, plain_world, posted_as, steps_are_taken, ticking, to_agent, to_gateway, went, world_opening}
use Rattle.world_laws.specs.Reached.{own_in}
use Rattle.world_laws.proofs.LinkLaws.{world_linked}
use Rattle.world_laws.proofs.WorldLemmas.{BeganAt, began_at, line_began}
use Rattle.world_laws.proofs.OnTurns.{begun_both}
use Rattle.world_laws.specs.Fairness.{IsHandedOver}
use Rattle.world_laws.proofs.FairLaws.{IsBefore, found_within, head_same, later_before, tail_same}
use Rattle.world_laws.proofs.LookLemmas.{one_beyond, one_parted}
use Rattle.world_laws.proofs.PostedLemmas.{HasText, SaysAt, began_says, says_out, sent_more}
use Rattle.world_laws.proofs.PostedFinal.{step_more, taken_front}

-- What is said in a step is posted in it

record PostsSaid (setup : Setup) (w next : World) : Type 0 where
  sent : List Sent
  took : sent_of setup next.gateway_took ≡ sent_of setup w.gateway_took ++ sent
  new : List Posted
  posted : next.posted ≡ w.posted ++ new
  said : (text : List ℕ) (moment : ℕ) → OneOf (SaysAt text moment) sent → OneOf (HasText text moment) new

says_nothing : (setup : Setup) (w : World) → PostsSaid setup w w
says_nothing setup w = record {
  sent = [];
  took = sym (append-nil (sent_of setup w.gateway_took));
  new = [];
  posted = sym (append-nil w.posted);
  said = λ text moment none. none;
}

says_through : (setup : Setup) (w next last : World) → PostsSaid setup w next → PostsSaid setup next last → PostsSaid setup w last
says_through setup w next last one two = record {
  sent = one.sent ++ two.sent;
  took = two.took ∙ ap (λ (x : List Sent). x ++ two.sent) one.took ∙ append_assoc (sent_of setup w.gateway_took) one.sent two.sent;
  new = one.new ++ two.new;
  posted = two.posted ∙ ap (λ (x : List Posted). x ++ two.new) one.posted ∙ append_assoc w.posted one.new two.new;
  said = λ text moment said. by_part text moment (one_parted (SaysAt text moment) one.sent two.sent said);
} where
  by_part : (text : List ℕ) (moment : ℕ) → OneOf (SaysAt text moment) one.sent ⊎ OneOf (SaysAt text moment) two.sent
      → OneOf (HasText text moment) (one.new ++ two.new)
  by_part text moment (inl here) = one_before (HasText text moment) one.new two.new (one.said text moment here)
  by_part text moment (inr there) = one_behind (HasText text moment) one.new two.new (two.said text moment there)

gateway_says : (setup : Setup) (w : World) (event : GatewayEvent) → GatewayHolds setup (own_in setup w) (gateway_in setup w)
    → PostsSaid setup w (to_gateway setup w event)
gateway_says setup w event holds = record {
  sent = sent;
  took = sent_more setup (opening setup) w.gateway_took event;
  new = map (posted_as gateway_end (gateway_address setup)) (put_out sent);
  posted = refl;
  said = λ text moment said. says_out setup sent (event_goes setup (gateway_in setup w) event holds.fits holds.kept).sent text moment said;
} where
  sent : List Sent
  sent = (effect setup (gateway_in setup w) event).sent

agent_says : (setup : Setup) (w : World) (event : AgentEvent) → PostsSaid setup w (to_agent setup w event)
agent_says setup w event = record {
  sent = [];
  took = sym (append-nil (sent_of setup w.gateway_took));
  new = _;
  posted = refl;
  said = λ text moment none. absurd none;
}

delivered_says : (setup : Setup) (w : World) (end : End) (packet : Packet) → GatewayHolds setup (own_in setup w) (gateway_in setup w)
    → PostsSaid setup w (delivered_from end setup w packet)
delivered_says setup w agent_end packet holds = by_test (same_address packet.to (gateway_address setup)) where
  by_test : (b : Bool) → PostsSaid setup w (if b then to_gateway setup w (datagram packet.sender packet.bytes) else w)
  by_test true = gateway_says setup w (datagram packet.sender packet.bytes) holds
  by_test false = says_nothing setup w
delivered_says setup w gateway_end packet holds = by_test (is_among setup.agent.route packet.to) where
  by_test : (b : Bool) → PostsSaid setup w (if b then to_agent setup w (hears (datagram packet.sender packet.bytes)) else w)
  by_test true = agent_says setup w (hears (datagram packet.sender packet.bytes))
  by_test false = says_nothing setup w

step_says : (setup : Setup) (w : World) (step : WorldStep) → GatewayHolds setup (own_in setup w) (gateway_in setup w)
    → PostsSaid setup w (went setup w step)
unfolding went
step_says setup w (issuing verb name rest) holds = agent_says setup w (issues verb name rest)
step_says setup w (dialling line act) holds = gateway_says setup w (phone line act) holds
step_says setup w (ticking moment) holds =
    says_through setup w (to_gateway setup w (tick moment)) (to_agent setup (to_gateway setup w (tick moment)) (hears (tick moment)))
    (gateway_says setup w (tick moment) holds) (agent_says setup (to_gateway setup w (tick moment)) (hears (tick moment)))
step_says setup w (delivering number) holds = by_post (slice_get w.posted number) where
  by_post : (found : Option Posted) → PostsSaid setup w (delivered found setup w)
  by_post None = says_nothing setup w
  by_post (Some post) = delivered_says setup w post.end post.packet holds

-- Where a step began more, the last command is one of these

pub last_new : (before new front : List Begun) (b : Begun) → before ++ new ≡ front ++ b ∷ [] → length before < length (before ++ new)
    → OneOf (λ (x : Begun). x ≡ b) new
last_new [] new front b is more =
    subst (OneOf (λ (x : Begun). x ≡ b)) (sym is) (one_behind (λ (x : Begun). x ≡ b) front (b ∷ []) (inl refl))
last_new (x ∷ before) new [] b is more =
    absurd (let long : length (x ∷ (before ++ new)) ≡ length (b ∷ []) = ap (λ (y : List Begun). length y) is in omega (arith, long, more))
last_new (x ∷ before) new (y ∷ front) b is more =
    last_new before new front b (behind x y (before ++ new) (front ++ b ∷ []) is) (omega (arith, more)) where
      behind : (x y : Begun) (xs ys : List Begun) → x ∷ xs ≡ y ∷ ys → xs ≡ ys
      behind x y xs ys same = cc

of_all : (P : Sent → Type 0) (line : ℕ) (sent : List Sent) → OneOf P (of_line line sent) → OneOf P sent
of_all P line [] one = one
of_all P line (s ∷ sent) one = by_test (is_of line s.owner) one (λ there. of_all P line sent there) where
  by_test : (b : Bool) → OneOf P (if b then s ∷ of_line line sent else of_line line sent) → (OneOf P (of_line line sent) → OneOf P sent)
      → OneOf P (s ∷ sent)
  by_test true (inl is) on = inl is
  by_test true (inr there) on = inr (on there)
  by_test false there on = inr (on there)

-- where the last command of a line began, and the packet in which it goes out at that step
pub record PostedThen (setup : Setup) (line : ℕ) (steps : List WorldStep) (b : Begun) : Type 0 where
  pub some : List WorldStep
  pub step : WorldStep
  pub later : List WorldStep
  pub order : steps ≡ (some ++ step ∷ []) ++ later
  pub all : line_began setup line (some ++ step ∷ []) ≡ line_began setup line steps
  pub number : ℕ
  pub post : Posted
  pub since : length (plain_world setup some).posted ≤ number
  pub found : slice_get (plain_world setup (some ++ step ∷ [])).posted number ≡ Some post
  pub shows : HasText b.text b.moment post

module _ (setup : Setup) (line : ℕ) (steps : List WorldStep) (front : List Begun) (b : Begun) (set_up : IsSetUp setup)
    (taken : steps_are_taken setup world_opening steps ≡ true) (last : line_began setup line steps ≡ front ++ b ∷ []) where
  at : BeganAt setup line steps
  at = began_at setup line steps front b last

  abbrev w : World
  w = plain_world setup at.some

  some_taken : steps_are_taken setup world_opening at.some ≡ true
  some_taken =
      taken_front setup world_opening at.some (at.step ∷ [])
      (taken_front setup world_opening (at.some ++ at.step ∷ []) at.later
      (subst (λ (s : List WorldStep). steps_are_taken setup world_opening s ≡ true) at.order taken))

  says : PostsSaid setup w (plain_world setup (at.some ++ at.step ∷ []))
  says =
      subst (PostsSaid setup w) (sym (step_more setup at.some at.step))
      (step_says setup w at.step (world_linked setup at.some set_up some_taken).links.gateway)

  abbrev new : List Begun
  new = begun_in (of_line line says.sent)

  both : line_began setup line (at.some ++ at.step ∷ []) ≡ line_began setup line at.some ++ new
  both =
      ap (λ (x : List Sent). begun_in (of_line line x)) says.took ∙ ap begun_in (of_both line (sent_of setup w.gateway_took) says.sent)
      ∙ begun_both (of_line line (sent_of setup w.gateway_took)) (of_line line says.sent)

  is_new : OneOf (λ (x : Begun). x ≡ b) new
  is_new =
      last_new (line_began setup line at.some) new front b (sym both ∙ at.all ∙ last)
      (subst (λ (x : List Begun). length (line_began setup line at.some) < length x) (sym at.all ∙ both) at.fewer)

  shown : OneOf (HasText b.text b.moment) says.new
  shown = says.said b.text b.moment (of_all (SaysAt b.text b.moment) line says.sent (began_says b (of_line line says.sent) is_new))

  pub posted_then : PostedThen setup line steps b
  posted_then =
      let one = one_beyond (HasText b.text b.moment) w.posted says.new shown in
      record {
        some = at.some;
        step = at.step;
        later = at.later;
        order = at.order;
        all = at.all;
        number = one.0;
        post = one.1;
        since = one.2;
        found = subst (λ (posted : List Posted). slice_get posted one.0 ≡ Some one.1) (sym says.posted) one.3;
        shows = one.4;
      }

-- Behind that step it is handed over

past_step : (some between : List WorldStep) (step : WorldStep) (later rest : List WorldStep)
    → (some ++ step ∷ []) ++ later ≡ (some ++ between) ++ rest → (between ≡ []) ⊎ IsBefore (some ++ step ∷ []) (some ++ between)
past_step [] [] step later rest same = inl refl
past_step [] (other ∷ between) step later rest same =
    inr (between, ap (λ (s : WorldStep). s ∷ between) (sym (head_same step other later (between ++ rest) same)))
past_step (first ∷ some) between step later rest same =
    by_rest
    (past_step some between step later rest (tail_same first first ((some ++ step ∷ []) ++ later) ((some ++ between) ++ rest) same)) where
      by_rest : (between ≡ []) ⊎ IsBefore (some ++ step ∷ []) (some ++ between)
          → (between ≡ []) ⊎ IsBefore (first ∷ (some ++ step ∷ [])) (first ∷ (some ++ between))
      by_rest (inl none) = inl none
      by_rest (inr before) = inr (before.0, ap (λ (x : List WorldStep). first ∷ x) before.1)

pub handed_behind : (setup : Setup) (line : ℕ) (steps : List WorldStep) (within : ℕ) (b : Begun) (is : PostedThen setup line steps b)
    (number : ℕ) (post : Posted) → number ≡ is.number → (there : IsHandedOver setup steps within number post)
    → IsBefore (is.some ++ is.step ∷ []) there.before
handed_behind setup line steps within b is number post same there = by_between parts where
  rest : List WorldStep
  rest = delivering number ∷ there.later

  order : steps ≡ there.before ++ rest
  order = there.order ∙ append_assoc there.before (delivering number ∷ []) there.later

  since : length (plain_world setup is.some).posted ≤ number
  since = subst (λ (n : ℕ). length (plain_world setup is.some).posted ≤ n) (sym same) is.since

  on : IsBefore is.some there.before
  on =
      later_before setup b.id is.some there.before (is.step ∷ is.later) rest number post
      (sym (append_assoc is.some (is.step ∷ []) is.later) ∙ sym is.order ∙ order) since there.sent

  parts : (on.0 ≡ []) ⊎ IsBefore (is.some ++ is.step ∷ []) (is.some ++ on.0)
  parts = past_step is.some on.0 is.step is.later rest (sym is.order ∙ order ∙ ap (λ (x : List WorldStep). x ++ rest) on.1)

  -- there it isn't posted yet
  not_yet : there.before ≡ is.some → ⊥
  not_yet here =
      let low =
      found_within (plain_world setup is.some).posted number post
      (subst (λ (s : List WorldStep). slice_get (plain_world setup s).posted number ≡ Some post) here there.sent) in
      let high = since in
      omega (arith, low, high)

  by_between : (on.0 ≡ []) ⊎ IsBefore (is.some ++ is.step ∷ []) (is.some ++ on.0) → IsBefore (is.some ++ is.step ∷ []) there.before
  by_between (inl none) = absurd (not_yet (on.1 ∙ ap (λ (x : List WorldStep). is.some ++ x) none ∙ append-nil is.some))
  by_between (inr before) = (before.0, on.1 ∙ before.1)
