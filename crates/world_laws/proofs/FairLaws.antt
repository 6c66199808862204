-- A network that hands each packet over in time answers each command in twice the time.
use Rattle.std.proofs.Common.{◌≡◌, ◌≢◌, ℕ, Bool, zero, suc, ◌+◌, ◌-◌, ◌*◌, ◌<◌, ◌≤◌, true, false, ◌==◌, if◌then◌else◌, List, [], ◌∷◌, ◌++◌, length, Option, Some, None, inl, inr, refl, sym, ap, ◌∙◌, subst, arith, append_assoc}
use Rattle.std.specs.Prelude.{◌⊎◌, All, AllPairs, Any, IfSome, flat_map, is_none, nat_lt, slice_get}
use Rattle.std.specs.Str.{bytes_eq}
use Rattle.std.proofs.lemmas.Bool.{and_parts}
use Rattle.std.proofs.lemmas.Bool.Decides.{Decides-eqb, nat_tests}
use Rattle.std.proofs.lemmas.Option.{none-some}
use Rattle.mgcp_text.specs.declared.message.Message.TheVariants as messages
use Rattle.mgcp_text.specs.Reading.{Outcome, message, no_header, bad_version, bad_body, read_text}
use Rattle.transmission.specs.declared.entry.KeptFirst.{KeptFirst}
use Rattle.transmission.specs.Arrival.{Arrival, unanswered}
use Rattle.transmission.specs.Kept.{firsts_in}
use Rattle.transmission.specs.Texts.{texts_of}
use Rattle.plain_machine.specs.declared.setup.Setup.{Setup}
use Rattle.plain_machine.specs.Arriving.{arrivals_of}
use Rattle.plain_machine.specs.Setup.{IsSetUp}
use Rattle.retransmission.specs.Issued.{is_command_as}
use Rattle.plain_machine.specs.Message.{Begun}
use Rattle.machine_laws.specs.Saying.{Gives, Carries, IsAnswerTo, OneOf, Tells}
use Rattle.machine_laws.proofs.EachLemmas.{Each, any_from_one, each_at, each_from_all, is_none-None, one_from_any, one_mapped, one_of_each, one_to, one_unmapped, one_weaker}
use Rattle.call_agent.specs.Agent.{AgentMachine, agent_opening}
use Rattle.call_agent.specs.Hearing.{AgentEvent, issued_from}
use Rattle.agent_core.specs.declared.packet.Posted.{Posted}
use Rattle.agent_core.specs.declared.packet.End.{End}
use Rattle.agent_core.specs.declared.packet.End.TheVariants.{AgentEnd as agent_end, GatewayEnd as gateway_end}
use Rattle.agent_core.specs.World.{World, WorldStep, WorldRefusal, agent_in, agent_of, delivering, delivery_refusal, now_in, oldest_packet, packet_too_old, plain_world, step_refusal, steps_are_taken, went, world_after, world_opening}
use Rattle.world_laws.specs.Reached.{Reached, as_arrival, executed_in, issued_in, reached}
use Rattle.world_laws.proofs.AgentLaws.{WasIssued}
use Rattle.world_laws.proofs.AgentFirsts.{executed_firsts}
use Rattle.world_laws.proofs.ReachedLaws.{executed_each}
use Rattle.world_laws.proofs.WorldLaws.{Came, Comes, Posts, Sends, Sound, agent_answers, ids_apart, world_sound}
use Rattle.world_laws.specs.Copies.{IsCopy, IsIssued, IsAnswered, IsConfirmedAmong, HasAnswer, answer_wait, gateway_firsts}
use Rattle.world_laws.specs.Chances.{IsSentAfter, chances}
use Rattle.world_laws.specs.Fairness.{IsHandedOver, IsFair, AlwaysHasRoom}
use Rattle.world_laws.proofs.PostedFinal.{HasIn, has_answer, plain_grows, taken_front}
use Rattle.world_laws.proofs.LookLemmas.{found_before}
use Rattle.world_laws.proofs.ChanceLaws.{sent_eight_times, front_forward, handed_now}
use Rattle.world_laws.proofs.ServedLaws.{answered_at_once, had_in, stored_final, stored_is, HasFirstIn, WasAnswered, was_answered}
use Rattle.world_laws.proofs.StoredLemmas.{HasFirst, confirmed_has, stored_has}
use Rattle.world_laws.proofs.BroughtLaws.{HandsOver}

-- Two beginnings of one list

abbrev pub IsBefore : List WorldStep → List WorldStep → Type 0
IsBefore a b = (more : List WorldStep) × (b ≡ a ++ more)

pub head_same : (s t : WorldStep) (a b : List WorldStep) → s ∷ a ≡ t ∷ b → s ≡ t
head_same s t a b same = cc

pub tail_same : (s t : WorldStep) (a b : List WorldStep) → s ∷ a ≡ t ∷ b → a ≡ b
tail_same s t a b same = cc

pub one_first : (a b x y : List WorldStep) → a ++ x ≡ b ++ y → IsBefore a b ⊎ IsBefore b a
one_first [] b x y same = inl (b, refl)
one_first (s ∷ a) [] x y same = inr (s ∷ a, refl)
one_first (s ∷ a) (t ∷ b) x y same = by_rest (one_first a b x y (tail_same s t (a ++ x) (b ++ y) same)) where
  first : s ≡ t
  first = head_same s t (a ++ x) (b ++ y) same

  by_rest : IsBefore a b ⊎ IsBefore b a → IsBefore (s ∷ a) (t ∷ b) ⊎ IsBefore (t ∷ b) (s ∷ a)
  by_rest (inl before) = inl (before.0, ap (λ (x : List WorldStep). t ∷ x) before.1 ∙ ap (λ (z : WorldStep). z ∷ (a ++ before.0)) (sym first))
  by_rest (inr before) = inr (before.0, ap (λ (x : List WorldStep). s ∷ x) before.1 ∙ ap (λ (z : WorldStep). z ∷ (b ++ before.0)) first)

-- Who is told of was issued

length_more : (xs ys : List Posted) → length xs ≤ length (xs ++ ys)
length_more [] ys = omega arith
length_more (x ∷ xs) ys = let less = length_more xs ys in omega (arith, less)

pub found_within : (xs : List Posted) (place : ℕ) (post : Posted) → slice_get xs place ≡ Some post → place < length xs
found_within [] place post at = absurd (none-some post at)
found_within (x ∷ xs) zero post at = omega arith
found_within (x ∷ xs) (suc place) post at = let less = found_within xs place post at in omega (arith, less)

-- each has an id of its own
abbrev pub AreApart : List Begun → Type 0
AreApart [] = Unit {0}
AreApart (b ∷ all) = Each (λ (c : Begun). b.id ≢ c.id) all × AreApart all

pub apart_from : (all : List Begun) → AllPairs (λ (a b : Begun). a.id ≢ b.id) all → AreApart all
apart_from [] pairs = tt
apart_from (b ∷ all) pairs = (
  each_from_all (λ (c : Begun). b.id ≢ c.id) all (λ k d within. pairs zero (suc k) d (omega arith) (omega (arith, within))),
  apart_from all (λ i j d less within. pairs (suc i) (suc j) d (omega (arith, less)) (omega (arith, within))),
)

same_one : (all : List Begun) → AreApart all → (b c : Begun) → OneOf (λ (one : Begun). one ≡ b) all → OneOf (λ (one : Begun). one ≡ c) all → b.id ≡ c.id → c ≡ b
same_one [] apart b c one other same = absurd one
same_one (x ∷ all) apart b c (inl is) (inl at) same = sym at ∙ is
same_one (x ∷ all) apart b c (inl is) (inr other) same =
    absurd (one_to (λ (y : Begun). (x.id ≢ y.id) × (y ≡ c)) ⊥ (λ y both. both.0 (ap (λ (z : Begun). z.id) is ∙ same ∙ sym (ap (λ (z : Begun). z.id) both.1))) all
    (one_of_each (λ (y : Begun). x.id ≢ y.id) (λ (y : Begun). y ≡ c) all apart.0 other))
same_one (x ∷ all) apart b c (inr one) (inl at) same =
    absurd (one_to (λ (y : Begun). (x.id ≢ y.id) × (y ≡ b)) ⊥ (λ y both. both.0 (ap (λ (z : Begun). z.id) at ∙ sym same ∙ sym (ap (λ (z : Begun). z.id) both.1))) all
    (one_of_each (λ (y : Begun). x.id ≢ y.id) (λ (y : Begun). y ≡ b) all apart.0 one))
same_one (x ∷ all) apart b c (inr one) (inr other) same = same_one all apart.1 b c one other same

-- one of those that were issued first with its id is the command itself
found_one : (some whole : List Begun) (b : Begun) → AreApart whole → OneOf (λ (one : Begun). one ≡ b) whole
    → ((c : Begun) → OneOf (λ (one : Begun). one ≡ c) some → OneOf (λ (one : Begun). one ≡ c) whole) → OneOf (λ (c : Begun). c.id ≡ b.id) some → OneOf (λ (one : Begun). one ≡ b) some
found_one [] whole b apart mine stays one = absurd one
found_one (x ∷ some) whole b apart mine stays (inl is) = inl (same_one whole apart b x mine (stays x (inl refl)) (sym is))
found_one (x ∷ some) whole b apart mine stays (inr one) = inr (found_one some whole b apart mine (λ c is. stays c (inr is)) one)

-- a command's id is that under which it is read
pub one_id : (id other : ℕ) (name next : List ℕ) (outcome : Outcome) → is_command_as id name outcome ≡ true → is_command_as other next outcome ≡ true → id ≡ other
one_id id other name next no_header is as' = absurd cc
one_id id other name next (bad_version x) is as' = absurd cc
one_id id other name next (bad_body x) is as' = absurd cc
one_id id other name next (message (messages.Response code x params body)) is as' = absurd cc
one_id id other name next (message (messages.Command verb x of params body)) is as' =
    sym ((Decides-eqb x id).0 (and_parts (x == id) (bytes_eq of name) is).0) ∙ (Decides-eqb x other).0 (and_parts (x == other) (bytes_eq of next) as').0

-- a command that the agent sent is one that it issued
told_issued : (all : List Begun) (firsts : List KeptFirst) (now next : ℕ) (b : Begun) (name : List ℕ) (moment : ℕ) → Each (WasIssued now next) all
    → Each (λ (first : KeptFirst). IsAnswerTo first.id first.answer) firsts → is_command_as b.id name (read_text b.text) ≡ true → Tells all firsts b.text moment
    → OneOf (λ (c : Begun). c.id ≡ b.id) all
told_issued all firsts now next b name moment issued answers reads (inl carried) =
    one_weaker (λ (c : Begun). WasIssued now next c × Carries b.text moment c) (λ (c : Begun). c.id ≡ b.id)
    (λ c both. one_id c.id b.id both.0.name name (read_text b.text) (ap (λ (t : List ℕ). is_command_as c.id both.0.name (read_text t)) both.1.text ∙ both.0.reads) reads) all
    (one_of_each (WasIssued now next) (Carries b.text moment) all issued carried)
told_issued all firsts now next b name moment issued answers reads (inr (inl answered)) =
    absurd (one_to (λ (first : KeptFirst). IsAnswerTo first.id first.answer × Gives b.text moment first) ⊥
    (λ first both. let e : is_command_as b.id name (message (messages.Response both.0.code first.id both.0.params both.0.body)) ≡ true =
    ap (is_command_as b.id name) (sym both.0.reads ∙ ap read_text both.1.0) ∙ reads in absurd cc) firsts
    (one_of_each (λ (first : KeptFirst). IsAnswerTo first.id first.answer) (Gives b.text moment) firsts answers answered))
told_issued all firsts now next b name moment issued answers reads (inr (inr is)) =
    absurd (let e : is_command_as b.id name (message (messages.Response 0 is.id [] [])) ≡ true = ap (is_command_as b.id name) (sym is.reads) ∙ reads in cc)

-- what was issued with its id is the command itself
named_issued : (setup : Setup) (steps more : List WorldStep) (b : Begun) → steps_are_taken setup world_opening (steps ++ more) ≡ true
    → IsIssued setup (plain_world setup (steps ++ more)) b → OneOf (λ (c : Begun). c.id ≡ b.id) (issued_in setup (plain_world setup steps)) → IsIssued setup (plain_world setup steps) b
named_issued setup steps more b taken issued named =
    let all = issued_in setup (plain_world setup steps) in
    let whole = issued_in setup (plain_world setup (steps ++ more)) in
    any_from_one (λ (one : Begun). one ≡ b) all
    (found_one all whole b (apart_from whole (ids_apart setup (steps ++ more) taken)) (one_from_any (λ (one : Begun). one ≡ b) whole issued)
    (λ c is. (plain_grows setup b.id steps more).issued c is) named)

-- so where a copy of it was sent, it was issued
pub sent_issued : (setup : Setup) (steps more : List WorldStep) (b : Begun) (number : ℕ) → steps_are_taken setup world_opening (steps ++ more) ≡ true
    → IsIssued setup (plain_world setup (steps ++ more)) b → IsCopy setup (plain_world setup steps) agent_end b.text number → IsIssued setup (plain_world setup steps) b
sent_issued setup steps more b number taken issued copy =
    named_issued setup steps more b taken issued
    (told_issued all firsts m.now m.next b was.name copy.post.packet.moment s.agrees.agent.issued (agent_answers all m s.agrees.agent) was.reads told) where
      w : World
      w = plain_world setup steps

      whole : World
      whole = plain_world setup (steps ++ more)

      m : AgentMachine
      m = agent_in setup w

      all : List Begun
      all = issued_in setup w

      firsts : List KeptFirst
      firsts = firsts_in m.history

      s : Sound setup w
      s = world_sound setup steps (taken_front setup world_opening steps more taken)

      last : Sound setup whole
      last = world_sound setup (steps ++ more) taken

      was : WasIssued (agent_in setup whole).now (agent_in setup whole).next b
      was =
          one_to (λ (one : Begun). WasIssued (agent_in setup whole).now (agent_in setup whole).next one × (one ≡ b)) (WasIssued (agent_in setup whole).now (agent_in setup whole).next b)
          (λ one both. subst (WasIssued (agent_in setup whole).now (agent_in setup whole).next) both.1 both.0) (issued_in setup whole)
          (one_of_each (WasIssued (agent_in setup whole).now (agent_in setup whole).next) (λ (one : Begun). one ≡ b) (issued_in setup whole) last.agrees.agent.issued
          (one_from_any (λ (one : Begun). one ≡ b) (issued_in setup whole) issued))

      told : Tells all firsts b.text copy.post.packet.moment
      told =
          let sends : Sends all firsts m.now copy.post =
          subst (λ (o : Option Posted). IfSome o (Sends all firsts m.now)) copy.found (each_at (Sends all firsts m.now) w.posted number s.agrees.posted) in
          let posts : Posts all firsts m.now agent_end copy.post.packet = subst (λ (end : End). Posts all firsts m.now end copy.post.packet) copy.sender sends in
          one_to (λ (text : List ℕ). (Tells all firsts text copy.post.packet.moment × (copy.post.packet.moment ≤ m.now)) × (text ≡ b.text)) (Tells all firsts b.text copy.post.packet.moment)
          (λ text both. subst (λ (t : List ℕ). Tells all firsts t copy.post.packet.moment) both.1 both.0.0) (texts_of copy.post.packet.bytes)
          (one_of_each (λ (text : List ℕ). Tells all firsts text copy.post.packet.moment × (copy.post.packet.moment ≤ m.now)) (λ (text : List ℕ). text ≡ b.text)
          (texts_of copy.post.packet.bytes) posts (one_from_any (λ (one : List ℕ). one ≡ b.text) (texts_of copy.post.packet.bytes) copy.inside))

-- and where it's one of the gateway's firsts
first_issued : (setup : Setup) (steps more : List WorldStep) (b : Begun) → steps_are_taken setup world_opening (steps ++ more) ≡ true
    → IsIssued setup (plain_world setup (steps ++ more)) b → HasFirstIn setup b.id (plain_world setup steps) → IsIssued setup (plain_world setup steps) b
first_issued setup steps more b taken issued has = named_issued setup steps more b taken issued named where
  w : World
  w = plain_world setup steps

  all : List Begun
  all = issued_in setup w

  came : Each (Came all) (executed_in w)
  came =
      executed_each (Came all) (flat_map reached (arrivals_of w.gateway_took)) (world_sound setup steps (taken_front setup world_opening steps more taken)).agrees.came

  executed : OneOf (λ (one : Reached). one.asked.id ≡ b.id) (executed_in w)
  executed =
      one_unmapped (λ (a : Arrival). a.id ≡ b.id) as_arrival (executed_in w)
      (subst (HasFirst b.id) (sym (executed_firsts setup w.gateway_took)) (one_mapped (λ (a : Arrival). a.id ≡ b.id) unanswered (gateway_firsts setup w) has))

  named : OneOf (λ (c : Begun). c.id ≡ b.id) all
  named =
      one_to (λ (one : Reached). Came all one × (one.asked.id ≡ b.id)) (OneOf (λ (c : Begun). c.id ≡ b.id) all)
      (λ one both. one_weaker (Comes one) (λ (c : Begun). c.id ≡ b.id) (λ c comes. comes.id ∙ both.1) all both.0) (executed_in w)
      (one_of_each (Came all) (λ (one : Reached). one.asked.id ≡ b.id) (executed_in w) came executed)

-- An answer in twice the time

-- a packet that is sent later is handed over later
pub later_before : (setup : Setup) (id : ℕ) (a b x y : List WorldStep) (number : ℕ) (post : Posted) → a ++ x ≡ b ++ y → length (plain_world setup a).posted ≤ number
    → slice_get (plain_world setup b).posted number ≡ Some post → IsBefore a b
later_before setup id a b x y number post same since sent = by_first (one_first a b x y same) where
  by_first : IsBefore a b ⊎ IsBefore b a → IsBefore a b
  by_first (inl before) = before
  by_first (inr before) =
      absurd (
      let grows = plain_grows setup id b before.0 in
      let less : length (plain_world setup b).posted ≤ length (plain_world setup a).posted =
      subst (λ (s : List WorldStep). length (plain_world setup b).posted ≤ length (plain_world setup s).posted) (sym before.1)
      (subst (λ (p : List Posted). length (plain_world setup b).posted ≤ length p) (sym grows.posted) (length_more (plain_world setup b).posted grows.more)) in
      let within = found_within (plain_world setup b).posted number post sent in
      omega (arith, since, less, within))

-- the moments

there_late : (issued within sent now : ℕ) → sent ≡ issued + 0 → issued + 2 * within ≤ now → sent + within ≤ now
there_late issued within sent now is late = omega (arith, is, late)

there_soon : (issued within sent now back : ℕ) → sent ≡ issued + 0 → now ≤ sent + within → back ≤ now → back ≤ issued + within
there_soon issued within sent now back is soon early = omega (arith, is, soon, early)

back_late : (issued within sent now : ℕ) → sent ≤ issued + within → issued + 2 * within ≤ now → sent + within ≤ now
back_late issued within sent now soon late = omega (arith, soon, late)

back_soon : (issued sent now : ℕ) → sent ≤ issued + 10000 → now ≤ sent + 10000 → now < issued + answer_wait
back_soon issued sent now soon back = omega (arith, soon, back)

there_young : (issued sent now back : ℕ) → sent ≡ issued + 0 → now ≤ sent + 10000 → back ≤ now → back ≤ issued + 10000
there_young issued sent now back is young early = omega (arith, is, young, early)

-- what is handed over is 10,000 ms old at most

pub taken_last : (setup : Setup) (w : World) (front : List WorldStep) (step : WorldStep) → steps_are_taken setup w (front ++ step ∷ []) ≡ true
    → step_refusal setup (world_after setup w front) step ≡ None
unfolding steps_are_taken world_after
taken_last setup w [] step all = is_none-None (step_refusal setup w step) (and_parts (is_none (step_refusal setup w step)) true all).0
taken_last setup w (first ∷ front) step all =
    taken_last setup (went setup w first) front step (and_parts (is_none (step_refusal setup w first)) (steps_are_taken setup (went setup w first) (front ++ step ∷ [])) all).1

not_old : (now moment : ℕ) → nat_lt oldest_packet (now - moment) ≡ false → now ≤ moment + 10000
not_old now moment test = grind (arith, nat_tests, test)

is_young : (now : ℕ) (post : Posted) → delivery_refusal (Some post) now ≡ None → now ≤ post.packet.moment + 10000
is_young now post is = by_age (nat_lt oldest_packet (now - post.packet.moment)) refl is where
  by_age : (old : Bool) → nat_lt oldest_packet (now - post.packet.moment) ≡ old → ◌≡◌ {A = Option WorldRefusal} (if old then Some packet_too_old else None) None
      → now ≤ post.packet.moment + 10000
  by_age true test same = absurd cc
  by_age false test same = not_old now post.packet.moment test

handed_young : (setup : Setup) (before : List WorldStep) (number : ℕ) (post : Posted) → steps_are_taken setup world_opening (before ++ delivering number ∷ []) ≡ true
    → slice_get (plain_world setup before).posted number ≡ Some post → now_in setup (plain_world setup before) ≤ post.packet.moment + 10000
unfolding step_refusal
handed_young setup before number post all sent =
    is_young (now_in setup (plain_world setup before)) post
    (subst (λ (o : Option Posted). delivery_refusal o (now_in setup (plain_world setup before)) ≡ None) sent (taken_last setup world_opening before (delivering number) all))

-- what is found is found later too
pub stays_found : (setup : Setup) (id : ℕ) (steps more : List WorldStep) (number : ℕ) (post : Posted) → slice_get (plain_world setup steps).posted number ≡ Some post
    → slice_get (plain_world setup (steps ++ more)).posted number ≡ Some post
stays_found setup id steps more number post found =
    let grows = plain_grows setup id steps more in
    subst (λ (posted : List Posted). slice_get posted number ≡ Some post) (sym grows.posted) (found_before (plain_world setup steps).posted grows.more number post found)

module _ (setup : Setup) (steps : List WorldStep) (within : ℕ) (b : Begun) (set_up : IsSetUp setup) (taken : steps_are_taken setup world_opening steps ≡ true)
    (fair : IsFair setup steps within) (roomy : AlwaysHasRoom setup steps) (issued : IsIssued setup (plain_world setup steps) b)
    (late : b.moment + 2 * within ≤ now_in setup (plain_world setup steps)) where
  taken_as : (front more : List WorldStep) → steps ≡ front ++ more → steps_are_taken setup world_opening (front ++ more) ≡ true
  taken_as front more is = subst (λ (x : List WorldStep). steps_are_taken setup world_opening x ≡ true) is taken

  taken_to : (front more : List WorldStep) → steps ≡ front ++ more → steps_are_taken setup world_opening front ≡ true
  taken_to front more is = taken_front setup world_opening front more (taken_as front more is)

  issued_as : (front more : List WorldStep) → steps ≡ front ++ more → IsIssued setup (plain_world setup (front ++ more)) b
  issued_as front more is = subst (λ (x : List WorldStep). IsIssued setup (plain_world setup x) b) is issued

  -- the way back: the answer is handed over in its time
  came_back : (before later : List WorldStep) (number : ℕ) → let first = before ++ delivering number ∷ [] in steps ≡ first ++ later
      → (answer : IsAnswered setup (plain_world setup before) (plain_world setup first) b.id) → IsIssued setup (plain_world setup before) b
      → answer.copy.post.packet.moment ≤ b.moment + within → answer.copy.post.packet.moment ≤ b.moment + 10000 → HasAnswer b.id (agent_in setup (plain_world setup steps))
  came_back before later number is answer told soon young = has_answer b.id setup (plain_world setup steps) had where
    first : List WorldStep
    first = before ++ delivering number ∷ []

    post : Posted
    post = answer.copy.post

    there : slice_get (plain_world setup steps).posted answer.number ≡ Some post
    there =
        subst (λ (s : List WorldStep). slice_get (plain_world setup s).posted answer.number ≡ Some post) (sym is)
        (stays_found setup b.id first later answer.number post answer.copy.found)

    back : IsHandedOver setup steps within answer.number post
    back = fair answer.number post there (back_late b.moment within post.packet.moment (now_in setup (plain_world setup steps)) soon late)

    whole : List WorldStep
    whole = back.before ++ delivering answer.number ∷ []

    after : IsBefore before back.before
    after =
        later_before setup b.id before back.before (delivering number ∷ later) (delivering answer.number ∷ back.later) answer.number post
        (sym (append_assoc before (delivering number ∷ []) later) ∙ sym is ∙ back.order ∙ append_assoc back.before (delivering answer.number ∷ []) back.later) answer.since back.sent

    still : IsIssued setup (plain_world setup back.before) b
    still =
        subst (λ (s : List WorldStep). IsIssued setup (plain_world setup s) b) (sym after.1)
        (any_from_one (λ (one : Begun). one ≡ b) (issued_in setup (plain_world setup (before ++ after.0)))
        ((plain_grows setup b.id before after.0).issued b (one_from_any (λ (one : Begun). one ≡ b) (issued_in setup (plain_world setup before)) told)))

    copy : IsCopy setup (plain_world setup back.before) gateway_end answer.text answer.number
    copy = record { post = post; found = back.sent; sender = answer.copy.sender; goes = answer.copy.goes; inside = answer.copy.inside }

    reads : IsAnswerTo b.id answer.text
    reads = stored_is setup first b.id answer.text set_up (taken_to first later is) answer.stored

    had : HasIn b.id setup (plain_world setup steps)
    had =
        subst (λ (s : List WorldStep). HasIn b.id setup (plain_world setup s)) (sym back.order)
        ((plain_grows setup b.id whole back.later).has
        (had_in setup back.before answer.number b answer.text reads.code reads.params reads.body set_up (taken_to whole back.later back.order) still
        (back_soon b.moment post.packet.moment (now_in setup (plain_world setup back.before)) young
        (handed_young setup back.before answer.number post (taken_to whole back.later back.order) back.sent)) copy reads.reads
        (stored_final setup first b.id answer.text answer.stored reads.code b.id reads.params reads.body reads.reads)))

  -- the way there: the first copy is handed over in its time; so by then the command came, and was answered when it came first
  came : IsSentAfter setup (plain_world setup steps) b 0 → HasAnswer b.id (agent_in setup (plain_world setup steps))
  came sent = came_back was.before more was.number order was.answered told soon young where
    there : IsHandedOver setup steps within sent.number sent.copy.post
    there =
        fair sent.number sent.copy.post sent.copy.found (there_late b.moment within sent.copy.post.packet.moment (now_in setup (plain_world setup steps)) sent.moment late)

    first : List WorldStep
    first = there.before ++ delivering sent.number ∷ []

    taken_first : steps_are_taken setup world_opening first ≡ true
    taken_first = taken_to first there.later there.order

    copy : IsCopy setup (plain_world setup there.before) agent_end b.text sent.number
    copy = record { post = sent.copy.post; found = there.sent; sender = sent.copy.sender; goes = sent.copy.goes; inside = sent.copy.inside }

    told_there : IsIssued setup (plain_world setup there.before) b
    told_there =
        let rest : List WorldStep = delivering sent.number ∷ there.later in
        let is : steps ≡ there.before ++ rest = there.order ∙ append_assoc there.before (delivering sent.number ∷ []) there.later in
        sent_issued setup there.before rest b sent.number (taken_as there.before rest is) (issued_as there.before rest is) copy

    by_answer : IsConfirmedAmong b.id (gateway_firsts setup (plain_world setup first)) ⊎ IsAnswered setup (plain_world setup there.before) (plain_world setup first) b.id
        → HasFirstIn setup b.id (plain_world setup first)
    by_answer (inl confirmed) = confirmed_has b.id (gateway_firsts setup (plain_world setup first)) confirmed
    by_answer (inr answer) = stored_has b.id answer.text (gateway_firsts setup (plain_world setup first)) answer.stored

    was : WasAnswered setup b.id first
    was =
        was_answered setup b.id first set_up taken_first
        (by_answer (answered_at_once setup there.before sent.number b set_up taken_first told_there copy (roomy first there.later there.order)))

    new : List WorldStep
    new = was.before ++ delivering was.number ∷ []

    more : List WorldStep
    more = was.later ++ there.later

    order : steps ≡ new ++ more
    order = there.order ∙ ap (λ (s : List WorldStep). s ++ there.later) was.order ∙ append_assoc new was.later there.later

    told : IsIssued setup (plain_world setup was.before) b
    told =
        subst (λ (took : List AgentEvent). Any (λ (one : Begun). one ≡ b) (issued_from (agent_of setup) (agent_opening (agent_of setup)) took)) was.alone
        (first_issued setup new more b (taken_as new more order) (issued_as new more order)
        (stored_has b.id was.answered.text (gateway_firsts setup (plain_world setup new)) was.answered.stored))

    early : was.answered.copy.post.packet.moment ≤ now_in setup (plain_world setup there.before)
    early =
        let on : now_in setup (plain_world setup new) ≤ now_in setup (plain_world setup (new ++ was.later)) =
        front_forward setup new was.later (subst (λ (s : List WorldStep). steps_are_taken setup world_opening s ≡ true) was.order taken_first) in
        let same : now_in setup (plain_world setup (new ++ was.later)) ≡ now_in setup (plain_world setup there.before) =
        ap (λ (s : List WorldStep). now_in setup (plain_world setup s)) (sym was.order) ∙ handed_now setup there.before sent.number in
        let at : was.answered.copy.post.packet.moment ≡ now_in setup (plain_world setup new) = was.answered.moment in
        omega (arith, on, same, at)

    soon : was.answered.copy.post.packet.moment ≤ b.moment + within
    soon =
        there_soon b.moment within sent.copy.post.packet.moment (now_in setup (plain_world setup there.before)) was.answered.copy.post.packet.moment sent.moment there.soon early

    young : was.answered.copy.post.packet.moment ≤ b.moment + 10000
    young =
        there_young b.moment sent.copy.post.packet.moment (now_in setup (plain_world setup there.before)) was.answered.copy.post.packet.moment sent.moment
        (handed_young setup there.before sent.number sent.copy.post taken_first there.sent) early

pub answered_in_time : (setup : Setup) (steps : List WorldStep) (within : ℕ) (b : Begun) → IsSetUp setup → steps_are_taken setup world_opening steps ≡ true
    → IsFair setup steps within → AlwaysHasRoom setup steps → let w = plain_world setup steps in IsIssued setup w b
    → b.moment + 2 * within ≤ now_in setup w → HasAnswer b.id (agent_in setup w)
answered_in_time setup steps within b set_up taken fair roomy issued late = by_case (sent_eight_times setup steps b set_up taken issued) where
  w : World
  w = plain_world setup steps

  by_case : HasAnswer b.id (agent_in setup w) ⊎ All (λ (wait : ℕ). b.moment + wait ≤ now_in setup w → IsSentAfter setup w b wait) chances → HasAnswer b.id (agent_in setup w)
  by_case (inl has) = has
  by_case (inr sent) =
      let first : b.moment + 0 ≤ now_in setup w → IsSentAfter setup w b 0 = (each_from_all (λ (wait : ℕ). b.moment + wait ≤ now_in setup w → IsSentAfter setup w b wait) chances sent).0 in
      came setup steps within b set_up taken fair roomy issued late (first (omega (arith, late)))

-- A network that hands each packet over in time did so at each beginning, with what is older.

late_then : (moment within now last : ℕ) → moment + (within + 1) ≤ now → now ≤ last → moment + within ≤ last
late_then moment within now last late on = omega (arith, late, on)

-- A packet that is older than that was handed over by now.
pub fair_front : (setup : Setup) (first later : List WorldStep) (within : ℕ) → steps_are_taken setup world_opening (first ++ later) ≡ true → IsFair setup (first ++ later) within
    → HandsOver setup first (within + 1) within
fair_front setup first later within taken fair = λ number post found late. by_front number post late (there number post found late)
    (one_first ((there number post found late).before ++ delivering number ∷ []) first (there number post found late).later later (sym (there number post found late).order)) where
      there : (number : ℕ) (post : Posted) → slice_get (plain_world setup first).posted number ≡ Some post → post.packet.moment + (within + 1) ≤ now_in setup (plain_world setup first)
          → IsHandedOver setup (first ++ later) within number post
      there number post found late =
          fair number post (stays_found setup 0 first later number post found)
          (late_then post.packet.moment within (now_in setup (plain_world setup first)) (now_in setup (plain_world setup (first ++ later))) late (front_forward setup first later taken))

      by_front : (number : ℕ) (post : Posted) → post.packet.moment + (within + 1) ≤ now_in setup (plain_world setup first) → (t : IsHandedOver setup (first ++ later) within number post)
          → IsBefore (t.before ++ delivering number ∷ []) first ⊎ IsBefore first (t.before ++ delivering number ∷ []) → IsHandedOver setup first within number post
      by_front number post late t (inl before) = record { before = t.before; later = before.0; order = before.1; sent = t.sent; soon = t.soon }
      by_front number post late t (inr behind) =
          absurd (
          let soon : now_in setup (plain_world setup t.before) ≤ post.packet.moment + within = t.soon in
          let whole : steps_are_taken setup world_opening (t.before ++ delivering number ∷ []) ≡ true =
          taken_front setup world_opening (t.before ++ delivering number ∷ []) t.later (subst (λ (s : List WorldStep). steps_are_taken setup world_opening s ≡ true) t.order taken) in
          let on : now_in setup (plain_world setup first) ≤ now_in setup (plain_world setup (first ++ behind.0)) =
          front_forward setup first behind.0 (subst (λ (s : List WorldStep). steps_are_taken setup world_opening s ≡ true) behind.1 whole) in
          let is : now_in setup (plain_world setup (first ++ behind.0)) ≡ now_in setup (plain_world setup t.before) =
          ap (λ (s : List WorldStep). now_in setup (plain_world setup s)) (sym behind.1) ∙ handed_now setup t.before number in
          omega (arith, soon, on, is, late))
