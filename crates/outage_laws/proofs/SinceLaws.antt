-- Over a network that is fair from a moment on a command of the gateway's own is taken and answered by its next send.
use Rattle.std.proofs.Common.{◌≡◌, ℕ, ◌+◌, ◌*◌, ◌<◌, ◌≤◌, true, List, [], ◌∷◌, ◌++◌, length, Some, inl, inr, sym, ◌∙◌, subst, arith, append_assoc}
use Rattle.std.specs.Prelude.{◌⊎◌, All, Any, slice_get}
use Rattle.transmission.specs.declared.entry.KeptFirst.{KeptFirst}
use Rattle.transmission.specs.Kept.{firsts_in}
use Rattle.plain_machine.specs.declared.setup.Setup.{Setup}
use Rattle.plain_machine.specs.Setup.{IsSetUp}
use Rattle.plain_machine.specs.Message.{Begun}
use Rattle.machine_laws.specs.Saying.{IsAnswerTo}
use Rattle.machine_laws.proofs.EachLemmas.{each_from_all, one_from_any}
use Rattle.agent_core.specs.declared.packet.End.TheVariants.{AgentEnd as agent_end}
use Rattle.agent_core.specs.World.{World, WorldStep, delivering, now_in, plain_world, steps_are_taken, world_opening}
use Rattle.world_laws.specs.Reached.{Reached, taken_in}
use Rattle.world_laws.specs.Chances.{chances, last_chance}
use Rattle.world_laws.specs.Copies.{IsCopy}
use Rattle.world_laws.specs.Fairness.{GoesToAgent, IsHandedOver}
use Rattle.world_laws.specs.OwnChances.{HasCome, IsOfLine, IsToldAfter}
use Rattle.world_laws.specs.Taking.{IsTaken, agent_history}
use Rattle.world_laws.proofs.ChanceLaws.{front_forward, handed_now}
use Rattle.world_laws.proofs.FairLaws.{IsBefore, found_within, later_before, stays_found}
use Rattle.world_laws.proofs.ReturnedLaws.{reads_so}
use Rattle.world_laws.proofs.PostedFinal.{taken_front}
use Rattle.outage_laws.specs.AfterOutage.{AgentHasRoomFrom, IsFairFrom, longest_pause}
use Rattle.outage_laws.proofs.UnservedRoom.{IsNext, next_send}
use Rattle.outage_laws.proofs.OwnCopyLemmas.{comes_back, own_of, posted_past, stays_taken, take_copy, told_copy}
use Rattle.outage_laws.proofs.PlainArrivals.{come_taken}

-- the moments

sent_since : (since first wait moment : ℕ) → since ≤ first + wait → moment ≡ first + wait → since ≤ moment
sent_since since first wait moment late is = omega (arith, late, is)

there_late : (first wait within moment now : ℕ) → moment ≡ first + wait → first + wait + within ≤ now → moment + within ≤ now
there_late first wait within moment now is late = omega (arith, is, late)

now_since : (since moment now clock : ℕ) → since ≤ moment → moment ≤ now → clock ≡ now → since ≤ clock
now_since since moment now clock late past same = omega (arith, late, past, same)

back_late : (first wait within moment now back last : ℕ) → moment ≡ first + wait → now ≤ moment + within → back ≡ now → first + wait + 2 * within ≤ last → back + within ≤ last
back_late first wait within moment now back last is soon at late = omega (arith, is, soon, at, late)

twice_soon : (first wait within moment now back last : ℕ) → moment ≡ first + wait → now ≤ moment + within → back ≡ now → last ≤ back + within → last ≤ first + wait + 2 * within
twice_soon first wait within moment now back last is soon at after = omega (arith, is, soon, at, after)

since_then_on : (first wait moment now last : ℕ) → moment ≡ first + wait → moment ≤ now → now ≤ last → first + wait ≤ last
since_then_on first wait moment now last is past on = omega (arith, is, past, on)

half_late : (first wait within now : ℕ) → first + wait + 2 * within ≤ now → first + wait + within ≤ now
half_late first wait within now late = omega (arith, late)

wait_late : (since first wait more now : ℕ) → (wait ≡ 0) ⊎ (first + wait + 1 ≤ since + longest_pause) → first + more ≤ now → since + longest_pause + more ≤ now + 1 → first + wait + more ≤ now
wait_late since first wait more now (inl none) late by = omega (arith, none, late)
wait_late since first wait more now (inr soon) late by = omega (arith, soon, by)

wait_past : (first wait more now : ℕ) → first + wait + more ≤ now → first + wait ≤ now
wait_past first wait more now late = omega (arith, late)

-- the answer to the copy that was sent so many ms behind the first is handed over at that moment, or up to twice the network's time later
pub record IsBack (setup : Setup) (steps : List WorldStep) (within : ℕ) (b : Begun) (wait : ℕ) : Type 0 where
  pub before : List WorldStep
  pub number : ℕ
  pub later : List WorldStep
  pub order : steps ≡ (before ++ delivering number ∷ []) ++ later
  pub text : List ℕ
  pub copy : IsCopy setup (plain_world setup before) agent_end text number
  pub reads : IsAnswerTo b.id text
  pub no_sooner : b.moment + wait ≤ now_in setup (plain_world setup before)
  pub no_later : now_in setup (plain_world setup before) ≤ b.moment + wait + 2 * within

-- it is so behind the step at which the copy with this number was posted
pub record IsBackBehind (setup : Setup) (steps : List WorldStep) (within : ℕ) (b : Begun) (wait number : ℕ) : Type 0 where
  pub is : IsBack setup steps within b wait
  pub behind : number < length (plain_world setup is.before).posted

module _ (setup : Setup) (steps : List WorldStep) (since within line : ℕ) (b : Begun) (set_up : IsSetUp setup) (taken : steps_are_taken setup world_opening steps ≡ true)
    (fair : IsFairFrom setup steps since within) (roomy : AgentHasRoomFrom setup steps since)
    (of : IsOfLine setup (plain_world setup steps) line b) (reach : GoesToAgent setup (plain_world setup steps) b.text) where
  abbrev w : World
  w = plain_world setup steps

  abbrev pub WasTaken : Type 0
  WasTaken = Any (λ (one : Reached). one.asked.id ≡ b.id) (taken_in w)

  module _ (wait : ℕ) (told : IsToldAfter setup w b wait) (late : since ≤ b.moment + wait) (by : b.moment + wait + within ≤ now_in setup w) where
    there : IsHandedOver setup steps within told.number told.post
    there =
        fair told.number told.post told.found (sent_since since b.moment wait told.post.packet.moment late told.moment)
        (there_late b.moment wait within told.post.packet.moment (now_in setup w) told.moment by)

    before_taken : steps_are_taken setup world_opening there.before ≡ true
    before_taken =
        taken_front setup world_opening there.before (delivering told.number ∷ [])
        (taken_front setup world_opening (there.before ++ delivering told.number ∷ []) there.later
        (subst (λ (s : List WorldStep). steps_are_taken setup world_opening s ≡ true) there.order taken))

    past : told.post.packet.moment ≤ now_in setup (plain_world setup there.before)
    past = posted_past setup there.before set_up before_taken told.number told.post b.text there.sent told.sender told.inside

    -- it was handed over at that moment or later
    clock : since ≤ now_in setup (plain_world setup (there.before ++ delivering told.number ∷ []))
    clock =
        now_since since told.post.packet.moment (now_in setup (plain_world setup there.before)) (now_in setup (plain_world setup (there.before ++ delivering told.number ∷ [])))
        (sent_since since b.moment wait told.post.packet.moment late told.moment)
        past (handed_now setup there.before told.number)

    took : IsTaken setup (plain_world setup there.before) (plain_world setup (there.before ++ delivering told.number ∷ [])) b.id
    took =
        take_copy setup steps b set_up taken (own_of setup w line b of) there.before there.later told.number there.order
        (told_copy setup steps b set_up taken (own_of setup w line b of) reach wait told (plain_world setup there.before) there.sent)
        (roomy (there.before ++ delivering told.number ∷ []) there.later there.order clock)

    pub taken_by : WasTaken
    taken_by = stays_taken setup steps b set_up taken (own_of setup w line b of) there.before there.later told.number there.order took

    module _ (twice : b.moment + wait + 2 * within ≤ now_in setup w) where
      found : slice_get w.posted took.number ≡ Some took.copy.post
      found =
          subst (λ (s : List WorldStep). slice_get (plain_world setup s).posted took.number ≡ Some took.copy.post) (sym there.order)
          (stays_found setup b.id (there.before ++ delivering told.number ∷ []) there.later took.number took.copy.post took.copy.found)

      sent_then : took.copy.post.packet.moment ≡ now_in setup (plain_world setup there.before)
      sent_then = took.moment ∙ handed_now setup there.before told.number

      since_then : since ≤ took.copy.post.packet.moment
      since_then = now_since since told.post.packet.moment (now_in setup (plain_world setup there.before)) took.copy.post.packet.moment (sent_since since b.moment wait told.post.packet.moment late told.moment) past sent_then

      soon : took.copy.post.packet.moment + within ≤ now_in setup w
      soon =
          back_late b.moment wait within told.post.packet.moment (now_in setup (plain_world setup there.before)) took.copy.post.packet.moment (now_in setup w) told.moment there.soon sent_then twice

      -- its answer is handed over
      back : IsHandedOver setup steps within took.number took.copy.post
      back = fair took.number took.copy.post found since_then soon

      pub answered_by : HasCome w b.id
      answered_by = comes_back setup steps b set_up taken (own_of setup w line b of) there.before there.later told.number there.order took back.before back.later back.order back.sent

      -- between that send and twice the network's time behind it
      back_by : now_in setup (plain_world setup back.before) ≤ b.moment + wait + 2 * within
      back_by = twice_soon b.moment wait within told.post.packet.moment (now_in setup (plain_world setup there.before)) took.copy.post.packet.moment (now_in setup (plain_world setup back.before)) told.moment there.soon sent_then back.soon

      behind : IsBefore there.before back.before
      behind =
          later_before setup b.id there.before back.before (delivering told.number ∷ there.later) (delivering took.number ∷ back.later) took.number took.copy.post
          (sym (append_assoc there.before (delivering told.number ∷ []) there.later) ∙ sym there.order ∙ back.order ∙ append_assoc back.before (delivering took.number ∷ []) back.later) took.since back.sent

      back_taken : steps_are_taken setup world_opening (back.before ++ delivering took.number ∷ []) ≡ true
      back_taken =
          taken_front setup world_opening (back.before ++ delivering took.number ∷ []) back.later (subst (λ (s : List WorldStep). steps_are_taken setup world_opening s ≡ true) back.order taken)

      forward : now_in setup (plain_world setup there.before) ≤ now_in setup (plain_world setup back.before)
      forward =
          subst (λ (s : List WorldStep). now_in setup (plain_world setup there.before) ≤ now_in setup (plain_world setup s)) (sym behind.1)
          (front_forward setup there.before behind.0
          (subst (λ (s : List WorldStep). steps_are_taken setup world_opening s ≡ true) behind.1 (taken_front setup world_opening back.before (delivering took.number ∷ []) back_taken)))

      back_since : b.moment + wait ≤ now_in setup (plain_world setup back.before)
      back_since = since_then_on b.moment wait told.post.packet.moment (now_in setup (plain_world setup there.before)) (now_in setup (plain_world setup back.before)) told.moment past forward

      first_taken : steps_are_taken setup world_opening (there.before ++ delivering told.number ∷ []) ≡ true
      first_taken =
          taken_front setup world_opening (there.before ++ delivering told.number ∷ []) there.later (subst (λ (s : List WorldStep). steps_are_taken setup world_opening s ≡ true) there.order taken)

      pub comes_so : IsBack setup steps within b wait
      comes_so = record {
        before = back.before;
        number = took.number;
        later = back.later;
        order = back.order;
        text = took.text;
        copy = record { post = took.copy.post; found = back.sent; sender = took.copy.sender; goes = took.copy.goes; inside = took.copy.inside };
        reads = reads_so setup (there.before ++ delivering told.number ∷ []) b.id took.text first_taken
            (one_from_any (λ (one : KeptFirst). (one.id ≡ b.id) × (one.answer ≡ took.text)) (firsts_in (agent_history setup (plain_world setup (there.before ++ delivering told.number ∷ [])))) took.stored);
        no_sooner = back_since;
        no_later = back_by;
      }

      posted_then : told.number < length (plain_world setup back.before).posted
      posted_then =
          found_within (plain_world setup back.before).posted told.number told.post
          (subst (λ (s : List WorldStep). slice_get (plain_world setup s).posted told.number ≡ Some told.post) (sym behind.1)
          (stays_found setup b.id there.before behind.0 told.number told.post there.sent))

      pub comes_behind_so : IsBackBehind setup steps within b wait told.number
      unfolding comes_so
      comes_behind_so = record { is = comes_so; behind = posted_then }

  pub comes_behind : (wait : ℕ) (told : IsToldAfter setup w b wait) → since ≤ b.moment + wait → b.moment + wait + 2 * within ≤ now_in setup w → IsBackBehind setup steps within b wait told.number
  comes_behind wait told late twice = comes_behind_so wait told late (half_late b.moment wait within (now_in setup w) twice) twice

  -- its answer comes so
  pub comes_in_time : (wait : ℕ) → IsToldAfter setup w b wait → since ≤ b.moment + wait → b.moment + wait + 2 * within ≤ now_in setup w → IsBack setup steps within b wait
  comes_in_time wait told late twice = comes_so wait told late (half_late b.moment wait within (now_in setup w) twice) twice

  -- by the next of its sends
  abbrev Chance : ℕ → Type 0
  Chance wait = b.moment + wait ≤ now_in setup w → IsToldAfter setup w b wait

  next : since ≤ b.moment + last_chance → All Chance chances → IsNext Chance since b.moment
  next late told = next_send Chance since b.moment late (each_from_all Chance chances told)

  taken_next : IsNext Chance since b.moment → b.moment + within ≤ now_in setup w → since + longest_pause + within ≤ now_in setup w + 1 → WasTaken
  taken_next is own by =
      let late : b.moment + is.wait + within ≤ now_in setup w = wait_late since b.moment is.wait within (now_in setup w) is.soon own by in
      taken_by is.wait (is.has (wait_past b.moment is.wait within (now_in setup w) late)) is.late late

  answered_next : IsNext Chance since b.moment → b.moment + 2 * within ≤ now_in setup w → since + longest_pause + 2 * within ≤ now_in setup w + 1 → HasCome w b.id
  answered_next is own by =
      let twice : b.moment + is.wait + 2 * within ≤ now_in setup w = wait_late since b.moment is.wait (2 * within) (now_in setup w) is.soon own by in
      answered_by is.wait (is.has (wait_past b.moment is.wait (2 * within) (now_in setup w) twice)) is.late (half_late b.moment is.wait within (now_in setup w) twice) twice

  pub taken_since : HasCome w b.id ⊎ All Chance chances → since ≤ b.moment + last_chance → b.moment + within ≤ now_in setup w
      → since + longest_pause + within ≤ now_in setup w + 1 → WasTaken
  taken_since (inl come) late own by = come_taken setup set_up steps b.id taken come
  taken_since (inr told) late own by = taken_next (next late told) own by

  pub answered_since : HasCome w b.id ⊎ All Chance chances → since ≤ b.moment + last_chance → b.moment + 2 * within ≤ now_in setup w
      → since + longest_pause + 2 * within ≤ now_in setup w + 1 → HasCome w b.id
  answered_since (inl come) late own by = come
  answered_since (inr told) late own by = answered_next (next late told) own by
