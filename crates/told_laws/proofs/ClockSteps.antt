-- A step takes the clock of a world 1,000 ms further at most.
use Rattle.std.proofs.Common.{◌≡◌, ℕ, ◌+◌, ◌≤◌, ◌^◌, Bool, true, false, ◌||◌, if◌then◌else◌, List, [], ◌∷◌, ◌++◌, Some, None, refl, sym, subst, arith}
use Rattle.std.specs.Prelude.{nat_le, nat_lt}
use Rattle.std.proofs.lemmas.Bool.{ltb-false}
use Rattle.mg_line.specs.declared.phone.Act.{Act}
use Rattle.plain_machine.specs.declared.setup.Setup.{Setup}
use Rattle.plain_machine.specs.Event.{phone, tick}
use Rattle.plain_machine.specs.Refusing.{refusal_of, tick_refusal}
use Rattle.agent_core.specs.World.{World, WorldStep, delivering, dialling, gateway_in, issuing, now_in, plain_world, step_refusal, steps_are_taken, ticking, went, world_opening}
use Rattle.world_laws.proofs.WorldLaws.{gateway_clock, gateway_taken, tick_is}
use Rattle.world_laws.proofs.ChanceLaws.{handed_now}
use Rattle.world_laws.proofs.FairLaws.{taken_last}
use Rattle.world_laws.proofs.PostedFinal.{step_more}

same_soon : (a b : ℕ) → a ≡ b → a ≤ b + 1000
same_soon a b same = omega (arith, same)

not_far : {X : Type 0} (far other back : Bool) (x y : X) → (if far || other then Some x else (if back then Some y else None)) ≡ None → far ≡ false
not_far true other back x y none = absurd cc
not_far false other back x y none = refl

tick_soon : (now moment : ℕ) → tick_refusal now moment ≡ None → moment ≤ now + 1000
tick_soon now moment none = ltb-false (now + 1000) moment (not_far (nat_lt (now + 1000) moment) (nat_le (2 ^ 62) moment) (nat_lt moment now) _ _ none)

issued_soon : (setup : Setup) (w : World) (verb name rest : List ℕ) → now_in setup (went setup w (issuing verb name rest)) ≤ now_in setup w + 1000
unfolding went
issued_soon setup w verb name rest = omega arith

dialled_soon : (setup : Setup) (w : World) (line : ℕ) (act : Act) → now_in setup (went setup w (dialling line act)) ≤ now_in setup w + 1000
unfolding went
dialled_soon setup w line act = same_soon _ _ (gateway_clock setup w (phone line act))

ticked_soon : (setup : Setup) (w : World) (moment : ℕ) → step_refusal setup w (ticking moment) ≡ None → now_in setup (went setup w (ticking moment)) ≤ now_in setup w + 1000
unfolding went step_refusal
ticked_soon setup w moment none =
    subst (λ (n : ℕ). n ≤ now_in setup w + 1000) (sym (gateway_clock setup w (tick moment)))
    (tick_soon (now_in setup w) moment (tick_is (gateway_in setup w) moment (gateway_taken (refusal_of (gateway_in setup w) (tick moment)) none)))

pub step_soon : (setup : Setup) (front : List WorldStep) (step : WorldStep) → steps_are_taken setup world_opening (front ++ step ∷ []) ≡ true
    → now_in setup (plain_world setup (front ++ step ∷ [])) ≤ now_in setup (plain_world setup front) + 1000
step_soon setup front step taken = by_step step taken where
  Soon : WorldStep → Type 0
  Soon one = now_in setup (plain_world setup (front ++ one ∷ [])) ≤ now_in setup (plain_world setup front) + 1000

  so : (one : WorldStep) → now_in setup (went setup (plain_world setup front) one) ≤ now_in setup (plain_world setup front) + 1000 → Soon one
  so one soon = subst (λ (w : World). now_in setup w ≤ now_in setup (plain_world setup front) + 1000) (sym (step_more setup front one)) soon

  by_step : (one : WorldStep) → steps_are_taken setup world_opening (front ++ one ∷ []) ≡ true → Soon one
  by_step (issuing verb name rest) taken = so (issuing verb name rest) (issued_soon setup (plain_world setup front) verb name rest)
  by_step (dialling line act) taken = so (dialling line act) (dialled_soon setup (plain_world setup front) line act)
  by_step (ticking moment) taken =
      so (ticking moment) (ticked_soon setup (plain_world setup front) moment (taken_last setup world_opening front (ticking moment) taken))
  by_step (delivering number) taken = same_soon _ _ (handed_now setup front number)
