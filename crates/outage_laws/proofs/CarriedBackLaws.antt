-- Of eight copies of a command of the gateway's own one that the network carries is enough.
use Rattle.std.proofs.Common.{◌≡◌, ◌≢◌, ℕ, suc, ◌+◌, ◌≤◌, true, List, [], ◌∷◌, ◌++◌, length, Option, Some, inl, inr, refl, sym, ap, ◌∙◌, arith, append_assoc}
use Rattle.std.specs.Prelude.{◌⊎◌, All, Any, slice_get, unwrap_or}
use Rattle.retransmission.specs.Sends.{most_repeats}
use Rattle.plain_machine.specs.declared.setup.Setup.{Setup}
use Rattle.plain_machine.specs.Setup.{IsSetUp}
use Rattle.plain_machine.specs.Message.{Begun}
use Rattle.machine_laws.proofs.EachLemmas.{Each, each_from_all, each_weaker, one_from_any}
use Rattle.agent_core.specs.declared.packet.End.TheVariants.{GatewayEnd as gateway_end}
use Rattle.agent_core.specs.declared.packet.Posted.{Posted}
use Rattle.agent_core.specs.World.{World, WorldStep, delivering, now_in, plain_world, steps_are_taken, world_opening}
use Rattle.world_laws.specs.Reached.{Reached, taken_in}
use Rattle.world_laws.specs.Chances.{chances, last_chance}
use Rattle.world_laws.specs.Copies.{IsCopy}
use Rattle.world_laws.specs.Fairness.{GoesToAgent}
use Rattle.world_laws.specs.OwnChances.{HasCome, IsOfLine, IsToldAfter}
use Rattle.world_laws.specs.Taking.{IsTaken}
use Rattle.world_laws.proofs.TakeLaws.{AreApart, chances_apart, chances_low, one_spared}
use Rattle.world_laws.proofs.FairLaws.{stays_found}
use Rattle.world_laws.proofs.GatewayChanceLaws.{announced_eight_times}
use Rattle.world_laws.proofs.LookLemmas.{each_two}
use Rattle.outage_laws.specs.Carrying.{IsCarriedBack, IsHandedBack}
use Rattle.outage_laws.proofs.OwnCopyLemmas.{comes_back, own_of, stays_taken, take_copy, told_copy}
use Rattle.outage_laws.proofs.EachLine.{each_told}
use Rattle.outage_laws.proofs.OwnReaches.{own_reaches}
use Rattle.outage_laws.proofs.PlainArrivals.{come_taken}

-- The numbers of the eight

module _ (setup : Setup) (w : World) (b : Begun) where
  numbers : (waits : List ℕ) → Each (IsToldAfter setup w b) waits → List ℕ
  numbers [] all = []
  numbers (wait ∷ waits) all = all.0.number ∷ numbers waits all.1

  same_post : (one other : Posted) → Some one ≡ Some other → one ≡ other
  same_post one other same = ap (λ (o : Option Posted). unwrap_or o one) same

  -- of two moments there are two packets
  two_numbers : (wait other : ℕ) (one : IsToldAfter setup w b wait) (next : IsToldAfter setup w b other) → wait ≢ other → one.number ≢ next.number
  two_numbers wait other one next apart same =
      let post : one.post ≡ next.post = same_post one.post next.post (sym one.found ∙ ap (slice_get w.posted) same ∙ next.found) in
      let moments : b.moment + wait ≡ b.moment + other = sym one.moment ∙ ap (λ (p : Posted). p.packet.moment) post ∙ next.moment in
      apart (omega (arith, moments))

  one_apart : (wait : ℕ) (one : IsToldAfter setup w b wait) (waits : List ℕ) (all : Each (IsToldAfter setup w b) waits) → Each (λ (other : ℕ). wait ≢ other) waits
      → Each (λ (n : ℕ). one.number ≢ n) (numbers waits all)
  unfolding numbers
  one_apart wait one [] all apart = tt
  one_apart wait one (other ∷ waits) all apart = (two_numbers wait other one all.0 apart.0, one_apart wait one waits all.1 apart.1)

  all_apart : (waits : List ℕ) (all : Each (IsToldAfter setup w b) waits) → AreApart waits → AreApart (numbers waits all)
  unfolding numbers
  all_apart [] all apart = tt
  all_apart (wait ∷ waits) all apart = (one_apart wait all.0 waits all.1 apart.0, all_apart waits all.1 apart.1)

  all_copies : (goes : (wait : ℕ) (told : IsToldAfter setup w b wait) → IsCopy setup w gateway_end b.text told.number)
      → (waits : List ℕ) (all : Each (IsToldAfter setup w b) waits) → Each (IsCopy setup w gateway_end b.text) (numbers waits all)
  unfolding numbers
  all_copies goes [] all = tt
  all_copies goes (wait ∷ waits) all = (goes wait all.0, all_copies goes waits all.1)

  as_many : (waits : List ℕ) (all : Each (IsToldAfter setup w b) waits) → length (numbers waits all) ≡ length waits
  unfolding numbers
  as_many [] all = refl
  as_many (wait ∷ waits) all = ap (λ (n : ℕ). suc n) (as_many waits all.1)

-- A carried copy is taken and answered

module _ (setup : Setup) (steps : List WorldStep) (line : ℕ) (b : Begun) (lost : List ℕ) (set_up : IsSetUp setup) (taken : steps_are_taken setup world_opening steps ≡ true)
    (of : IsOfLine setup (plain_world setup steps) line b) (reach : GoesToAgent setup (plain_world setup steps) b.text)
    (late : b.moment + last_chance ≤ now_in setup (plain_world setup steps)) (few : length lost ≤ most_repeats)
    (carries : (number : ℕ) → IsCopy setup (plain_world setup steps) gateway_end b.text number → (Any (λ (n : ℕ). n ≡ number) lost → ⊥) → IsCarriedBack setup steps b number) where
  abbrev w : World
  w = plain_world setup steps

  abbrev pub IsServed : Type 0
  IsServed = Any (λ (one : Reached). one.asked.id ≡ b.id) (taken_in w) × HasCome w b.id

  back_order : (first rest between later : List WorldStep) (number : ℕ) → steps ≡ first ++ rest → rest ≡ (between ++ delivering number ∷ []) ++ later
      → steps ≡ ((first ++ between) ++ delivering number ∷ []) ++ later
  back_order first rest between later number order is =
      order ∙ ap (λ (x : List WorldStep). first ++ x) is ∙ sym (append_assoc first (between ++ delivering number ∷ []) later)
      ∙ ap (λ (x : List WorldStep). x ++ later) (sym (append_assoc first between (delivering number ∷ [])))

  carried : (number : ℕ) → IsCarriedBack setup steps b number → IsServed
  carried number c = (
    stays_taken setup steps b set_up taken (own_of setup w line b of) c.before c.rest number c.order took,
    comes_back setup steps b set_up taken (own_of setup w line b of) c.before c.rest number c.order took (first ++ back.between) back.later
        (back_order first c.rest back.between back.later took.number c.order back.order)
        (stays_found setup b.id first back.between took.number took.copy.post took.copy.found),
  ) where
    first : List WorldStep
    first = c.before ++ delivering number ∷ []

    took : IsTaken setup (plain_world setup c.before) (plain_world setup (c.before ++ delivering number ∷ [])) b.id
    took = take_copy setup steps b set_up taken (own_of setup w line b of) c.before c.rest number c.order c.copy c.room

    back : IsHandedBack c.rest took.number
    back = c.back took

  soon_enough : (waits : List ℕ) → Each (λ (wait : ℕ). wait ≤ last_chance) waits → Each (λ (wait : ℕ). b.moment + wait ≤ now_in setup w → IsToldAfter setup w b wait) waits
      → Each (IsToldAfter setup w b) waits
  soon_enough waits low told = each_weaker (λ (wait : ℕ). (wait ≤ last_chance) × (b.moment + wait ≤ now_in setup w → IsToldAfter setup w b wait)) (IsToldAfter setup w b)
      (λ wait both. both.1 (omega (arith, late, both.0))) waits (each_two (λ (wait : ℕ). wait ≤ last_chance) (λ (wait : ℕ). b.moment + wait ≤ now_in setup w → IsToldAfter setup w b wait) waits low told)

  pub served : HasCome w b.id ⊎ All (λ (wait : ℕ). b.moment + wait ≤ now_in setup w → IsToldAfter setup w b wait) chances → IsServed
  served (inl come) = (come_taken setup set_up steps b.id taken come, come)
  served (inr told) =
      let all = soon_enough chances chances_low (each_from_all (λ (wait : ℕ). b.moment + wait ≤ now_in setup w → IsToldAfter setup w b wait) chances told) in
      let many : length (numbers setup w b chances all) ≡ most_repeats + 1 = as_many setup w b chances all in
      let copies = all_copies setup w b (λ wait one. told_copy setup steps b set_up taken (own_of setup w line b of) reach wait one w one.found) chances all in
      let spared = one_spared (IsCopy setup w gateway_end b.text) lost (numbers setup w b chances all) (all_apart setup w b chances all chances_apart) (omega (arith, few, many)) copies in
      carried spared.0 (carries spared.0 spared.1 (λ any. spared.2 (one_from_any (λ (n : ℕ). n ≡ spared.0) lost any)))

pub line_served : (setup : Setup) (steps : List WorldStep) (line : ℕ) (b : Begun) (lost : List ℕ) → IsSetUp setup → steps_are_taken setup world_opening steps ≡ true
    → let w = plain_world setup steps in IsOfLine setup w line b → GoesToAgent setup w b.text
    → b.moment + last_chance ≤ now_in setup w → length lost ≤ most_repeats
    → ((number : ℕ) → IsCopy setup w gateway_end b.text number → (Any (λ (n : ℕ). n ≡ number) lost → ⊥) → IsCarriedBack setup steps b number)
    → Any (λ (one : Reached). one.asked.id ≡ b.id) (taken_in w) × HasCome w b.id
line_served setup steps line b lost set_up taken of reach late few carries =
    served setup steps line b lost set_up taken of reach late few carries (each_told setup steps line b set_up taken of)

pub own_served : (setup : Setup) (steps : List WorldStep) (b : Begun) (lost : List ℕ) → IsSetUp setup → steps_are_taken setup world_opening steps ≡ true
    → let w = plain_world setup steps in IsOfLine setup w 0 b → b.moment + last_chance ≤ now_in setup w → length lost ≤ most_repeats
    → ((number : ℕ) → IsCopy setup w gateway_end b.text number → (Any (λ (n : ℕ). n ≡ number) lost → ⊥) → IsCarriedBack setup steps b number)
    → Any (λ (one : Reached). one.asked.id ≡ b.id) (taken_in w) × HasCome w b.id
own_served setup steps b lost set_up taken of late few carries =
    served setup steps 0 b lost set_up taken of (own_reaches setup set_up steps b taken of) late few carries (announced_eight_times setup steps b set_up taken of)
