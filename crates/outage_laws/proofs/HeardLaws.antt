-- The agent's firsts, each with its life: they are those that it keeps, and each command of a life that has numbers
-- left is one once at most.
use Rattle.std.proofs.Common.{◌≡◌, ◌≢◌, ℕ, ◌-◌, ◌<◌, Bool, true, false, if◌then◌else◌, List, [], ◌∷◌, ◌++◌, map, length, Option, Some, None, refl, sym, ap, ◌∙◌, subst, arith}
use Rattle.std.specs.Prelude.{AllPairs, flat_map, fold, slice_get}
use Rattle.std.specs.List.{slice_index_or}
use Rattle.std.proofs.lemmas.List.{map-append, length-map, get_or-map}
use Rattle.transmission.specs.Firsts.{Kind, a_first, a_repeat, lost, kind_of, firsts_of}
use Rattle.transmission.specs.Kept.{firsts_in}
use Rattle.transmission.specs.Memory.{memory_time, most_firsts}
use Rattle.transmission.proofs.BareLaws.{firsts_bare}
use Rattle.plain_machine.specs.declared.setup.Setup.{Setup}
use Rattle.plain_machine.specs.Setup.{IsSetUp}
use Rattle.plain_machine.specs.Event.{datagram, tick}
use Rattle.machine_laws.specs.Saying.{HasNumbersLeft}
use Rattle.machine_laws.proofs.EachLemmas.{Each, all_from_each, each_from_all, each_push}
use Rattle.call_agent.specs.Agent.{AgentMachine, agent_opening, nothing_taken}
use Rattle.call_agent.specs.Hearing.{AgentEvent, agent_after, agent_effect, hears, issues}
use Rattle.call_agent.specs.Taking.{with_taken}
use Rattle.call_agent.proofs.EventLemmas.{after_on}
use Rattle.agent_core.specs.declared.packet.End.{End}
use Rattle.agent_core.specs.declared.packet.Packet.{Packet}
use Rattle.agent_core.specs.declared.packet.End.TheVariants.{AgentEnd as agent_end, GatewayEnd as gateway_end}
use Rattle.agent_core.specs.World.{agent_of, delivering, dialling, gateway_address, is_among, issuing, ticking}
use Rattle.world_laws.specs.Reached.{Reached, added_by, as_arrival, executed_with, key_kept, key_reached, reached, taken_with}
use Rattle.world_laws.proofs.AgentFirsts.{KeepsSo, keeps_on, keys_from}
use Rattle.world_laws.proofs.AgentLaws.{alone}
use Rattle.world_laws.proofs.LinkLaws.{arrives_with}
use Rattle.world_laws.proofs.ReachedLaws.{Apart, executed_apart, executed_is}
use Rattle.world_laws.proofs.WorldLaws.{same_issued}
use Rattle.transmission.specs.Packing.{same_address}
use Rattle.outage_laws.specs.Lives.{Brought, Life, Letter, LivesWorld, LivesStep, agent_then, brought_by, clock_of, comes_with, handed, handed_from, lived, lives_after, lives_are_taken, lives_of, lives_opening, number_of, plain_lives, restarting, stepping, to_agent_of, to_life}
use Rattle.outage_laws.specs.Apart.{AllHaveNumbersLeft, OfLife, added_as, begun_of, firsts_of_lives, own_of, taken_after, what_came}
use Rattle.outage_laws.proofs.PairLemmas.{of_both, of_life_to, of_life_weaker, of_life_with}
use Rattle.outage_laws.proofs.LifeSays.{IsLife, life_apart}
use Rattle.outage_laws.proofs.LinkedLives.{IsBegunBy, IsBrought, lives_stand}

-- What came without its lives

added_is : (kind : Kind) (firsts : List Brought) (one : Brought) → map what_came (added_as kind firsts one) ≡ added_by kind (map what_came firsts) one.reached
added_is a_first firsts one = map-append what_came firsts (one ∷ [])
added_is (a_repeat copied) firsts one = refl
added_is lost firsts one = refl

firsts_are_from : (brought firsts : List Brought) → map what_came (fold taken_after firsts brought) ≡ fold executed_with (map what_came firsts) (map what_came brought)
unfolding taken_after executed_with
firsts_are_from [] firsts = refl
firsts_are_from (one ∷ brought) firsts =
    firsts_are_from brought (taken_after firsts one)
    ∙ ap (λ (x : List Reached). fold executed_with x (map what_came brought))
    (added_is (kind_of most_firsts (map as_arrival (map what_came firsts)) (as_arrival one.reached)) firsts one)

pub firsts_are : (brought : List Brought) → map what_came (fold taken_after [] brought) ≡ fold executed_with [] (map what_came brought)
firsts_are brought = firsts_are_from brought []

added_each : (P : Brought → Type 0) (kind : Kind) (firsts : List Brought) (one : Brought) → Each P firsts → P one → Each P (added_as kind firsts one)
added_each P a_first firsts one all is = each_push P firsts one all is
added_each P (a_repeat copied) firsts one all is = all
added_each P lost firsts one all is = all

firsts_each_from : (P : Brought → Type 0) (brought firsts : List Brought) → Each P firsts → Each P brought → Each P (fold taken_after firsts brought)
unfolding taken_after
firsts_each_from P [] firsts all each = all
firsts_each_from P (one ∷ brought) firsts all each =
    firsts_each_from P brought (taken_after firsts one) (added_each P (kind_of most_firsts (map as_arrival (map what_came firsts)) (as_arrival one.reached)) firsts one all each.0) each.1

-- what holds of all that came holds of the firsts
pub firsts_each : (P : Brought → Type 0) (brought : List Brought) → Each P brought → Each P (fold taken_after [] brought)
firsts_each P brought each = firsts_each_from P brought [] tt each

-- no two firsts with one id are less than 30,000 ms apart
pub firsts_apart : (brought : List Brought) → AllPairs (λ (first later : Brought). Apart first.reached later.reached) (fold taken_after [] brought)
firsts_apart brought = λ i j d less within same.
    let firsts = fold taken_after [] brought in
    let pairs : AllPairs Apart (map what_came firsts) = subst (AllPairs Apart) (sym (firsts_are brought)) (executed_apart (map what_came brought)) in
    let inside : j < length (map what_came firsts) = omega (arith, within, length-map firsts what_came) in
    let first = get_or-map what_came firsts i d (what_came d) (omega (arith, less, within)) in
    let later = get_or-map what_came firsts j d (what_came d) within in
    let far = pairs i j (what_came d) less inside (ap (λ (x : Reached). x.asked.id) first ∙ same ∙ sym (ap (λ (x : Reached). x.asked.id) later)) in
    omega (arith, far, ap (λ (x : Reached). x.asked.moment) first, ap (λ (x : Reached). x.asked.moment) later)

-- The agent keeps them

abbrev KeepsLives : Setup → LivesWorld → Type 0
KeepsLives setup w = KeepsSo (agent_of setup) (agent_then setup w) (map what_came w.brought)

came_is : (now : ℕ) (event : AgentEvent) → flat_map reached (arrives_with now event) ≡ comes_with now event
came_is now (issues verb name rest) = refl
came_is now (hears event) = refl

bare : (number : ℕ) (ones : List Reached) → map what_came (map (brought_by number) ones) ≡ ones
bare number [] = refl
bare number (one ∷ ones) = ap (λ (x : List Reached). one ∷ x) (bare number ones)

agent_keeps : (setup : Setup) (number : ℕ) (w : LivesWorld) (event : AgentEvent) → KeepsLives setup w → KeepsLives setup (to_agent_of setup number w event)
agent_keeps setup number w event k =
    subst (λ (m : AgentMachine). KeepsSo (agent_of setup) m (map what_came (to_agent_of setup number w event).brought))
    (sym (after_on (agent_of setup) (agent_opening (agent_of setup)) w.agent_took (event ∷ []) ∙ alone (agent_of setup) (agent_then setup w) event))
    (subst (KeepsSo (agent_of setup) (agent_effect (agent_of setup) (agent_then setup w) event).machine)
    (sym (map-append what_came w.brought (map (brought_by number) (comes_with (clock_of setup w) event))
    ∙ ap (λ (x : List Reached). map what_came w.brought ++ x) (bare number (comes_with (clock_of setup w) event) ∙ sym (came_is (clock_of setup w) event))))
    (keeps_on (agent_of setup) (agent_then setup w) event (map what_came w.brought) k))

handed_keeps : (setup : Setup) (number : ℕ) (w : LivesWorld) (end : End) (packet : Packet) → KeepsLives setup w → KeepsLives setup (handed_from end setup number w packet)
handed_keeps setup number w agent_end packet k = by_test (same_address packet.to (gateway_address w.life.setup)) where
  by_test : (b : Bool) → KeepsLives setup (if b then to_life w (datagram packet.sender packet.bytes) else w)
  by_test true = k
  by_test false = k
handed_keeps setup number w gateway_end packet k = by_test (is_among setup.agent.route packet.to) where
  by_test : (b : Bool) → KeepsLives setup (if b then to_agent_of setup number w (hears (datagram packet.sender packet.bytes)) else w)
  by_test true = agent_keeps setup number w (hears (datagram packet.sender packet.bytes)) k
  by_test false = k

step_keeps : (setup : Setup) (w : LivesWorld) (step : LivesStep) → KeepsLives setup w → KeepsLives setup (lived setup w step)
unfolding lived
step_keeps setup w (restarting first) k = k
step_keeps setup w (stepping (issuing verb name rest)) k = agent_keeps setup (number_of w) w (issues verb name rest) k
step_keeps setup w (stepping (dialling line act)) k = k
step_keeps setup w (stepping (ticking moment)) k = agent_keeps setup (number_of w) (to_life w (tick (moment - w.life.start))) (hears (tick moment)) k
step_keeps setup w (stepping (delivering number)) k = by_letter (slice_get w.letters number) where
  by_letter : (found : Option Letter) → KeepsLives setup (handed found setup w)
  by_letter None = k
  by_letter (Some letter) = handed_keeps setup letter.life w letter.post.end letter.post.packet k

steps_keep : (setup : Setup) (w : LivesWorld) (steps : List LivesStep) → KeepsLives setup w → KeepsLives setup (lives_after setup w steps)
unfolding lives_after
steps_keep setup w [] k = k
steps_keep setup w (step ∷ steps) k = steps_keep setup (lived setup w step) steps (step_keeps setup w step k)

opening_keeps : (setup : Setup) → KeepsLives setup (lives_opening setup)
unfolding agent_after
opening_keeps setup = record { earlier = []; keeps = refl; same = refl; taken = refl }

lives_keep : (setup : Setup) (steps : List LivesStep) → KeepsLives setup (plain_lives setup steps)
lives_keep setup steps = steps_keep setup (lives_opening setup) steps (opening_keeps setup)

-- the firsts that the agent keeps are these
pub firsts_are_kept : (setup : Setup) (steps : List LivesStep)
    → map key_kept (firsts_in (agent_then setup (plain_lives setup steps)).history) ≡ map key_reached (map what_came (firsts_of_lives (plain_lives setup steps)))
firsts_are_kept setup steps =
    let w = plain_lives setup steps in
    let k = lives_keep setup steps in
    keys_from (agent_then setup w).history (firsts_of most_firsts k.earlier) (map what_came (firsts_of_lives w)) k.keeps
    (ap (map as_arrival) (firsts_are w.brought) ∙ executed_is (map what_came w.brought) ∙ ap (firsts_of most_firsts) k.same ∙ firsts_bare most_firsts k.earlier)

-- and what it has taken is what they told
pub firsts_tell : (setup : Setup) (steps : List LivesStep)
    → (agent_then setup (plain_lives setup steps)).taken
    ≡ fold with_taken (nothing_taken (agent_of setup)) (flat_map (taken_with (agent_of setup)) (map what_came (firsts_of_lives (plain_lives setup steps))))
firsts_tell setup steps =
    (lives_keep setup steps).taken
    ∙ ap (λ (x : List Reached). fold with_taken (nothing_taken (agent_of setup)) (flat_map (taken_with (agent_of setup)) x)) (sym (firsts_are (plain_lives setup steps).brought))

-- Each is one once at most

pub firsts_once : (setup : Setup) (steps : List LivesStep) → IsSetUp setup → lives_are_taken setup (lives_opening setup) steps ≡ true → AllHaveNumbersLeft (lives_of (plain_lives setup steps))
    → AllPairs (λ (first later : Brought). first.life ≡ later.life → first.reached.asked.id ≢ later.reached.asked.id) (firsts_of_lives (plain_lives setup steps))
firsts_once setup steps set_up taken few = λ i j d less within one_life same.
    let w = plain_lives setup steps in
    let s = lives_stand setup steps set_up taken in
    let lives = lives_of w in
    let firsts = firsts_of_lives w in
    let first = slice_index_or firsts i d in
    let later = slice_index_or firsts j d in
    let each = all_from_each (IsBrought lives) firsts (firsts_each (IsBrought lives) w.brought s.linked.came) in
    let came : OfLife (IsBegunBy first.reached) lives first.life = each i d (omega (arith, less, within)) in
    let comes : OfLife (IsBegunBy later.reached) lives first.life = subst (OfLife (IsBegunBy later.reached) lives) (sym one_life) (each j d within) in
    let far = firsts_apart w.brought i j d less within same in
    let near : later.reached.asked.moment - first.reached.asked.moment < memory_time =
    of_life_to (λ (life : Life). (IsLife (clock_of setup w) life × HasNumbersLeft (own_of life)) × (IsBegunBy first.reached life × IsBegunBy later.reached life)) _ lives first.life
    (λ life all. same_issued (begun_of life) (life_apart (clock_of setup w) life all.0.0 all.0.1) first.reached later.reached all.1.0 all.1.1 same)
    (of_both (λ (life : Life). IsLife (clock_of setup w) life × HasNumbersLeft (own_of life)) (λ (life : Life). IsBegunBy first.reached life × IsBegunBy later.reached life) lives first.life
    (of_life_with (IsLife (clock_of setup w)) (λ (life : Life). HasNumbersLeft (own_of life)) lives first.life s.linked.each
    (of_life_weaker (λ (life : Life). HasNumbersLeft (own_of life) × IsBegunBy first.reached life) (λ (life : Life). HasNumbersLeft (own_of life)) lives first.life (λ life both. both.0)
    (of_life_with (λ (life : Life). HasNumbersLeft (own_of life)) (IsBegunBy first.reached) lives first.life (each_from_all (λ (life : Life). HasNumbersLeft (own_of life)) lives few) came)))
    (of_both (IsBegunBy first.reached) (IsBegunBy later.reached) lives first.life came comes)) in
    absurd (omega (arith, far, near))
