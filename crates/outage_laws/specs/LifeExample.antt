-- The lives of the worked examples: the gateway of two lines is announced and starts again.
use Rattle.std.specs.Prelude.{ℕ, List, [], ◌∷◌, ◌++◌, map, ◌+◌, ◌==◌, if◌then◌else◌}
use Rattle.packages.specs.declared.observed.Observed.{Observed}
use Rattle.mg_line.specs.declared.phone.Act.TheVariants.{OffHook}
use Rattle.plain_machine.specs.Example.{two_lines}
use Rattle.plain_machine.specs.Message.{Begun}
use Rattle.call_agent.specs.Agent.{observed_on}
use Rattle.agent_core.specs.World.{WorldStep, ticking, delivering, dialling}
use Rattle.world_laws.specs.Example.{announced}
use Rattle.outage_laws.specs.Lives.{Brought, Life, LivesWorld, LivesStep, stepping, restarting, plain_lives, agent_then}
use Rattle.outage_laws.specs.Apart.{firsts_of_lives}

abbrev pub lives : List LivesStep → LivesWorld
lives steps = plain_lives two_lines steps

abbrev pub in_one_life : List WorldStep → List LivesStep
in_one_life steps = map stepping steps

-- the gateway is announced, by packets 0 and 1; line 1 goes off hook, and its notification, packet 2, is taken and answered by packet
-- 3, which is lost
abbrev pub first_life : List LivesStep
first_life = in_one_life (announced ++ dialling 1 OffHook ∷ delivering 2 ∷ [])

-- it starts again with this number: packets 4 and 5 announce it, line 1 goes off hook, and packet 6 notifies that
abbrev pub second_life : ℕ → List LivesStep
second_life first = restarting first ∷ in_one_life (ticking 2 ∷ delivering 4 ∷ delivering 5 ∷ dialling 1 OffHook ∷ delivering 6 ∷ [])

abbrev pub both_lives : ℕ → List LivesStep
both_lives first = first_life ++ second_life first

-- what the agent was told of line 1
abbrev pub told_after : List LivesStep → List Observed
told_after steps = observed_on 1 (agent_then two_lines (lives steps))

-- the texts of all packets, and of which lives they are
abbrev pub texts_after : List LivesStep → List (List ℕ)
texts_after steps = map (λ letter. letter.post.packet.bytes) (lives steps).letters

abbrev pub owners_after : List LivesStep → List ℕ
owners_after steps = map (λ letter. letter.life) (lives steps).letters

-- under which id a command began, and when
abbrev pub begun_key : Begun → ℕ × ℕ
begun_key one = (one.id, one.moment)

abbrev pub moments_after : List LivesStep → List ℕ
moments_after steps = map (λ letter. letter.post.packet.moment) (lives steps).letters

-- by which life, and under which id
abbrev pub brought_key : Brought → ℕ × ℕ
brought_key one = (one.life, one.reached.asked.id)

abbrev pub firsts_after : List LivesStep → List (ℕ × ℕ)
firsts_after steps = map brought_key (firsts_of_lives (lives steps))

-- Starts that wait. The world begins at 300 ms of the day.

-- the first number is 0, of 0 ms of the day, and 300 ms later its life starts; the notification is answered
abbrev pub waited_first : List LivesStep
waited_first = in_one_life (announced ++ dialling 1 OffHook ∷ delivering 2 ∷ delivering 3 ∷ ticking 1001 ∷ ticking 2001 ∷ [])

-- the second life starts at 2,301 ms of the day, with this number; it is announced, and line 1 goes off hook
abbrev pub waited_lives : ℕ → List LivesStep
waited_lives first =
    waited_first ++ restarting first ∷ in_one_life (ticking 2002 ∷ delivering 4 ∷ delivering 5 ∷ dialling 1 OffHook ∷ [])

-- the number of the second was drawn at 1,800 ms of the day, 501 ms before
abbrev pub drawn_then : Life → ℕ
drawn_then life = if life.start == 0 then 0 else 1800
